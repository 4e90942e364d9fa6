-- The parts of a cygheap's bytes around its bases and its children.
use Rattle.std.specs.Prelude.{◌≡◌, ℕ, ◌+◌, ◌-◌, ◌*◌, List, ◌++◌, length, flat_map, replicate}
use Rattle.std.proofs.Common.{refl, sym, ◌∙◌, arith, append_assoc, length-append}
use Rattle.layer_spec.specs.Heap.{HeapFields, HeapChild, IsHeap, heap_bytes, two_bytes, four_bytes, action_bytes}
use Rattle.layer_spec.specs.Heap.{child_bytes}
use Rattle.layer_spec.specs.HeapLaws.{head_of, tail_of, heap_sizes, around_actions}

-- the bytes before the bases
unfoldable pub front_of : HeapFields → List ℕ
front_of h = head_of h.mask h.owed h.saved ++ flat_map action_bytes h.actions

pub length-front_of : (h : HeapFields) → IsHeap h → length (front_of h) ≡ 140
unfolding front_of
length-front_of h legal =
    let sizes = heap_sizes h legal in
    omega (
      arith,
      length-append (head_of h.mask h.owed h.saved) (flat_map action_bytes h.actions),
      sizes.head_size,
      sizes.action_size,
    )

pub around_bases : (h : HeapFields) → heap_bytes h
    ≡ front_of h ++ (flat_map two_bytes h.bases ++ (four_bytes (length h.children) ++ tail_of h))
unfolding front_of
around_bases h =
    around_actions h
    ∙ sym (append_assoc (head_of h.mask h.owed h.saved) (flat_map action_bytes h.actions)
    (flat_map two_bytes h.bases ++ (four_bytes (length h.children) ++ tail_of h)))

-- the bytes before the number of children
unfoldable pub body_of : HeapFields → List ℕ
body_of h = front_of h ++ flat_map two_bytes h.bases

pub length-body_of : (h : HeapFields) → IsHeap h → length (body_of h) ≡ 156
unfolding body_of
length-body_of h legal =
    omega (
      arith,
      length-append (front_of h) (flat_map two_bytes h.bases),
      length-front_of h legal,
      (heap_sizes h legal).base_size,
    )

-- the bytes of children and of the places past them
unfoldable pub rows_of : List HeapChild → List ℕ
rows_of children = flat_map child_bytes children ++ replicate (4 * (32 - length children)) 0

pub around_count : (h : HeapFields)
    → heap_bytes h ≡ body_of h ++ (four_bytes (length h.children) ++ rows_of h.children)
unfolding body_of tail_of rows_of
around_count h =
    around_bases h
    ∙ sym (append_assoc (front_of h) (flat_map two_bytes h.bases) (four_bytes (length h.children) ++ tail_of h))

-- with other children the bytes before stay
pub body_stays : (h : HeapFields) (children : List HeapChild) → body_of (record h { children = children }) ≡ body_of h
unfolding body_of front_of
body_stays h children = refl
