-- What is written in place is the layout of the changed fields.
use Rattle.std.specs.Prelude.{◌≡◌, ℕ, suc, ◌+◌, ◌-◌, ◌*◌, ◌≤◌, ◌<◌, List, [], ◌∷◌, ◌++◌, length, flat_map, replicate}
use Rattle.std.specs.Prelude.{Option, true}
use Rattle.std.proofs.Common.{refl, sym, ◌∙◌, ap, arith}
use Rattle.w32_base.specs.declared.instr.Action.{Action}
use Rattle.layer_spec.specs.Heap.{HeapFields, IsHeap, IsHeapBytes, heap_bytes, two_bytes, four_bytes, saved_flag}
use Rattle.layer_spec.specs.Heap.{saved_mask, action_bytes, is_mask, is_saved_mask, is_action, is_base}
use Rattle.layer_spec.specs.HeapLaws.{action_size, head_of, tail_of, heap_sizes, around_actions}
use Rattle.cygheap_image.specs.Pieces.{with_piece}
use Rattle.cygheap_image.specs.Fields.{fields_in}
use Rattle.cygheap_image.specs.Changes.{with_mask, with_saved, with_owed, with_action, with_base, without_bases}
use Rattle.cygheap_image.specs.Changes.{without_handlers}
use Rattle.cygheap_image.proofs.Seams.{with_piece-seam, with_piece-element}
use Rattle.cygheap_image.proofs.Parts.{front_of, around_bases, length-front_of}
use Rattle.cygheap_image.specs.FieldLaws.{heap_told}
use Rattle.cygheap_image.proofs.Legal.{with_mask_legal, with_saved_legal, with_owed_legal, with_action_legal}
use Rattle.cygheap_image.proofs.Legal.{with_base_legal, without_bases_legal, without_handlers_is_legal}

mask_written : (h : HeapFields) (m : ℕ) → with_piece (heap_bytes h) 4 (four_bytes m) ≡ heap_bytes (with_mask h m)
unfolding heap_bytes with_piece
mask_written h m = refl

owed_written : (h : HeapFields) (n : ℕ) → with_piece (heap_bytes h) 12 (four_bytes n) ≡ heap_bytes (with_owed h n)
unfolding heap_bytes with_piece
owed_written h n = refl

saved_written : (h : HeapFields) (m : Option ℕ)
    → with_piece (with_piece (heap_bytes h) 2 (two_bytes (saved_flag m))) 8 (four_bytes (saved_mask m))
    ≡ heap_bytes (with_saved h m)
unfolding heap_bytes with_piece
saved_written h m = refl

action_written : (h : HeapFields) (s : ℕ) (a : Action) → IsHeap h → 1 ≤ s → s ≤ 31
    → with_piece (heap_bytes h) (12 + 4 * s) (action_bytes a) ≡ heap_bytes (with_action h s a)
unfolding tail_of
action_written h s a legal from to =
    let sizes = heap_sizes h legal in
    let after : List ℕ = flat_map two_bytes h.bases ++ (four_bytes (length h.children) ++ tail_of h) in
    ap (λ x. with_piece x (12 + 4 * s) (action_bytes a)) (around_actions h)
    ∙ with_piece-element 4 action_bytes action_size h.actions (s - 1) a (head_of h.mask h.owed h.saved) after
    (12 + 4 * s) (omega (arith, legal.action_count)) (omega (arith, sizes.head_size))
    ∙ sym (around_actions (with_action h s a))

base_written : (h : HeapFields) (m page : ℕ) → IsHeap h → m < 8
    → with_piece (heap_bytes h) (140 + 2 * m) (two_bytes page) ≡ heap_bytes (with_base h m page)
unfolding tail_of front_of
base_written h m page legal within =
    ap (λ x. with_piece x (140 + 2 * m) (two_bytes page)) (around_bases h)
    ∙ with_piece-element 2 two_bytes (λ n. refl) h.bases m page (front_of h)
    (four_bytes (length h.children) ++ tail_of h) (140 + 2 * m) (omega (arith, legal.base_count))
    (omega (arith, length-front_of h legal))
    ∙ sym (around_bases (with_base h m page))

bases_cleared : (h : HeapFields) → IsHeap h
    → with_piece (heap_bytes h) 140 (replicate 16 0) ≡ heap_bytes (without_bases h)
unfolding tail_of front_of
bases_cleared h legal =
    let sizes = heap_sizes h legal in
    ap (λ x. with_piece x 140 (replicate 16 0)) (around_bases h)
    ∙ with_piece-seam (front_of h) (flat_map two_bytes h.bases) (replicate 16 0)
    (four_bytes (length h.children) ++ tail_of h) 140 (length-front_of h legal) (sym sizes.base_size)
    ∙ sym (around_bases (without_bases h))

-- bytes that are the layout of legal fields keep it
pub kept_by : (bytes : List ℕ) (h : HeapFields) → IsHeap h → bytes ≡ heap_bytes h → IsHeapBytes bytes
kept_by bytes h legal same = record { fields = h; legal = legal; layout = same }

-- the same of bytes that keep the layout
pub mask_put : (bytes : List ℕ) (m : ℕ) → IsHeapBytes bytes
    → with_piece bytes 4 (four_bytes m) ≡ heap_bytes (with_mask (fields_in bytes) m)
mask_put bytes m kept =
    ap (λ x. with_piece x 4 (four_bytes m)) (sym (heap_told bytes kept).1) ∙ mask_written (fields_in bytes) m

pub mask_kept : (bytes new : List ℕ) (m : ℕ) → IsHeapBytes bytes → is_mask m ≡ true
    → new ≡ heap_bytes (with_mask (fields_in bytes) m) → IsHeapBytes new
mask_kept bytes new m kept fits same =
    kept_by new _ (with_mask_legal (fields_in bytes) m (heap_told bytes kept).0 fits) same

pub saved_put : (bytes : List ℕ) (m : Option ℕ) → IsHeapBytes bytes
    → with_piece (with_piece bytes 2 (two_bytes (saved_flag m))) 8 (four_bytes (saved_mask m))
    ≡ heap_bytes (with_saved (fields_in bytes) m)
saved_put bytes m kept =
    ap (λ x. with_piece (with_piece x 2 (two_bytes (saved_flag m))) 8 (four_bytes (saved_mask m)))
    (sym (heap_told bytes kept).1)
    ∙ saved_written (fields_in bytes) m

pub saved_kept : (bytes new : List ℕ) (m : Option ℕ) → IsHeapBytes bytes → is_saved_mask m ≡ true
    → new ≡ heap_bytes (with_saved (fields_in bytes) m) → IsHeapBytes new
saved_kept bytes new m kept fits same =
    kept_by new _ (with_saved_legal (fields_in bytes) m (heap_told bytes kept).0 fits) same

pub owed_put : (bytes : List ℕ) (n : ℕ) → IsHeapBytes bytes
    → with_piece bytes 12 (four_bytes n) ≡ heap_bytes (with_owed (fields_in bytes) n)
owed_put bytes n kept =
    ap (λ x. with_piece x 12 (four_bytes n)) (sym (heap_told bytes kept).1) ∙ owed_written (fields_in bytes) n

pub owed_kept : (bytes new : List ℕ) (n : ℕ) → IsHeapBytes bytes → n ≤ 65535
    → new ≡ heap_bytes (with_owed (fields_in bytes) n) → IsHeapBytes new
owed_kept bytes new n kept fits same =
    kept_by new _ (with_owed_legal (fields_in bytes) n (heap_told bytes kept).0 fits) same

pub action_put : (bytes : List ℕ) (s : ℕ) (a : Action) → IsHeapBytes bytes → 1 ≤ s → s ≤ 31
    → with_piece bytes (12 + 4 * s) (action_bytes a) ≡ heap_bytes (with_action (fields_in bytes) s a)
action_put bytes s a kept from to =
    let told = heap_told bytes kept in
    ap (λ x. with_piece x (12 + 4 * s) (action_bytes a)) (sym told.1)
    ∙ action_written (fields_in bytes) s a told.0 from to

pub action_kept : (bytes new : List ℕ) (s : ℕ) (a : Action) → IsHeapBytes bytes → 1 ≤ s → is_action s a ≡ true
    → new ≡ heap_bytes (with_action (fields_in bytes) s a) → IsHeapBytes new
action_kept bytes new s a kept from fits same =
    kept_by new _ (with_action_legal (fields_in bytes) s a (heap_told bytes kept).0 from fits) same

pub base_put : (bytes : List ℕ) (m page : ℕ) → IsHeapBytes bytes → m < 8
    → with_piece bytes (140 + 2 * m) (two_bytes page) ≡ heap_bytes (with_base (fields_in bytes) m page)
base_put bytes m page kept within =
    let told = heap_told bytes kept in
    ap (λ x. with_piece x (140 + 2 * m) (two_bytes page)) (sym told.1)
    ∙ base_written (fields_in bytes) m page told.0 within

pub base_kept : (bytes new : List ℕ) (m page : ℕ) → IsHeapBytes bytes → is_base page ≡ true
    → new ≡ heap_bytes (with_base (fields_in bytes) m page) → IsHeapBytes new
base_kept bytes new m page kept fits same =
    kept_by new _ (with_base_legal (fields_in bytes) m page (heap_told bytes kept).0 fits) same

pub bases_put : (bytes : List ℕ) → IsHeapBytes bytes
    → with_piece bytes 140 (replicate 16 0) ≡ heap_bytes (without_bases (fields_in bytes))
bases_put bytes kept =
    let told = heap_told bytes kept in
    ap (λ x. with_piece x 140 (replicate 16 0)) (sym told.1) ∙ bases_cleared (fields_in bytes) told.0

pub bases_kept : (bytes new : List ℕ) → IsHeapBytes bytes
    → new ≡ heap_bytes (without_bases (fields_in bytes)) → IsHeapBytes new
bases_kept bytes new kept same =
    kept_by new _ (without_bases_legal (fields_in bytes) (heap_told bytes kept).0) same

pub handlers_kept : (bytes new : List ℕ) → IsHeapBytes bytes
    → new ≡ heap_bytes (without_handlers (fields_in bytes)) → IsHeapBytes new
handlers_kept bytes new kept same =
    kept_by new _ (without_handlers_is_legal (fields_in bytes) (heap_told bytes kept).0) same
