-- The fields of a cygheap and its bytes are each other's inverse, and the copies for a child and for the next image
-- keep the layout.
use Rattle.std.specs.Prelude.{◌≡◌, ℕ, ◌+◌, ◌^◌, ◌<◌, true, List, [], ◌∷◌, map, Option, Some, None}
use Rattle.std.proofs.Common.{refl, sym, ◌∙◌, ap, subst, arith}
use Rattle.std.proofs.lemmas.Nat.{from_le_bytes-to_le_bytes_4, and_le_r}
use Rattle.std.proofs.lemmas.List.{length-map}
use Rattle.std.proofs.lemmas.Bool.{and_parts, and_from, leb-true, eqb-true}
use Rattle.w32_base.specs.declared.instr.Action.{Action}
use Rattle.w32_base.specs.declared.instr.Action.TheVariants.{Default, Ignore, Handler}
use Rattle.posix_spec.specs.Signals.{clean_mask}
use Rattle.vm_spec.specs.Image.{word_at}
use Rattle.layer_spec.specs.Heap.{HeapChild, HeapFields, is_mask, is_saved_mask, is_action, are_actions, IsHeap}
use Rattle.layer_spec.specs.Heap.{IsHeapBytes, heap_bytes, for_child, for_exec, without_handler}
use Rattle.layer_spec.specs.HeapReads.{half_at, heap_in, mask_in, saved_in, owed_in}
use Rattle.layer_spec.specs.HeapLaws.{actions_back, bases_back, children_back}

mask_below : (m : ℕ) → is_mask m ≡ true → m < 2 ^ 32
mask_below m h = let same = eqb-true (clean_mask m) m h in omega (arith, and_le_r m 2147221247)

mask_back : (h : HeapFields) → IsHeap h → mask_in (heap_bytes h) ≡ h.mask
unfolding heap_bytes word_at
mask_back h legal = from_le_bytes-to_le_bytes_4 h.mask (mask_below h.mask legal.mask)

owed_back : (h : HeapFields) → IsHeap h → owed_in (heap_bytes h) ≡ h.owed
unfolding heap_bytes word_at
owed_back h legal = from_le_bytes-to_le_bytes_4 h.owed (omega (arith, leb-true h.owed 65535 legal.owed))

saved_back_at : (mask owed : ℕ) (saved : Option ℕ) (actions : List Action) (bases : List ℕ) (children : List HeapChild)
    → is_saved_mask saved ≡ true
    → saved_in (heap_bytes (record {
      mask = mask;
      saved = saved;
      owed = owed;
      actions = actions;
      bases = bases;
      children = children;
    })) ≡ saved
unfolding heap_bytes word_at half_at
saved_back_at mask owed None actions bases children h = refl
saved_back_at mask owed (Some m) actions bases children h = ap Some (from_le_bytes-to_le_bytes_4 m (mask_below m h))

-- fields that are the same one by one
pub same_fields : (a b : HeapFields) → a.mask ≡ b.mask → a.saved ≡ b.saved → a.owed ≡ b.owed → a.actions ≡ b.actions
    → a.bases ≡ b.bases → a.children ≡ b.children → a ≡ b
same_fields a b mask saved owed actions bases children =
    ap (λ x. record a { mask = x }) mask
    ∙ ap (λ x. record a { mask = b.mask; saved = x }) saved
    ∙ ap (λ x. record a { mask = b.mask; saved = b.saved; owed = x }) owed
    ∙ ap (λ x. record b { actions = x; bases = a.bases; children = a.children }) actions
    ∙ ap (λ x. record b { bases = x; children = a.children }) bases
    ∙ ap (λ x. record b { children = x }) children

-- what the bytes tell is what was written
pub heap_back : (h : HeapFields) → IsHeap h → heap_in (heap_bytes h) ≡ h
heap_back h legal = same_fields (heap_in (heap_bytes h)) h
    (mask_back h legal)
    (saved_back_at h.mask h.owed h.saved h.actions h.bases h.children legal.saved)
    (owed_back h legal)
    (actions_back h legal)
    (bases_back h legal)
    (children_back h legal)

-- so bytes that keep the layout are those of what they tell, and tell one cygheap alone
pub bytes_back : (bytes : List ℕ) → IsHeapBytes bytes → IsHeap (heap_in bytes) × (heap_bytes (heap_in bytes) ≡ bytes)
bytes_back bytes kept =
    let same : heap_in bytes ≡ kept.fields = ap heap_in kept.layout ∙ heap_back kept.fields kept.legal in
    (subst IsHeap (sym same) kept.legal, ap heap_bytes same ∙ sym kept.layout)

pub one_heap : (a b : HeapFields) → IsHeap a → IsHeap b → heap_bytes a ≡ heap_bytes b → a ≡ b
one_heap a b la lb e = sym (heap_back a la) ∙ ap heap_in e ∙ heap_back b lb

-- What a child begins with keeps the layout.
pub for_child_legal : (h : HeapFields) → IsHeap h → IsHeap (for_child h)
for_child_legal h legal = record {
  mask = legal.mask;
  saved = legal.saved;
  owed = refl;
  action_count = legal.action_count;
  actions = legal.actions;
  base_count = legal.base_count;
  bases = legal.bases;
  child_count = refl;
  children = refl;
}

without_handler_legal : (s : ℕ) (a : Action) → is_action s a ≡ true → is_action s (without_handler a) ≡ true
without_handler_legal s Default h = refl
without_handler_legal s Ignore h = h
without_handler_legal s (Handler target restart) h = refl

without_handlers_legal : (s : ℕ) (actions : List Action) → are_actions s actions ≡ true
    → are_actions s (map without_handler actions) ≡ true
without_handlers_legal s [] h = refl
without_handlers_legal s (a ∷ rest) h =
    let both = and_parts (is_action s a) (are_actions (s + 1) rest) h in
    and_from (is_action s (without_handler a)) (are_actions (s + 1) (map without_handler rest))
    (without_handler_legal s a both.0) (without_handlers_legal (s + 1) rest both.1)

-- So does what the next image begins with.
pub for_exec_legal : (h : HeapFields) → IsHeap h → IsHeap (for_exec h)
for_exec_legal h legal = record {
  mask = legal.mask;
  saved = legal.saved;
  owed = legal.owed;
  action_count = length-map h.actions without_handler ∙ legal.action_count;
  actions = without_handlers_legal 1 h.actions legal.actions;
  base_count = refl;
  bases = refl;
  child_count = legal.child_count;
  children = legal.children;
}
