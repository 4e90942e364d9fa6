-- What the bytes of a cygheap tell: laws for those who read and write one.
use Rattle.std.specs.Prelude.{◌≡◌, ℕ, ◌+◌, ◌≤◌, ◌<◌, List, length, slice_index_or}
use Rattle.std.proofs.Common.{refl, ◌∙◌, ap, arith}
use Rattle.std.proofs.lemmas.List.FromFn.{get_or-map-range_with_len, length-map-range_with_len}
use Rattle.std.proofs.lemmas.Bool.{leb-true}
use Rattle.w32_base.specs.declared.instr.Action.{Action}
use Rattle.layer_spec.specs.Heap.{HeapChild, HeapFields, IsHeap, IsHeapBytes, heap_bytes}
use Rattle.layer_spec.specs.HeapReads.{mask_in, saved_in, owed_in, action_in, base_in, child_in, child_count_in}
use Rattle.layer_spec.specs.HeapLaws.{length-heap_bytes}
use Rattle.layer_spec.specs.HeapInverse.{bytes_back, heap_back}
use Rattle.cygheap_image.specs.Fields.{fields_in}

pub heap_size : (bytes : List ℕ) → IsHeapBytes bytes → length bytes ≡ 288
heap_size bytes kept = ap length kept.layout ∙ length-heap_bytes kept.fields kept.legal

-- bytes that keep the layout are those of what they tell
pub heap_told : (bytes : List ℕ) → IsHeapBytes bytes
    → IsHeap (fields_in bytes) × (heap_bytes (fields_in bytes) ≡ bytes)
unfolding fields_in
heap_told bytes kept = bytes_back bytes kept

-- and what was written is told
pub fields_back : (h : HeapFields) → IsHeap h → fields_in (heap_bytes h) ≡ h
unfolding fields_in
fields_back h legal = heap_back h legal

-- each field by the place at which it is read
pub mask_told : (bytes : List ℕ) → (fields_in bytes).mask ≡ mask_in bytes
unfolding fields_in
mask_told bytes = refl

pub saved_told : (bytes : List ℕ) → (fields_in bytes).saved ≡ saved_in bytes
unfolding fields_in
saved_told bytes = refl

pub owed_told : (bytes : List ℕ) → (fields_in bytes).owed ≡ owed_in bytes
unfolding fields_in
owed_told bytes = refl

-- the action of signal k + 1
pub action_told : (bytes : List ℕ) (k : ℕ) (d : Action) → k < 31
    → slice_index_or (fields_in bytes).actions k d ≡ action_in bytes (k + 1)
unfolding fields_in
action_told bytes k d h = get_or-map-range_with_len (action_in bytes) 1 31 k (k + 1) d h (omega arith)

-- the base of module m
pub base_told : (bytes : List ℕ) (m d : ℕ) → m < 8 → slice_index_or (fields_in bytes).bases m d ≡ base_in bytes m
unfolding fields_in
base_told bytes m d h = get_or-map-range_with_len (base_in bytes) 0 8 m m d h (omega arith)

-- the children by number
pub child_count_told : (bytes : List ℕ) → length (fields_in bytes).children ≡ child_count_in bytes
unfolding fields_in
child_count_told bytes = length-map-range_with_len (child_in bytes) 0 (child_count_in bytes)

pub child_told : (bytes : List ℕ) (i : ℕ) (d : HeapChild) → i < child_count_in bytes
    → slice_index_or (fields_in bytes).children i d ≡ child_in bytes i
unfolding fields_in
child_told bytes i d h =
    get_or-map-range_with_len (child_in bytes) 0 (child_count_in bytes) i i d h (omega arith)

pub few_children : (bytes : List ℕ) → IsHeapBytes bytes → child_count_in bytes ≤ 32
few_children bytes kept =
    let told = heap_told bytes kept in
    omega (
      arith,
      child_count_told bytes,
      leb-true (length (fields_in bytes).children) 32 told.0.child_count,
    )
