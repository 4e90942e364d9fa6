-- The copy of a cygheap in the scratch region.
use Rattle.std.specs.Prelude.{◌≡◌, ℕ, ◌+◌, ◌≤◌, List, ◌++◌, length, take, drop}
use Rattle.std.proofs.Common.{refl, sym, ◌∙◌, ap, subst, arith, length-take}
use Rattle.std.proofs.lemmas.List.{take_at}
use Rattle.layer_spec.specs.Heap.{HeapFields, IsHeap, IsHeapBytes, heap_bytes, for_child, for_exec}
use Rattle.layer_spec.specs.HeapReads.{heap_in}
use Rattle.layer_spec.specs.HeapInverse.{heap_back}
use Rattle.cygheap_image.specs.Fields.{fields_in}
use Rattle.cygheap_image.specs.Changes.{with_owed, without_children, without_handlers, without_bases}
use Rattle.cygheap_image.specs.FieldLaws.{heap_size, heap_told, fields_back}
use Rattle.cygheap_image.proofs.Legal.{with_owed_legal, without_handlers_is_legal}

pub long_scratch : (scratch : List ℕ) → IsHeapBytes (take 288 scratch) → 288 ≤ length scratch
long_scratch scratch kept = omega (arith, heap_size (take 288 scratch) kept, length-take 288 scratch)

pub kept_copy : (scratch copy : List ℕ) → copy ≡ take 288 scratch → IsHeapBytes (take 288 scratch) → IsHeapBytes copy
kept_copy scratch copy is kept = subst IsHeapBytes (sym is) kept

-- what stands in scratch once a copy is written back
pub written_back : (scratch copy now : List ℕ) → IsHeapBytes copy → now ≡ copy ++ drop (0 + length copy) scratch
    → now ≡ copy ++ drop 288 scratch
written_back scratch copy now kept is =
    let size : 0 + length copy ≡ 288 = omega (arith, heap_size copy kept) in
    is ∙ ap (λ (n : ℕ). copy ++ drop n scratch) size

pub kept_back : (scratch copy now : List ℕ) → IsHeapBytes copy → now ≡ copy ++ drop (0 + length copy) scratch
    → IsHeapBytes (take 288 now)
kept_back scratch copy now kept is =
    subst IsHeapBytes (sym (ap (take 288) is
    ∙ take_at copy (drop (0 + length copy) scratch) 288 (heap_size copy kept))) kept

-- the two changes of a child's copy
pub child_copy : (scratch copy first second : List ℕ) → copy ≡ take 288 scratch → IsHeapBytes copy
    → first ≡ heap_bytes (with_owed (fields_in copy) 0) → second ≡ heap_bytes (without_children (fields_in first))
    → second ≡ heap_bytes (for_child (heap_in (take 288 scratch)))
unfolding fields_in
child_copy scratch copy first second is kept one two =
    let legal = with_owed_legal (fields_in copy) 0 (heap_told copy kept).0 (omega arith) in
    two
    ∙ ap (λ (f : HeapFields). heap_bytes (without_children f))
    (ap fields_in one ∙ fields_back (with_owed (fields_in copy) 0) legal)
    ∙ ap (λ (bytes : List ℕ). heap_bytes (for_child (heap_in bytes))) is

-- the two changes of the next image's copy
pub exec_copy : (scratch copy first second : List ℕ) → copy ≡ take 288 scratch → IsHeapBytes copy
    → first ≡ heap_bytes (without_handlers (fields_in copy)) → second ≡ heap_bytes (without_bases (fields_in first))
    → second ≡ heap_bytes (for_exec (heap_in (take 288 scratch)))
unfolding fields_in
exec_copy scratch copy first second is kept one two =
    let legal = without_handlers_is_legal (fields_in copy) (heap_told copy kept).0 in
    two
    ∙ ap (λ (f : HeapFields). heap_bytes (without_bases f))
    (ap fields_in one ∙ fields_back (without_handlers (fields_in copy)) legal)
    ∙ ap (λ (bytes : List ℕ). heap_bytes (for_exec (heap_in bytes))) is
