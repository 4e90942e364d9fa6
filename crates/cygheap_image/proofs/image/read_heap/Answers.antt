use Rattle.std.proofs.Common.{◌≡◌, ℕ, true, false, List, None, Some, refl, sym, ◌∙◌}
use Rattle.layer_spec.specs.Heap.{IsHeapBytes}
use Rattle.layer_spec.specs.HeapBreaks.{first_break}
use Rattle.layer_spec.specs.BreakLaws.{break_none, break_some}
use Rattle.cygheap_image.proofs.ReadWhole.{heap_shown}
use Rattle.cygheap_image.proofs.image.read_heap.Goals as goal

kept : (bytes : List ℕ) → None ≡ first_break bytes → IsHeapBytes bytes
kept bytes is = (break_none bytes).0 (sym is)

refused : (bytes : List ℕ) (place : ℕ) → Some place ≡ first_break bytes → IsHeapBytes bytes → false ≡ true
refused bytes place is whole = let none : Some place ≡ None = is ∙ (break_none bytes).1 whole in cc

pub mask-requires : goal.mask-requires
mask-requires c = kept c.args.bytes.now c.in-None.ensures

pub saved-requires : goal.saved-requires
saved-requires c = kept c.args.bytes.now c.in-None.ensures

pub owed-requires : goal.owed-requires
owed-requires c = kept c.args.bytes.now c.in-None.ensures

pub actions-requires : goal.actions-requires
actions-requires c = kept c.args.bytes.now c.in-None.ensures

pub bases-requires : goal.bases-requires
bases-requires c = kept c.args.bytes.now c.in-None.ensures

pub children-requires : goal.children-requires
children-requires c = kept c.args.bytes.now c.in-None.ensures

pub all_children-requires : goal.all_children-requires
all_children-requires c = kept c.args.bytes.now c.in-None.ensures

pub returns-in-Some-clause-accepted : goal.returns-in-Some-clause-accepted
returns-in-Some-clause-accepted c = (λ e. cc, λ whole. refused c.args.bytes.now _ c.in-Some.ensures whole)

pub returns-in-Some-clause-place : goal.returns-in-Some-clause-place
returns-in-Some-clause-place c = (break_some c.args.bytes.now _).0 (sym c.in-Some.ensures)

pub returns-in-None-clause-accepted : goal.returns-in-None-clause-accepted
returns-in-None-clause-accepted c = (λ e. kept c.args.bytes.now c.in-None.ensures, λ whole. refl)

pub returns-in-None-clause-heap : goal.returns-in-None-clause-heap
returns-in-None-clause-heap c =
    heap_shown c.args.bytes.now _ _ _ _ _ _ _ c.mask.ensures c.saved.ensures c.owed.ensures c.actions.ensures
    c.bases.ensures c.children.ensures.value c.all_children.ensures
