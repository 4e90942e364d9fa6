use Rattle.std.proofs.Common.{◌≡◌, ℕ, Bool, ◌∙◌, ap, arith}
use Rattle.cygheap_image.specs.FieldLaws.{heap_size, few_children}
use Rattle.cygheap_image.proofs.ChildWrites.{note_put, note_kept}
use Rattle.cygheap_image.proofs.writers.note_death.Goals as goal

pub put-requires : goal.put-requires
put-requires c =
    rw c.child_bytes.ensures
    (omega (arith, heap_size c.args.bytes.now c.requires.layout, few_children c.args.bytes.now c.requires.layout))

pub returns-clause-value : goal.returns-clause-value
returns-clause-value c =
    c.put.ensures.value
    ∙ rw (c.child_bytes.ensures, c.from.ensures)
    (note_put c.args.bytes.now c.args.i _ c.args.noted c.requires.layout c.requires.listed
    (ap (λ (p : ℕ × Bool). p.0) c.child-number.ensures))

pub returns-clause-layout : goal.returns-clause-layout
returns-clause-layout c =
    note_kept c.args.bytes.now _ c.args.i c.args.noted c.requires.layout c.requires.listed (returns-clause-value c)
