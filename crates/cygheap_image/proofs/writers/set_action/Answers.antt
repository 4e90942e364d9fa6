use Rattle.std.proofs.Common.{◌∙◌, arith}
use Rattle.cygheap_image.specs.FieldLaws.{heap_size}
use Rattle.cygheap_image.proofs.Writes.{action_put, action_kept}
use Rattle.layer_spec.specs.HeapLaws.{action_size}
use Rattle.cygheap_image.proofs.writers.set_action.Goals as goal

pub put-requires : goal.put-requires
put-requires c =
    rw c.action_bytes.ensures
    (omega (arith, heap_size c.args.bytes.now c.requires.layout, action_size c.args.a))

pub returns-clause-value : goal.returns-clause-value
returns-clause-value c =
    c.put.ensures.value
    ∙ rw (c.action_bytes.ensures, c.from.ensures)
    (action_put c.args.bytes.now c.args.s c.args.a c.requires.layout c.requires.from_1 c.requires.to_31)

pub returns-clause-layout : goal.returns-clause-layout
returns-clause-layout c =
    action_kept c.args.bytes.now _ c.args.s c.args.a c.requires.layout c.requires.from_1 c.requires.range
    (returns-clause-value c)
