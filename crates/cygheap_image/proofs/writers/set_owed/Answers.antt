use Rattle.std.proofs.Common.{◌∙◌, arith}
use Rattle.cygheap_image.specs.FieldLaws.{heap_size}
use Rattle.cygheap_image.proofs.Writes.{owed_put, owed_kept}
use Rattle.cygheap_image.proofs.writers.set_owed.Goals as goal

pub put-requires : goal.put-requires
put-requires c = rw c.to_le_bytes.ensures (omega (arith, heap_size c.args.bytes.now c.requires.layout))

pub returns-clause-value : goal.returns-clause-value
returns-clause-value c =
    c.put.ensures.value ∙ rw c.to_le_bytes.ensures (owed_put c.args.bytes.now c.args.n c.requires.layout)

pub returns-clause-layout : goal.returns-clause-layout
returns-clause-layout c =
    owed_kept c.args.bytes.now _ c.args.n c.requires.layout c.requires.range (returns-clause-value c)
