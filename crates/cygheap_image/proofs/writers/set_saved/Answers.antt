use Rattle.std.proofs.Common.{◌∙◌, arith}
use Rattle.cygheap_image.specs.FieldLaws.{heap_size}
use Rattle.cygheap_image.proofs.Writes.{saved_put, saved_kept}
use Rattle.cygheap_image.proofs.writers.set_saved.Goals as goal

pub put-requires : goal.put-requires
put-requires c = rw c.to_le_bytes.ensures (omega (arith, heap_size c.args.bytes.now c.requires.layout))

pub put-requires-2 : goal.put-requires-2
put-requires-2 c =
    rw c.to_le_bytes-2.ensures (omega (arith, heap_size c.args.bytes.now c.requires.layout, c.put.ensures.len))

pub returns-clause-value : goal.returns-clause-value
returns-clause-value c =
    c.put-2.ensures.value
    ∙ rw (
      c.to_le_bytes-2.ensures,
      c.put.ensures.value,
      c.to_le_bytes.ensures,
      c.saved_flag.ensures,
      c.saved_mask.ensures,
    )
    (saved_put c.args.bytes.now c.args.m c.requires.layout)

pub returns-clause-layout : goal.returns-clause-layout
returns-clause-layout c =
    saved_kept c.args.bytes.now _ c.args.m c.requires.layout c.requires.range (returns-clause-value c)
