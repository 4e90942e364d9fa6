use Rattle.std.proofs.Common.{◌∙◌, arith}
use Rattle.cygheap_image.specs.FieldLaws.{heap_size}
use Rattle.cygheap_image.proofs.ChildWrites.{child_put, child_kept}
use Rattle.cygheap_image.proofs.writers.add_child.Goals as goal

pub put-requires : goal.put-requires
put-requires c =
    rw c.child_bytes.ensures
    (omega (arith, heap_size c.args.bytes.now c.requires.layout, c.children-count.ensures.value))

pub put-requires-2 : goal.put-requires-2
put-requires-2 c =
    rw c.to_le_bytes.ensures (omega (arith, heap_size c.args.bytes.now c.requires.layout, c.put.ensures.len))

pub returns-clause-value : goal.returns-clause-value
returns-clause-value c =
    c.put-2.ensures.value
    ∙ rw (
      c.to_le_bytes.ensures,
      c.put.ensures.value,
      c.child_bytes.ensures,
      c.from-2.ensures,
      c.from.ensures,
      c.children-count.ensures.value,
    )
    (child_put c.args.bytes.now c.args.c c.requires.layout c.requires.room)

pub returns-clause-layout : goal.returns-clause-layout
returns-clause-layout c =
    child_kept c.args.bytes.now _ c.args.c c.requires.layout c.requires.room c.requires.from_2 c.requires.to_4001
    (returns-clause-value c)
