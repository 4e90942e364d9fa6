use Rattle.std.proofs.Common.{◌∙◌, arith}
use Rattle.cygheap_image.specs.FieldLaws.{heap_size, few_children}
use Rattle.cygheap_image.proofs.ChildWrites.{removal_put, removal_kept}
use Rattle.cygheap_image.proofs.writers.remove_child.Goals as goal

pub take_out-requires : goal.take_out-requires
take_out-requires c =
    omega (arith, heap_size c.args.bytes.now c.requires.layout, few_children c.args.bytes.now c.requires.layout)

pub put-requires : goal.put-requires
put-requires c =
    rw c.to_le_bytes.ensures (omega (arith, heap_size c.args.bytes.now c.requires.layout, c.take_out.ensures.len))

pub returns-clause-value : goal.returns-clause-value
returns-clause-value c =
    c.put.ensures.value
    ∙ rw (
      c.to_le_bytes.ensures,
      c.take_out.ensures.value,
      c.from-2.ensures,
      c.from.ensures,
      c.children-count.ensures.value,
    )
    (removal_put c.args.bytes.now c.args.i c.requires.layout c.requires.listed)

pub returns-clause-layout : goal.returns-clause-layout
returns-clause-layout c =
    removal_kept c.args.bytes.now _ c.args.i c.requires.layout c.requires.listed (returns-clause-value c)
