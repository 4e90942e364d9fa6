use Rattle.std.proofs.Common.{arith}
use Rattle.cygheap_image.specs.FieldLaws.{heap_size, few_children}
use Rattle.cygheap_image.proofs.readers.child.Goals as goal

pub half-requires : goal.half-requires
half-requires c =
    omega (arith, heap_size c.args.bytes.now c.requires.layout, few_children c.args.bytes.now c.requires.layout)

pub half-requires-2 : goal.half-requires-2
half-requires-2 c =
    omega (arith, heap_size c.args.bytes.now c.requires.layout, few_children c.args.bytes.now c.requires.layout)
