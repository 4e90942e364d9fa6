use Rattle.std.proofs.Common.{◌≡◌, length, arith}
use Rattle.cygheap_image.specs.FieldLaws.{heap_size}
use Rattle.cygheap_image.proofs.readers.action.Goals as goal

pub bounds-bytes-place : goal.bounds-bytes-place
bounds-bytes-place c = omega (arith, heap_size c.args.bytes.now c.requires.layout)

pub half-requires : goal.half-requires
half-requires c = omega (arith, heap_size c.args.bytes.now c.requires.layout)

pub bounds-bytes-place-in-2 : goal.bounds-bytes-place-in-2
bounds-bytes-place-in-2 c = omega (arith, heap_size c.args.bytes.now c.requires.layout)
