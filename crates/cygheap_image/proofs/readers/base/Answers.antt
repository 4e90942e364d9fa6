use Rattle.std.proofs.Common.{◌≡◌, length, arith}
use Rattle.cygheap_image.specs.FieldLaws.{heap_size}
use Rattle.cygheap_image.proofs.readers.base.Goals as goal

pub half-requires : goal.half-requires
half-requires c = omega (arith, heap_size c.args.bytes.now c.requires.layout)
