use Rattle.std.proofs.Common.{◌≡◌, length, arith}
use Rattle.cygheap_image.specs.FieldLaws.{heap_size}
use Rattle.cygheap_image.proofs.readers.mask.Goals as goal

pub word-requires : goal.word-requires
word-requires c = omega (arith, heap_size c.args.bytes.now c.requires)
