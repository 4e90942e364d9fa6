use Rattle.std.proofs.Common.{arith}
use Rattle.cygheap_image.specs.FieldLaws.{heap_size, few_children}
use Rattle.cygheap_image.proofs.readers.children.Goals as goal

pub word-requires : goal.word-requires
word-requires c = omega (arith, heap_size c.args.bytes.now c.requires)

pub overflow_cast-result : goal.overflow_cast-result
overflow_cast-result c = omega (arith, few_children c.args.bytes.now c.requires, c.word.ensures)

pub returns-clause-few : goal.returns-clause-few
returns-clause-few c = omega (arith, few_children c.args.bytes.now c.requires, c.word.ensures)
