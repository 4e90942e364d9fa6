use Rattle.std.proofs.Common.{◌∙◌, arith}
use Rattle.cygheap_image.specs.FieldLaws.{heap_size}
use Rattle.cygheap_image.proofs.Writes.{bases_put, bases_kept}
use Rattle.cygheap_image.proofs.writers.clear_bases.Goals as goal

pub put-requires : goal.put-requires
put-requires c = omega (arith, heap_size c.args.bytes.now c.requires)

pub returns-clause-value : goal.returns-clause-value
returns-clause-value c = c.put.ensures.value ∙ bases_put c.args.bytes.now c.requires

pub returns-clause-layout : goal.returns-clause-layout
returns-clause-layout c = bases_kept c.args.bytes.now _ c.requires (returns-clause-value c)
