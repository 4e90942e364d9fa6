use Rattle.std.proofs.Common.{refl, arith}
use Rattle.layer_spec.specs.HeapReads.{base_in}
use Rattle.cygheap_image.proofs.Filled.{filled, filled_step, bases_filled}
use Rattle.cygheap_image.proofs.image.bases.Goals as goal

pub loop-k-init : goal.loop-k-init
unfolding filled
loop-k-init c = refl

pub loop-k-preserved : goal.loop-k-preserved
loop-k-preserved c =
    filled_step (base_in c.args.bytes.now) 0 8 c.loop-k.k c.loop-k.bases c.from.result c.base.result (omega arith)
    c.loop-k.invariant
    c.from.ensures c.base.ensures

pub returns : goal.returns
returns c = bases_filled c.args.bytes.now c.loop-k.bases c.loop-k.k c.loop-k.invariant (omega arith)
