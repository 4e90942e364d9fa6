use Rattle.std.proofs.Common.{false, refl, arith}
use Rattle.layer_spec.specs.HeapReads.{child_in}
use Rattle.cygheap_image.specs.Shown.{pair_of}
use Rattle.cygheap_image.proofs.Filled.{filled, filled_step, children_filled}
use Rattle.cygheap_image.proofs.image.all_children.Goals as goal

pub loop-i-init : goal.loop-i-init
unfolding filled
loop-i-init c = refl

pub loop-i-preserved : goal.loop-i-preserved
loop-i-preserved c =
    filled_step (λ i. pair_of (child_in c.args.bytes.now i)) (0, false) 32 c.loop-i.i c.loop-i.all c.from.result
    c.child.result (omega (arith, c.children-i-end.ensures.few)) c.loop-i.invariant c.from.ensures c.child.ensures

pub returns : goal.returns
returns c =
    children_filled c.args.bytes.now c.loop-i.all c.loop-i.i c.loop-i.invariant
    (omega (arith, c.children-i-end.ensures.value))
