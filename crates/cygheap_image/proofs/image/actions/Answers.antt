use Rattle.std.proofs.Common.{◌+◌, refl, arith}
use Rattle.w32_base.specs.declared.instr.Action.TheVariants.{Default}
use Rattle.layer_spec.specs.HeapReads.{action_in}
use Rattle.cygheap_image.proofs.Filled.{filled, filled_step, actions_filled}
use Rattle.cygheap_image.proofs.image.actions.Goals as goal

pub loop-k-init : goal.loop-k-init
unfolding filled
loop-k-init c = refl

pub loop-k-preserved : goal.loop-k-preserved
loop-k-preserved c =
    filled_step (λ k. action_in c.args.bytes.now (k + 1)) Default 31 c.loop-k.k c.loop-k.actions c.from.result
    c.action.result (omega arith) c.loop-k.invariant
    c.from.ensures c.action.ensures

pub returns : goal.returns
returns c = actions_filled c.args.bytes.now c.loop-k.actions c.loop-k.k c.loop-k.invariant (omega arith)
