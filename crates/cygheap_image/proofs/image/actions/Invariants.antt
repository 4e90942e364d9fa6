use Rattle.std.proofs.Common.{◌≡◌, ◌+◌}
use Rattle.w32_base.specs.declared.instr.Action.TheVariants.{Default}
use Rattle.layer_spec.specs.HeapReads.{action_in}
use Rattle.cygheap_image.proofs.Filled.{filled}
use Rattle.cygheap_image.proofs.image.actions.Given as goal

abbrev pub invariant-loop-k : goal.invariant-loop-k
invariant-loop-k l = l.actions ≡ filled (λ k. action_in l.bytes (k + 1)) Default 31 l.k
