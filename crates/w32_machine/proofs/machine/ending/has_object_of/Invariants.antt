use Rattle.std.proofs.Common.{ℕ, ◌<◌}
use Rattle.w32_machine.proofs.Leavings.{IsNotOf}
use Rattle.w32_machine.proofs.machine.ending.has_object_of.Given as goal

abbrev pub invariant-loop-place : goal.invariant-loop-place
invariant-loop-place l = (k : ℕ) → k < l.place → IsNotOf l.objects l.w k
