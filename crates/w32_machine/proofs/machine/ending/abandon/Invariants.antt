use Rattle.w32_machine.proofs.Leavings.{LeftBelow}
use Rattle.w32_machine.proofs.machine.ending.abandon.Given as goal

abbrev pub invariant-loop-place : goal.invariant-loop-place
invariant-loop-place l = LeftBelow l.fn.objects l.w l.place l.objects
