use Rattle.std.proofs.Common.{take}
use Rattle.posix_model.specs.Opened.{posix_machine}
use Rattle.run_check.proofs.RunLemmas.{HasCome}
use Rattle.run_check.proofs.verdict.check.Given as goal

abbrev pub invariant-loop-place : goal.invariant-loop-place
invariant-loop-place l = HasCome l.script (take l.place l.event-items) (posix_machine l.state)
