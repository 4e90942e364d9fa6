use Rattle.w32_process.proofs.KeptLemmas.{IsAbsentBelow}
use Rattle.w32_process.proofs.kept.place_of.Given as goal

abbrev pub invariant-loop-place : goal.invariant-loop-place
invariant-loop-place l = IsAbsentBelow l.kept l.w l.place
