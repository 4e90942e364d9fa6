use Rattle.w32_process.proofs.KeptLemmas.{IsAbsentBelow}
use Rattle.w32_process.proofs.kept.code.Given as goal

abbrev pub invariant-loop-ended : goal.invariant-loop-ended
invariant-loop-ended l = IsAbsentBelow l.kept l.w l.ended-index
