use Rattle.std.proofs.Common.{◌≡◌}
use Rattle.posix_model.proofs.ForkLemmas.{found_from}
use Rattle.posix_model.proofs.execs.program_named.Given as goal

abbrev pub invariant-loop-i : goal.invariant-loop-i
invariant-loop-i l = found_from l.programs l.name 0 ≡ found_from l.programs l.name l.i
