use Rattle.std.proofs.Common.{◌<◌}
use Rattle.roster_tests.proofs.parts.Scene.run.Given as goal

abbrev pub invariant-loop : goal.invariant-loop
invariant-loop g l = record {
  rank : 0 < g.P.Part.rank l.part;
}
