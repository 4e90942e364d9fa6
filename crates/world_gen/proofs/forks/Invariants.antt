use Rattle.std.proofs.Common.{◌≡◌}
use Rattle.world_gen.specs.Forks.{forks as forks_of}
use Rattle.world_gen.proofs.forks.Given as goal

abbrev pub invariant-loop-fork : goal.invariant-loop-fork
invariant-loop-fork l = l.code.items ≡ forks_of l.child l._fork
