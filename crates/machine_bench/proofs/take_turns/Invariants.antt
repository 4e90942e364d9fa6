use Rattle.machine_bench.specs.Counted.{IsCounted}
use Rattle.machine_bench.proofs.take_turns.Given as goal

abbrev pub invariant-loop-taken : goal.invariant-loop-taken
invariant-loop-taken l = record {
  counted : IsCounted l.taken l.driven;
}
