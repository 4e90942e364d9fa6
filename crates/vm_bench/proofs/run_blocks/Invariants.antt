use Rattle.std.proofs.Common.{◌≡◌, length}
use Rattle.vm_bench.proofs.run_blocks.Given as goal

abbrev pub invariant-loop : goal.invariant-loop
invariant-loop l = length l.own.dat ≡ 64
