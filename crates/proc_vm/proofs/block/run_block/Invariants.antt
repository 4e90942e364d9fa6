use Rattle.proc_vm.proofs.BlockLemmas.{IsDone}
use Rattle.proc_vm.proofs.block.run_block.Given as goal

abbrev pub invariant-loop-count : goal.invariant-loop-count
invariant-loop-count l = IsDone l.p.code l.fn.own l.own l.count
