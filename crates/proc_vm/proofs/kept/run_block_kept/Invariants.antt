use Rattle.proc_vm.proofs.KeptLemmas.{IsKept}
use Rattle.proc_vm.proofs.kept.run_block_kept.Given as goal

abbrev pub invariant-loop-count : goal.invariant-loop-count
invariant-loop-count l = IsKept l.p.code l.fn.own l.own l.u l.count
