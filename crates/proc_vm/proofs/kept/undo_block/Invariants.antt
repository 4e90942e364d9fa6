use Rattle.proc_vm.proofs.KeptLemmas.{IsPutBack}
use Rattle.proc_vm.proofs.kept.undo_block.Given as goal

abbrev pub invariant-loop-i : goal.invariant-loop-i
invariant-loop-i l = IsPutBack l.u l.fn.own l.own l.i
