use Rattle.std.proofs.Common.{length}
use Rattle.proc_vm.proofs.tests.+have_targets_below.Given as goal

abbrev pub decreases-have_targets_below : goal.decreases-have_targets_below
decreases-have_targets_below l = length l.code.now
