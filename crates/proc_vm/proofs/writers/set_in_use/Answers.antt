use Rattle.std.proofs.Common.{rules}
use Rattle.vm_spec.specs.WordLaws.{with_word-wrapped}
use Rattle.proc_vm.proofs.writers.set_in_use.Goals as goal

pub returns-clause-value : goal.returns-clause-value
returns-clause-value c = rw (← with_word-wrapped c.args.own.now.dat 36 c.args.count) (search rules)
