use Rattle.std.proofs.Common.{eqb-true}
use Rattle.posix_spec.specs.SignalLaws.{first_of}
use Rattle.posix_model.proofs.machine.Machine.group_in.Goals as goal

pub returns-in-Some : goal.returns-in-Some
returns-in-Some c = eqb-true _ _ (first_of _ _ c.in-Some.ensures.1)
