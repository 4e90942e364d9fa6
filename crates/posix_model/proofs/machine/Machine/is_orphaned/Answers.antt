use Rattle.std.proofs.Common.{◌∙◌, ap, not}
use Rattle.posix_model.proofs.AskedLaws.{orphaned_is}
use Rattle.posix_model.proofs.machine.Machine.is_orphaned.Goals as goal

pub returns : goal.returns
returns c = ap not c.some.ensures ∙ orphaned_is c.args.self.now c.args.g
