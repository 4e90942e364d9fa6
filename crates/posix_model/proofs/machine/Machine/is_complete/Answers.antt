use Rattle.std.proofs.Common.{not, ◌∙◌, ap}
use Rattle.std.specs.FinMap as map
use Rattle.posix_model.specs.Machine.{state_of}
use Rattle.posix_model.specs.Underways.{members_in}
use Rattle.posix_model.proofs.GroupLemmas.{complete_is}
use Rattle.posix_model.proofs.machine.Machine.is_complete.Goals as goal

pub returns : goal.returns
returns c =
    ap not c.some.ensures
    ∙ complete_is (members_in c.args.u.marks) c.args.u.call.group (map.entries (state_of c.args.self.now).records)
