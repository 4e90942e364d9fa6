use Rattle.std.proofs.Common.{sym, ◌∙◌, ap}
use Rattle.std.specs.Ordering.{nat_cmp}
use Rattle.std.specs.FinSet as set
use Rattle.posix_model.specs.Underways.{members_in}
use Rattle.posix_model.proofs.groups_seen.Underway.has.Goals as goal

pub returns-in-None : goal.returns-in-None
returns-in-None c =
    sym (ap (λ m. set.contains (members_in m) c.args.number) c.in-None.is ∙ set.contains-empty nat_cmp c.args.number)
