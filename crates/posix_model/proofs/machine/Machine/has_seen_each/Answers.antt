use Rattle.std.proofs.Common.{true, false, not, refl, ◌∙◌, ap}
use Rattle.std.specs.FinSet as set
use Rattle.posix_spec.specs.Waits as spec
use Rattle.posix_model.specs.Machine.{state_of}
use Rattle.posix_model.specs.MarkedNumbers.{numbers_of}
use Rattle.posix_model.specs.Waiting.{wait_shown}
use Rattle.posix_model.proofs.AskedLaws.{each_seen, each_looked_at}
use Rattle.posix_model.proofs.machine.Machine.has_seen_each.Goals as goal

pub returns-then-has_no_match : goal.returns-then-has_no_match
returns-then-has_no_match c =
    each_looked_at (numbers_of c.args.looked_at.now) (spec.matching (state_of c.args.self.now) (wait_shown
    c.args.wait.now)) true _
    c.if-has_no_match.ensures refl

pub returns : goal.returns
returns c =
    let wait = wait_shown c.args.wait.now in
    let seen = numbers_of c.args.looked_at.now in
    each_looked_at seen (spec.matching (state_of c.args.self.now) wait) false (not c.some.result)
    c.if-has_no_match.ensures
    (ap not c.some.ensures ∙ each_seen (spec.is_match wait) (set.contains seen) _)
