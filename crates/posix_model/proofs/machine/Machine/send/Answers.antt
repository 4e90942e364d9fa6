use Rattle.std.proofs.Common.{ℕ, ◌<◌, sym, ◌∙◌, ap, subst}
use Rattle.posix_spec.specs.State.{Record, record_of}
use Rattle.posix_spec.specs.Sending.{generated}
use Rattle.posix_model.specs.Machine.{state_of}
use Rattle.posix_model.proofs.ChangeLaws.{kept_at}
use Rattle.posix_model.proofs.SendLemmas.{owed-generated}
use Rattle.posix_model.proofs.machine.Machine.send.Goals as goal

pub owe_more-requires : goal.owe_more-requires
owe_more-requires c r there =
    let s = state_of c.args.self.now in
    let owed_in : Record → ℕ = λ x. x.owed in
    let P : ℕ → Type 0 = λ n. n < 18446744073709551615 in
    let found = kept_at s c.args.q (generated c.args.signal) owed_in (owed-generated c.args.signal)
    c.in-Some.parent r (ap (λ t. record_of t c.in-Some.parent) (sym c.change.ensures.state) ∙ there) in
    subst P (sym found.2) (c.may_owe.ensures.fits c.if-not-may_owe.false found.0 found.1)

pub returns-else-not-may_owe-clause-script : goal.returns-else-not-may_owe-clause-script
returns-else-not-may_owe-clause-script c = c.owe_more.ensures.script ∙ c.change.ensures.script
