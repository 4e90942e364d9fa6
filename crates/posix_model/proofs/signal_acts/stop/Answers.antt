use Rattle.std.proofs.Common.{◌≡◌, ℕ, ◌<◌, true, not, Some, refl, sym, ◌∙◌, ap, subst}
use Rattle.posix_spec.specs.Pending.{stops}
use Rattle.posix_spec.specs.Records.{change_record}
use Rattle.posix_spec.specs.Sending.{owed_more}
use Rattle.posix_spec.specs.SignalActs.{stopped, stop_step}
use Rattle.posix_spec.specs.State.{Record, PosixState, record_of as record_at}
use Rattle.posix_model.specs.Machine.{state_of}
use Rattle.posix_model.specs.Shown.{record_of}
use Rattle.posix_model.proofs.ActLemmas.{and_true}
use Rattle.posix_model.proofs.ChangeLaws.{kept_at}
use Rattle.posix_model.proofs.StepLemmas.{value_some, test_true}
use Rattle.posix_model.proofs.signal_acts.stop.Goals as goal

pub owe_more-requires : goal.owe_more-requires
owe_more-requires c r there =
    let s = state_of c.args.m.now in
    let owed_in : Record → ℕ = λ x. x.owed in
    let P : ℕ → Type 0 = λ n. n < 18446744073709551615 in
    let found = kept_at s c.args.p (stopped c.in-Some-deliverable_as.number.number) owed_in (λ x. refl)
    c.from-parent.result r
    (ap (λ (t : PosixState). record_at t c.from-parent.result) (sym c.change_own.ensures.state) ∙ there) in
    subst P (sym found.2) (c.may_owe.ensures.fits c.if-not-may_owe.false found.0 found.1)

pub returns : goal.returns
returns c =
    let s = state_of c.args.m.now in
    let p = c.args.p in
    let r = record_of c.in-Some.process.now in
    let number : c.in-Some-deliverable_as.number.number ≡ c.args.signal = c.in-Some-deliverable_as.ensures.number in
    let stopping : stops r c.args.signal ≡ true = ap (stops r) (sym number) ∙ sym c.if-not-stops.ensures in (
      value_some _ (stop_step s p c.args.signal) r (sym c.in-Some.ensures)
          ∙ test_true _ _ (and_true _ _ (sym c.in-Some-deliverable_as.ensures.which) (and_true _ _ (ap not (sym
          c.if-is_in_group_call.ensures)) stopping))
          ∙ ap Some (sym (c.owe_more.ensures.state
          ∙ ap (λ (t : PosixState). change_record t c.from-parent.result owed_more) (c.change_own.ensures.state ∙ ap
          (λ (n : ℕ). change_record s p (stopped n)) number)
          ∙ ap (λ (k : ℕ). change_record (change_record s p (stopped c.args.signal)) k owed_more)
          c.from-parent.ensures)),
      c.owe_more.ensures.script ∙ c.change_own.ensures.script,
    )
