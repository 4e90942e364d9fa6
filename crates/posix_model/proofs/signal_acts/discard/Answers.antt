use Rattle.std.proofs.Common.{◌≡◌, ℕ, true, Some, sym, ◌∙◌, ap}
use Rattle.posix_spec.specs.Pending.{ignores}
use Rattle.posix_spec.specs.Records.{change_record}
use Rattle.posix_spec.specs.SignalActs.{discarded, discard_step}
use Rattle.posix_model.specs.Machine.{state_of}
use Rattle.posix_model.specs.Shown.{record_of}
use Rattle.posix_model.proofs.ActLemmas.{and_true}
use Rattle.posix_model.proofs.StepLemmas.{value_some, test_true}
use Rattle.posix_model.proofs.signal_acts.discard.Goals as goal

pub returns : goal.returns
returns c =
    let s = state_of c.args.m.now in
    let p = c.args.p in
    let r = record_of c.in-Some.process.now in
    let number : c.in-Some-deliverable_as.number.number ≡ c.args.signal = c.in-Some-deliverable_as.ensures.number in
    let ignored : ignores r c.args.signal ≡ true = ap (ignores r) (sym number) ∙ sym c.if-not-ignores.ensures in (
      value_some _ (discard_step s p c.args.signal) r (sym c.in-Some.ensures)
          ∙ test_true _ _ (and_true _ _ (sym c.in-Some-deliverable_as.ensures.which) ignored)
          ∙ ap Some (sym (c.change_own.ensures.state ∙ ap (λ (n : ℕ). change_record s p (discarded n)) number)),
      c.change_own.ensures.script,
    )
