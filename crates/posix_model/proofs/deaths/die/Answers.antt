use Rattle.std.proofs.Common.{ℕ, ◌<◌, Some, refl, sym, ◌∙◌, ap, arith}
use Rattle.posix_spec.specs.DeathSteps.{dead, with_status, died, die_step}
use Rattle.posix_spec.specs.Records.{change_record}
use Rattle.posix_spec.specs.Sending.{owed_more}
use Rattle.posix_spec.specs.State.{PosixState, record_of as record_at}
use Rattle.posix_model.specs.Machine.{script_of, state_of}
use Rattle.posix_model.specs.Shown.{record_of}
use Rattle.posix_model.proofs.ChangeLaws.{held_at}
use Rattle.posix_model.proofs.DeathLemmas.{record_of-with_status}
use Rattle.posix_model.proofs.StepLemmas.{value_some, test_true, test_false}
use Rattle.posix_model.proofs.deaths.die.Goals as goal

pub owe_more-requires : goal.owe_more-requires
owe_more-requires c r there =
    let s = state_of c.args.m.now in
    let parent = c.from-parent.result in
    let status = c.in-Some-status_of_death.status in
    held_at s c.args.p (dead status) (λ x. x.owed < 18446744073709551615) (λ x. omega arith) parent
    (c.may_owe.ensures.fits c.if-not-may_owe.false) r
    (sym (ap (λ (t : PosixState). record_at t parent) (c.note_status.ensures.state ∙ ap (with_status c.args.p status)
    c.change_own.ensures.state) ∙ record_of-with_status c.args.p status (change_record s c.args.p (dead status)) parent)
    ∙ there)

pub returns-in_default-status_of_death : goal.returns-in_default-status_of_death
returns-in_default-status_of_death c =
    let s = state_of c.args.m.now in
    let r = record_of c.in-Some.process.now in (
      value_some _ (die_step (script_of c.args.m.now) s c.args.p c.args.cause c.args.v) r (sym c.in-Some.ensures)
          ∙ test_false _ _ c.in_default-status_of_death.ensures,
      refl,
    )

pub returns : goal.returns
returns c =
    let s = state_of c.args.m.now in
    let p = c.args.p in
    let r = record_of c.in-Some.process.now in
    let parent = c.from-parent.result in
    let status = c.in-Some-status_of_death.status in (
      value_some _ (die_step (script_of c.args.m.now) s p c.args.cause c.args.v) r (sym c.in-Some.ensures)
          ∙ test_true _ _ c.in-Some-status_of_death.ensures.0
          ∙ ap Some (sym (c.owe_more.ensures.state
          ∙ ap (λ (t : PosixState). change_record t parent owed_more) (c.note_status.ensures.state ∙ ap (with_status p
          status) c.change_own.ensures.state)
          ∙ ap (λ (n : ℕ). died s p n parent) c.in-Some-status_of_death.ensures.1
          ∙ ap (λ (k : ℕ). died s p c.args.v k) c.from-parent.ensures)),
      c.owe_more.ensures.script ∙ c.note_status.ensures.script ∙ c.change_own.ensures.script,
    )
