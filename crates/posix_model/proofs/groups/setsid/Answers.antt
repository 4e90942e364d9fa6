use Rattle.std.proofs.Common.{ℕ, pos, Some, refl, sym, ◌∙◌, ap}
use Rattle.posix_spec.specs.State.{PosixState}
use Rattle.posix_model.specs.Machine.{script_of, state_of}
use Rattle.posix_model.specs.Shown.{record_of}
use Rattle.proc_vm.specs.Shown.{instr_of}
use Rattle.posix_model.proofs.CallLaws.{call_some}
use Rattle.posix_model.proofs.StepLemmas.{test_true, test_false}
use Rattle.posix_spec.specs.Conditions.{answered}
use Rattle.posix_spec.specs.GroupSteps.{leading_session, setsid_step}
use Rattle.posix_spec.specs.Records.{change_record}
use Rattle.posix_model.proofs.LeadLemmas.{setsid_step-is, no_process}
use Rattle.posix_model.proofs.groups.setsid.Goals as goal

pub returns-in_default : goal.returns-in_default
returns-in_default c =
    let s = state_of c.args.m.now in
    (no_process (script_of c.args.m.now) s c.args.p (setsid_step s c.args.p) c.in_default.ensures, refl)

pub returns-then-not-leads : goal.returns-then-not-leads
returns-then-not-leads c =
    let s = state_of c.args.m.now in
    let p = c.args.p in
    let r = record_of c.in-Some-own_call.field-0-0.now in
    let i = instr_of c.in-Some-own_call.call in (
      call_some (setsid_step s p) (script_of c.args.m.now) s p r i c.in-Some-own_call.ensures.0
          ∙ setsid_step-is s p r i
          ∙ test_false _ _ (sym c.if-not-leads.ensures),
      refl,
    )

pub returns : goal.returns
returns c =
    let s = state_of c.args.m.now in
    let p = c.args.p in
    let r = record_of c.in-Some-own_call.field-0-0.now in
    let i = instr_of c.in-Some-own_call.call in (
      call_some (setsid_step s p) (script_of c.args.m.now) s p r i c.in-Some-own_call.ensures.0
          ∙ setsid_step-is s p r i
          ∙ test_true _ _ (sym c.if-not-leads.ensures)
          ∙ ap (λ (k : ℕ). Some (answered (change_record s p (leading_session k)) p (pos p))) (sym c.in-Some.ensures)
          ∙ ap (λ (x : PosixState). Some (answered x p (pos p))) (sym c.change_own.ensures.state)
          ∙ ap (λ (k : ℕ). Some (answered (state_of c.change_own.new.self) p (pos k))) (sym c.get.ensures.value)
          ∙ ap Some (sym c.answer_with.ensures.state),
      c.answer_with.ensures.script ∙ c.change_own.ensures.script,
    )
