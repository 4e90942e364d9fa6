use Rattle.std.proofs.Common.{pos, Some, refl, sym, ◌∙◌, ap, option_map}
use Rattle.posix_spec.specs.State.{PosixState}
use Rattle.posix_model.specs.Machine.{script_of, state_of}
use Rattle.posix_model.specs.Shown.{record_of}
use Rattle.proc_vm.specs.Shown.{instr_of}
use Rattle.posix_model.proofs.CallLaws.{call_some}
use Rattle.posix_spec.specs.WaitSteps.{reported, report_by, report_step}
use Rattle.posix_spec.specs.Conditions.{answered_both}
use Rattle.posix_spec.specs.Records.{change_record}
use Rattle.posix_model.specs.Waiting.{wait_shown}
use Rattle.posix_model.proofs.StepLemmas.{value_some, value_none, test_true, test_false}
use Rattle.posix_model.proofs.waits.report.Goals as goal

pub returns-in_default-of : goal.returns-in_default-of
returns-in_default-of c =
    let s = state_of c.args.m.now in
    let p = c.args.p in
    let r = record_of c.in-Some.process.now in
    let i = instr_of c.in-Some.call in (
      call_some (report_step s p c.args.v c.args.c) (script_of c.args.m.now) s p r i c.in-Some.ensures.0
          ∙ value_none _ _ (sym c.of.ensures ∙ ap (option_map wait_shown) c.in_default-of.is),
      refl,
    )

pub returns-in_default-reported : goal.returns-in_default-reported
returns-in_default-reported c =
    let s = state_of c.args.m.now in
    let p = c.args.p in
    let r = record_of c.in-Some.process.now in
    let i = instr_of c.in-Some.call in (
      call_some (report_step s p c.args.v c.args.c) (script_of c.args.m.now) s p r i c.in-Some.ensures.0
          ∙ value_some _ (report_by s p c.args.c c.args.v) (wait_shown c.in-Some-of.wait) (sym c.of.ensures ∙ ap
          (option_map wait_shown) c.in-Some-of.is)
          ∙ test_false _ _ c.in_default-reported.ensures,
      refl,
    )

pub returns : goal.returns
returns c =
    let s = state_of c.args.m.now in
    let p = c.args.p in
    let r = record_of c.in-Some.process.now in
    let i = instr_of c.in-Some.call in
    let told = c.in-Some-reported.told in (
      call_some (report_step s p c.args.v c.args.c) (script_of c.args.m.now) s p r i c.in-Some.ensures.0
          ∙ value_some _ (report_by s p c.args.c c.args.v) (wait_shown c.in-Some-of.wait) (sym c.of.ensures ∙ ap
          (option_map wait_shown) c.in-Some-of.is)
          ∙ test_true _ _ c.in-Some-reported.ensures.0
          ∙ ap (λ z. Some (answered_both (change_record s c.args.c reported) p (pos c.args.c) z))
          c.in-Some-reported.ensures.2
          ∙ ap (λ k. Some (answered_both (change_record s c.args.c reported) p (pos k) (pos told.status))) (sym
          c.in-Some-reported.ensures.1)
          ∙ ap (λ (x : PosixState). Some (answered_both x p (pos told.child) (pos told.status))) (sym
          c.change.ensures.state)
          ∙ ap Some (sym c.answer_both.ensures.state),
      c.answer_both.ensures.script ∙ c.change.ensures.script,
    )
