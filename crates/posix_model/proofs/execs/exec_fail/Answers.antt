use Rattle.std.proofs.Common.{Some, refl, sym, ◌∙◌, ap}
use Rattle.posix_spec.specs.Conditions.{answered}
use Rattle.posix_spec.specs.ForkSteps.{exec_fail_step}
use Rattle.posix_model.specs.Machine.{script_of, state_of}
use Rattle.posix_model.specs.Shown.{record_of}
use Rattle.proc_vm.specs.Shown.{instr_of}
use Rattle.posix_model.proofs.CallLaws.{call_some}
use Rattle.posix_model.proofs.StepLemmas.{test_true, test_false}
use Rattle.posix_model.proofs.ForkLemmas.{exec_fail_step-is}
use Rattle.posix_model.proofs.execs.exec_fail.Goals as goal

pub returns-then-not-exec_fails : goal.returns-then-not-exec_fails
returns-then-not-exec_fails c =
    let s = state_of c.args.m.now in
    let script = script_of c.args.m.now in
    let p = c.args.p in
    let r = record_of c.in-Some.field-0-0.now in
    let i = instr_of c.in-Some.call in (
      call_some (exec_fail_step script s p c.args.cause) script s p r i c.in-Some.ensures.0
          ∙ exec_fail_step-is script s p c.args.cause r i
          ∙ test_false _ _ (sym c.if-not-exec_fails.ensures),
      refl,
    )

pub returns : goal.returns
returns c =
    let s = state_of c.args.m.now in
    let script = script_of c.args.m.now in
    let p = c.args.p in
    let r = record_of c.in-Some.field-0-0.now in
    let i = instr_of c.in-Some.call in (
      call_some (exec_fail_step script s p c.args.cause) script s p r i c.in-Some.ensures.0
          ∙ exec_fail_step-is script s p c.args.cause r i
          ∙ test_true _ _ (sym c.if-not-exec_fails.ensures)
          ∙ ap (λ z. Some (answered s p z)) (sym c.exec_error.ensures)
          ∙ ap Some (sym c.fail.ensures.state),
      c.fail.ensures.script,
    )
