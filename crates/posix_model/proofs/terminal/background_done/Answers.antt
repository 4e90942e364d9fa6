use Rattle.std.proofs.Common.{Some, refl, sym, ◌∙◌, ap}
use Rattle.posix_spec.specs.GroupCalls.{background_call}
use Rattle.posix_spec.specs.TerminalSteps.{background_done_step}
use Rattle.posix_model.specs.Machine.{script_of, state_of}
use Rattle.posix_model.specs.Shown.{record_of}
use Rattle.proc_vm.specs.Shown.{instr_of}
use Rattle.posix_model.proofs.CallLaws.{group_call_some}
use Rattle.posix_model.proofs.StepLemmas.{test_true, test_false}
use Rattle.posix_model.proofs.TerminalLemmas.{completes-is}
use Rattle.posix_model.proofs.terminal.background_done.Goals as goal

pub returns-then-not-has_completed : goal.returns-then-not-has_completed
returns-then-not-has_completed c =
    let s = state_of c.args.m.now in
    let p = c.args.p in
    let r = record_of c.in-Some.process.now in
    let i = instr_of c.in-Some.call in (
      group_call_some (background_done_step s p) (script_of c.args.m.now) s p r i c.in-Some.ensures.0
          ∙ completes-is s p (background_call r i)
          ∙ test_false _ _ (sym c.if-not-has_completed.ensures),
      refl,
    )

pub returns : goal.returns
returns c =
    let s = state_of c.args.m.now in
    let p = c.args.p in
    let r = record_of c.in-Some.process.now in
    let i = instr_of c.in-Some.call in (
      group_call_some (background_done_step s p) (script_of c.args.m.now) s p r i c.in-Some.ensures.0
          ∙ completes-is s p (background_call r i)
          ∙ test_true _ _ (sym c.if-not-has_completed.ensures)
          ∙ ap Some (sym c.change_own.ensures.state),
      c.change_own.ensures.script,
    )
