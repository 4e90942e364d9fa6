use Rattle.std.proofs.Common.{ℕ, pos, Some, refl, sym, ◌∙◌, ap, true≢false}
use Rattle.posix_model.specs.Machine.{script_of, state_of}
use Rattle.posix_model.specs.Shown.{record_of}
use Rattle.proc_vm.specs.Shown.{instr_of}
use Rattle.posix_model.proofs.CallLaws.{call_some}
use Rattle.posix_model.proofs.StepLemmas.{test_true, test_false}
use Rattle.posix_spec.specs.Conditions.{answered}
use Rattle.posix_spec.specs.TerminalSteps.{with_foreground, tcset_step}
use Rattle.posix_model.proofs.TerminalLemmas.{tcset_step-is, foreground_exists}
use Rattle.posix_model.proofs.terminal.tcset.Goals as goal

pub returns-then-not-sets_foreground : goal.returns-then-not-sets_foreground
returns-then-not-sets_foreground c =
    let s = state_of c.args.m.now in
    let p = c.args.p in
    let r = record_of c.in-Some.process.now in
    let i = instr_of c.in-Some.call in (
      call_some (tcset_step s p c.args.g) (script_of c.args.m.now) s p r i c.in-Some.ensures.0
          ∙ tcset_step-is s p c.args.g r i
          ∙ test_false _ _ (sym c.if-not-sets_foreground.ensures),
      refl,
    )

pub returns-in_default-group_in : goal.returns-in_default-group_in
returns-in_default-group_in c =
    let s = state_of c.args.m.now in
    let p = c.args.p in
    let r = record_of c.in-Some.process.now in
    let i = instr_of c.in-Some.call in
    absurd (true≢false (sym (foreground_exists s c.args.g r i (sym c.if-not-sets_foreground.ensures)) ∙
    c.in_default-group_in.ensures))

pub returns : goal.returns
returns c =
    let s = state_of c.args.m.now in
    let p = c.args.p in
    let r = record_of c.in-Some.process.now in
    let i = instr_of c.in-Some.call in (
      call_some (tcset_step s p c.args.g) (script_of c.args.m.now) s p r i c.in-Some.ensures.0
          ∙ tcset_step-is s p c.args.g r i
          ∙ test_true _ _ (sym c.if-not-sets_foreground.ensures)
          ∙ ap (λ (k : ℕ). Some (answered (with_foreground s k) p (pos 0))) (sym c.in-Some-group_in.ensures)
          ∙ ap (λ t. Some (answered (record s { terminal = t }) p (pos 0))) (sym c.set_fg.ensures)
          ∙ ap Some (sym c.answer_with.ensures.state),
      c.answer_with.ensures.script,
    )
