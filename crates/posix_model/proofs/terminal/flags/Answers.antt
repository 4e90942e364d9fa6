use Rattle.std.proofs.Common.{pos, Some, refl, sym, ◌∙◌, ap}
use Rattle.posix_model.specs.Machine.{script_of, state_of}
use Rattle.posix_model.specs.Shown.{record_of}
use Rattle.proc_vm.specs.Shown.{instr_of}
use Rattle.posix_model.proofs.CallLaws.{call_some}
use Rattle.posix_spec.specs.Conditions.{answered}
use Rattle.posix_spec.specs.TerminalSteps.{with_flags, flags_step}
use Rattle.posix_model.proofs.StepLemmas.{test_true, test_false}
use Rattle.posix_model.proofs.TerminalLemmas.{flags_step-is}
use Rattle.posix_model.proofs.terminal.flags.Goals as goal

pub returns-in_default-flags_to_set : goal.returns-in_default-flags_to_set
returns-in_default-flags_to_set c =
    let s = state_of c.args.m.now in
    let p = c.args.p in
    let r = record_of c.in-Some.process.now in
    let i = instr_of c.in-Some.call in (
      call_some (flags_step s p c.args.n) (script_of c.args.m.now) s p r i c.in-Some.ensures.0
          ∙ flags_step-is s p c.args.n r i
          ∙ test_false _ _ c.in_default-flags_to_set.ensures,
      refl,
    )

pub returns : goal.returns
returns c =
    let s = state_of c.args.m.now in
    let p = c.args.p in
    let r = record_of c.in-Some.process.now in
    let i = instr_of c.in-Some.call in (
      call_some (flags_step s p c.args.n) (script_of c.args.m.now) s p r i c.in-Some.ensures.0
          ∙ flags_step-is s p c.args.n r i
          ∙ test_true _ _ c.in-Some-flags_to_set.ensures.0
          ∙ ap (λ k. Some (answered (with_flags s k) p (pos 0))) (sym c.in-Some-flags_to_set.ensures.1)
          ∙ ap (λ t. Some (answered (record s { terminal = t }) p (pos 0))) (sym c.set_flags.ensures)
          ∙ ap Some (sym c.answer_with.ensures.state),
      c.answer_with.ensures.script,
    )
