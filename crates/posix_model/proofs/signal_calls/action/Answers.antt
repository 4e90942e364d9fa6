use Rattle.std.proofs.Common.{pos, Some, refl, sym, ◌∙◌, ap}
use Rattle.posix_spec.specs.State.{PosixState}
use Rattle.posix_spec.specs.Conditions.{answered}
use Rattle.posix_spec.specs.SignalCalls as spec
use Rattle.proc_vm.specs.Shown.{instr_of}
use Rattle.posix_model.specs.Machine.{script_of, state_of}
use Rattle.posix_model.specs.Shown.{record_of}
use Rattle.posix_model.proofs.CallLaws.{call_some}
use Rattle.posix_model.proofs.SignalCallLemmas.{action_is, set_to}
use Rattle.posix_model.proofs.StepLemmas.{value_some, value_none}
use Rattle.posix_model.proofs.signal_calls.action.Goals as goal

pub returns-in_default-action_asked : goal.returns-in_default-action_asked
returns-in_default-action_asked c =
    let s = state_of c.args.m.now in
    let p = c.args.p in
    let r = record_of c.in-Some.process.now in
    let i = instr_of c.in-Some.call in (
      call_some (spec.action_step s p c.args.new c.args.signal) (script_of c.args.m.now) s p r i c.in-Some.ensures.0
          ∙ action_is s p c.args.new c.args.signal r i
          ∙ value_none _ (set_to s p) (sym c.in_default-action_asked.ensures),
      refl,
    )

pub returns : goal.returns
returns c =
    let s = state_of c.args.m.now in
    let p = c.args.p in
    let r = record_of c.in-Some.process.now in
    let i = instr_of c.in-Some.call in (
      call_some (spec.action_step s p c.args.new c.args.signal) (script_of c.args.m.now) s p r i c.in-Some.ensures.0
          ∙ action_is s p c.args.new c.args.signal r i
          ∙ value_some _ (set_to s p) (c.in-Some-action_asked.signal.number, c.in-Some-action_asked.action) (sym
          c.in-Some-action_asked.ensures)
          ∙ ap Some (sym (c.answer_with.ensures.state ∙ ap (λ (t : PosixState). answered t p (pos 0))
          c.change_own.ensures.state)),
      c.answer_with.ensures.script ∙ c.change_own.ensures.script,
    )
