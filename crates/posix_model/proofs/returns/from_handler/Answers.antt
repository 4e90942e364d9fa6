use Rattle.std.proofs.Common.{Some, refl, sym, ◌∙◌, ap, subst}
use Rattle.w32_base.specs.declared.instr.Instr.TheVariants as instr
use Rattle.posix_spec.specs.CallLaws.{IsCalling}
use Rattle.posix_spec.specs.SignalCalls.{return_step}
use Rattle.posix_spec.specs.State.{record_of as record_at}
use Rattle.proc_vm.specs.Shown.{instr_of}
use Rattle.posix_model.specs.Handled.{HasFrame}
use Rattle.posix_model.specs.Machine.{script_of, state_of}
use Rattle.posix_model.specs.Shown.{record_of}
use Rattle.posix_model.proofs.CallingLemmas.{IsCalling-called, HasFrame-calling}
use Rattle.posix_model.proofs.CallLaws.{call_some}
use Rattle.posix_model.proofs.HandlerLemmas.{return_step-is, return_is}
use Rattle.posix_model.proofs.StepLemmas.{test_true, test_false, same_there}
use Rattle.posix_model.proofs.returns.from_handler.Goals as goal

pub leave_handler-requires : goal.leave_handler-requires
leave_handler-requires c x there =
    let script = script_of c.args.m.now in
    let s = state_of c.args.m.now in
    let p = c.args.p in
    let r = record_of c.in-Some._process.now in
    let i = instr_of c.in-Some.call in
    let calling : IsCalling script r instr.Return = subst (λ j. IsCalling script r j) (return_is i (sym
    c.if-not-is_return.ensures)) (IsCalling-called script s p r i c.in-Some.ensures.0) in
    same_there HasFrame (record_at s p) r x c.in-Some.ensures.1 there (HasFrame-calling script r calling)

pub returns-then-not-is_return : goal.returns-then-not-is_return
returns-then-not-is_return c =
    let s = state_of c.args.m.now in
    let p = c.args.p in
    let r = record_of c.in-Some._process.now in
    let i = instr_of c.in-Some.call in (
      call_some (return_step s p) (script_of c.args.m.now) s p r i c.in-Some.ensures.0
          ∙ return_step-is s p r i
          ∙ test_false _ _ (sym c.if-not-is_return.ensures),
      refl,
    )

pub returns : goal.returns
returns c =
    let s = state_of c.args.m.now in
    let p = c.args.p in
    let r = record_of c.in-Some._process.now in
    let i = instr_of c.in-Some.call in (
      call_some (return_step s p) (script_of c.args.m.now) s p r i c.in-Some.ensures.0
          ∙ return_step-is s p r i
          ∙ test_true _ _ (sym c.if-not-is_return.ensures)
          ∙ ap Some (sym c.leave_handler.ensures.state),
      c.leave_handler.ensures.script,
    )
