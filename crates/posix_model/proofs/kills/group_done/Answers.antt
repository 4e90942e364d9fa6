use Rattle.std.proofs.Common.{Some, sym, ◌∙◌, ap}
use Rattle.posix_spec.specs.KillSteps as spec
use Rattle.proc_vm.specs.Shown.{instr_of}
use Rattle.posix_model.specs.Machine.{script_of, state_of}
use Rattle.posix_model.specs.Shown.{record_of}
use Rattle.posix_model.specs.Underways.{underway_call}
use Rattle.posix_model.proofs.CallLaws.{group_call_some}
use Rattle.posix_model.proofs.StepLemmas.{value_some, test_true}
use Rattle.posix_model.proofs.kills.group_done.Goals as goal

pub returns : goal.returns
returns c =
    let s = state_of c.args.m.now in
    let p = c.args.p in
    let r = record_of c.in-Some.process.now in
    let i = instr_of c.in-Some.call in (
      group_call_some (spec.group_done_step s p c.args.g c.args.signal c.args.answer) (script_of c.args.m.now) s p r
          i c.in-Some.ensures.0
          ∙ value_some _ (spec.group_done_by s p c.args.g c.args.signal c.args.answer) (underway_call
          c.in-Some-kill_call.underway) (sym c.in-Some-kill_call.ensures)
          ∙ test_true _ _ (sym c.if-not-ends_with.ensures)
          ∙ ap Some (sym c.conclude.ensures.state),
      c.conclude.ensures.script,
    )
