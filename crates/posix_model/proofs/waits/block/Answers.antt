use Rattle.std.proofs.Common.{Some, refl, sym, ◌∙◌, ap}
use Rattle.posix_model.specs.Machine.{script_of, state_of}
use Rattle.posix_model.specs.Shown.{record_of}
use Rattle.proc_vm.specs.Shown.{instr_of}
use Rattle.posix_model.proofs.CallLaws.{call_some}
use Rattle.posix_spec.specs.WaitSteps.{block_step}
use Rattle.posix_model.proofs.StepLemmas.{test_true, test_false}
use Rattle.posix_model.proofs.waits.block.Goals as goal

pub returns-then-not-may_block : goal.returns-then-not-may_block
returns-then-not-may_block c =
    let s = state_of c.args.m.now in
    let p = c.args.p in
    let r = record_of c.in-Some.process.now in
    let i = instr_of c.in-Some.call in (
      call_some (block_step s p) (script_of c.args.m.now) s p r i c.in-Some.ensures.0 ∙ test_false _ _ (sym
          c.if-not-may_block.ensures),
      refl,
    )

pub returns : goal.returns
returns c =
    let s = state_of c.args.m.now in
    let p = c.args.p in
    let r = record_of c.in-Some.process.now in
    let i = instr_of c.in-Some.call in (
      call_some (block_step s p) (script_of c.args.m.now) s p r i c.in-Some.ensures.0
          ∙ test_true _ _ (sym c.if-not-may_block.ensures)
          ∙ ap Some (sym c.change_own.ensures.state),
      c.change_own.ensures.script,
    )
