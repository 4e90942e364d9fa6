use Rattle.std.proofs.Common.{Some, refl, sym, ◌∙◌, ap}
use Rattle.posix_model.specs.Machine.{script_of, state_of}
use Rattle.posix_model.specs.Shown.{record_of}
use Rattle.proc_vm.specs.Shown.{instr_of}
use Rattle.posix_model.proofs.CallLaws.{call_some}
use Rattle.posix_spec.specs.TerminalSteps.{background_step}
use Rattle.posix_model.proofs.terminal.background.Goals as goal

pub returns-in_default-first_sent : goal.returns-in_default-first_sent
returns-in_default-first_sent c =
    let s = state_of c.args.m.now in
    let p = c.args.p in
    let r = record_of c.in-Some.process.now in
    let i = instr_of c.in-Some.call in (
      call_some (background_step s p c.args.signal) (script_of c.args.m.now) s p r i c.in-Some.ensures.0 ∙
          c.in_default-first_sent.ensures,
      refl,
    )

pub returns : goal.returns
returns c =
    let s = state_of c.args.m.now in
    let p = c.args.p in
    let r = record_of c.in-Some.process.now in
    let i = instr_of c.in-Some.call in (
      call_some (background_step s p c.args.signal) (script_of c.args.m.now) s p r i c.in-Some.ensures.0
          ∙ c.in-Some-first_sent.ensures
          ∙ ap Some (sym c.change_own.ensures.state),
      c.change_own.ensures.script,
    )
