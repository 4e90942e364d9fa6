use Rattle.std.proofs.Common.{Option, None, cond, refl, sym, ◌∙◌, ap, subst}
use Rattle.posix_spec.specs.ForkSteps.{exec_step, exec_to, program_named}
use Rattle.posix_spec.specs.State.{PosixState}
use Rattle.posix_model.specs.Gives.{Gives}
use Rattle.posix_model.specs.Machine.{script_of, state_of}
use Rattle.posix_model.specs.Shown.{record_of}
use Rattle.proc_vm.specs.Shown.{instr_of}
use Rattle.posix_model.proofs.CallLaws.{call_some}
use Rattle.posix_model.proofs.ForkLemmas.{exec_step-is}
use Rattle.posix_model.proofs.execs.exec.Goals as goal

pub returns-then-not-is_exec : goal.returns-then-not-is_exec
returns-then-not-is_exec c =
    let s = state_of c.args.m.now in
    let script = script_of c.args.m.now in
    let p = c.args.p in
    let r = record_of c.in-Some.field-0-0.now in
    let i = instr_of c.in-Some.call in (
      call_some (exec_step script s p c.args.name) script s p r i c.in-Some.ensures.0
          ∙ exec_step-is script s p c.args.name r i
          ∙ ap (λ b. cond b (exec_to s p (program_named script c.args.name)) None) (sym c.if-not-is_exec.ensures),
      refl,
    )

pub returns : goal.returns
returns c =
    let s = state_of c.args.m.now in
    let script = script_of c.args.m.now in
    let p = c.args.p in
    let r = record_of c.in-Some.field-0-0.now in
    let i = instr_of c.in-Some.call in
    let is = call_some (exec_step script s p c.args.name) script s p r i c.in-Some.ensures.0
    ∙ exec_step-is script s p c.args.name r i
    ∙ ap (λ b. cond b (exec_to s p (program_named script c.args.name)) None) (sym c.if-not-is_exec.ensures) in
    subst (λ (step : Option PosixState). Gives step c.begin.result c.args.m.now c.begin.new.self) (sym is)
    c.begin.ensures
