use Rattle.std.proofs.Common.{Some, refl, sym, ◌∙◌, ap, option_map}
use Rattle.posix_model.specs.Machine.{script_of, state_of}
use Rattle.posix_model.specs.Shown.{record_of}
use Rattle.proc_vm.specs.Shown.{instr_of}
use Rattle.posix_model.proofs.CallLaws.{call_some}
use Rattle.posix_spec.specs.WaitSteps.{with_look, look_by, look_step}
use Rattle.posix_spec.specs.Records.{change_record}
use Rattle.posix_model.specs.Waiting.{wait_shown}
use Rattle.posix_model.proofs.StepLemmas.{value_some, value_none, test_true, test_false}
use Rattle.posix_model.proofs.waits.look.Goals as goal

pub returns-in_default-of : goal.returns-in_default-of
returns-in_default-of c =
    let s = state_of c.args.m.now in
    let p = c.args.p in
    let r = record_of c.in-Some.process.now in
    let i = instr_of c.in-Some.call in (
      call_some (look_step s p c.args.c) (script_of c.args.m.now) s p r i c.in-Some.ensures.0
          ∙ value_none _ _ (sym c.of.ensures ∙ ap (option_map wait_shown) c.in_default-of.is),
      refl,
    )

pub returns-in_default-looked_at : goal.returns-in_default-looked_at
returns-in_default-looked_at c =
    let s = state_of c.args.m.now in
    let p = c.args.p in
    let r = record_of c.in-Some.process.now in
    let i = instr_of c.in-Some.call in (
      call_some (look_step s p c.args.c) (script_of c.args.m.now) s p r i c.in-Some.ensures.0
          ∙ value_some _ (look_by s p c.args.c) (wait_shown c.in-Some-of.wait) (sym c.of.ensures ∙ ap (option_map
          wait_shown) c.in-Some-of.is)
          ∙ test_false _ _ c.in_default-looked_at.ensures,
      refl,
    )

pub returns : goal.returns
returns c =
    let s = state_of c.args.m.now in
    let p = c.args.p in
    let r = record_of c.in-Some.process.now in
    let i = instr_of c.in-Some.call in (
      call_some (look_step s p c.args.c) (script_of c.args.m.now) s p r i c.in-Some.ensures.0
          ∙ value_some _ (look_by s p c.args.c) (wait_shown c.in-Some-of.wait) (sym c.of.ensures ∙ ap (option_map
          wait_shown) c.in-Some-of.is)
          ∙ test_true _ _ c.in-Some-looked_at.ensures.0
          ∙ ap (λ k. Some (change_record s p (with_look k))) (sym c.in-Some-looked_at.ensures.1)
          ∙ ap Some (sym c.change_own.ensures.state),
      c.change_own.ensures.script,
    )
