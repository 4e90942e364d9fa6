use Rattle.std.proofs.Common.{Some, refl, sym, ◌∙◌, ap, option_map}
use Rattle.posix_model.specs.Machine.{script_of, state_of}
use Rattle.posix_model.specs.Shown.{record_of}
use Rattle.proc_vm.specs.Shown.{instr_of}
use Rattle.posix_model.proofs.CallLaws.{call_some}
use Rattle.posix_spec.specs.WaitSteps.{find_nothing, nothing_step}
use Rattle.posix_model.specs.Waiting.{wait_shown}
use Rattle.posix_model.proofs.StepLemmas.{value_some, value_none, test_true, test_false}
use Rattle.posix_model.proofs.waits.nothing.Goals as goal

pub returns-in_default-of : goal.returns-in_default-of
returns-in_default-of c =
    let s = state_of c.args.m.now in
    let p = c.args.p in
    let r = record_of c.in-Some.process.now in
    let i = instr_of c.in-Some.call in (
      call_some (nothing_step s p) (script_of c.args.m.now) s p r i c.in-Some.ensures.0
          ∙ value_none _ _ (sym c.of.ensures ∙ ap (option_map wait_shown) c.in_default-of.is),
      refl,
    )

pub returns-then-not-finds_nothing : goal.returns-then-not-finds_nothing
returns-then-not-finds_nothing c =
    let s = state_of c.args.m.now in
    let p = c.args.p in
    let r = record_of c.in-Some.process.now in
    let i = instr_of c.in-Some.call in (
      call_some (nothing_step s p) (script_of c.args.m.now) s p r i c.in-Some.ensures.0
          ∙ value_some _ (find_nothing s p r) (wait_shown c.in-Some-of.wait) (sym c.of.ensures ∙ ap (option_map
          wait_shown) c.in-Some-of.is)
          ∙ test_false _ _ (sym c.if-not-finds_nothing.ensures),
      refl,
    )

pub returns : goal.returns
returns c =
    let s = state_of c.args.m.now in
    let p = c.args.p in
    let r = record_of c.in-Some.process.now in
    let i = instr_of c.in-Some.call in (
      call_some (nothing_step s p) (script_of c.args.m.now) s p r i c.in-Some.ensures.0
          ∙ value_some _ (find_nothing s p r) (wait_shown c.in-Some-of.wait) (sym c.of.ensures ∙ ap (option_map
          wait_shown) c.in-Some-of.is)
          ∙ test_true _ _ (sym c.if-not-finds_nothing.ensures)
          ∙ ap Some (sym c.answer_both.ensures.state),
      c.answer_both.ensures.script,
    )
