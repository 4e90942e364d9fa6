use Rattle.std.proofs.Common.{Some, refl, sym, ◌∙◌, ap}
use Rattle.posix_spec.specs.Numbers.{is_number}
use Rattle.posix_spec.specs.OwnSteps.{get_step}
use Rattle.posix_model.specs.Machine.{script_of, state_of}
use Rattle.posix_model.specs.Shown.{record_of}
use Rattle.proc_vm.specs.Shown.{instr_of}
use Rattle.posix_model.proofs.CallLaws.{call_some}
use Rattle.posix_model.proofs.OwnLemmas.{get_some, get_none}
use Rattle.posix_model.proofs.own.get.Goals as goal

pub returns-in-Some-told : goal.returns-in-Some-told
returns-in-Some-told c =
    let s = state_of c.args.m.now in
    let r = record_of c.in-Some.process.now in
    let i = instr_of c.in-Some.call in (
      call_some (get_step s c.args.p c.args.field c.args.v) (script_of c.args.m.now) s c.args.p r i c.in-Some.ensures.0
          ∙ get_some s c.args.p c.args.field c.args.v r i c.in-Some-told.value
          (sym c.told.ensures ∙ c.in-Some-told.is) (ap (is_number c.args.v) (sym c.from.ensures) ∙ sym
          c.is_number.ensures ∙ c.if-is_number.true) ∙ ap Some (sym (c.answer_with.ensures.state)),
      c.answer_with.ensures.script,
    )

pub returns-in_default-told-2 : goal.returns-in_default-told-2
returns-in_default-told-2 c =
    let s = state_of c.args.m.now in
    let r = record_of c.in-Some.process.now in
    let i = instr_of c.in-Some.call in (
      call_some (get_step s c.args.p c.args.field c.args.v) (script_of c.args.m.now) s c.args.p r i c.in-Some.ensures.0
          ∙ get_none s c.args.p c.args.field c.args.v r i (sym c.told.ensures ∙ c.in_default-told.is),
      refl,
    )
