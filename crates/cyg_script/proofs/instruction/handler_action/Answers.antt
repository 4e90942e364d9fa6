use Rattle.std.proofs.Common.{◌∙◌, ◌≡◌, ◌<◌, ℕ, sym, refl, None}
use Rattle.std.proofs.lemmas.Result.{err_from_is_err_and}
use Rattle.std.specs.Fmt.{decimal}
use Rattle.script_spec.specs.Faults.{least}
use Rattle.script_spec.specs.Fields.{ValueWord, PlaceWord, field_fault}
use Rattle.script_spec.specs.InstrText.{operand_text}
use Rattle.script_spec.specs.Numbers.{value_of}
use Rattle.w32_base.specs.declared.instr.Operand.{Operand}
use Rattle.cyg_script.specs.Instructions.{clamped}
use Rattle.cyg_script.proofs.Choices.{of_ok}
use Rattle.cyg_script.proofs.Actions.{long_fault, long_read, no_long}
use Rattle.cyg_script.proofs.instruction.handler_action.Goals as goal

pub returns-in_err-v-clause-fault : goal.returns-in_err-v-clause-fault
returns-in_err-v-clause-fault c =
    let p = err_from_is_err_and c.from_residual.result c.from_residual.ensures.1 in
    rw (p.1, p.2)
    (c.in_err-v.ensures.fault ∙ rw (c.operand.ensures.fault, c.place.ensures.fault)
    (long_fault c.args.signal.now c.args.word.now c.args.at.now c.args.restart
    (sym c.is_same.ensures ∙ c.if-is_same.true)))

pub returns-in_ok-v-clause-fault : goal.returns-in_ok-v-clause-fault
returns-in_ok-v-clause-fault c =
    c.in_ok-v.ensures.fault ∙ rw (c.operand.ensures.fault, c.place.ensures.fault)
    (long_fault c.args.signal.now c.args.word.now c.args.at.now c.args.restart
    (sym c.is_same.ensures ∙ c.if-is_same.true))

pub returns-in_ok-v-clause-read : goal.returns-in_ok-v-clause-read
returns-in_ok-v-clause-read c =
    let fault : None ≡ least (field_fault ValueWord c.args.signal.now) (field_fault PlaceWord c.args.at.now) =
    c.in_ok-v.ensures.fault ∙ rw (c.operand.ensures.fault, c.place.ensures.fault) refl in
    long_read c.args.signal.now c.args.word.now c.args.at.now c.args.restart c.in_ok-v.v c.in_ok-v.place
    (sym c.is_same.ensures ∙ c.if-is_same.true) fault
    (of_ok (λ (v : Operand). c.args.signal.now ≡ operand_text v) c.operand.result c.in_ok-v.v
    c.in_ok-v.ensures.first c.operand.ensures.text)
    (of_ok (λ (p : ℕ). p ≡ clamped (value_of c.args.at.now)) c.place.result c.in_ok-v.place c.in_ok-v.ensures.second
    c.place.ensures.value)
    (of_ok (λ (p : ℕ). p < 65535 → c.args.at.now ≡ decimal p) c.place.result c.in_ok-v.place
    c.in_ok-v.ensures.second c.place.ensures.text)

pub returns-else-is_same-clause-fault : goal.returns-else-is_same-clause-fault
returns-else-is_same-clause-fault c =
    no_long c.args.signal.now c.args.word.now c.args.at.now c.args.restart (sym c.is_same.ensures ∙ c.if-is_same.false)
