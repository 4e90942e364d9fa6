use Rattle.std.proofs.Common.{◌∙◌, sym}
use Rattle.cyg_script.proofs.Actions.{no_plain}
use Rattle.cyg_script.proofs.instruction.plain_action.Goals as goal

pub returns-else-is_same-2-clause-fault : goal.returns-else-is_same-2-clause-fault
returns-else-is_same-2-clause-fault c =
    sym (no_plain c.args.signal.now c.args.word.now (sym c.is_same.ensures ∙ c.if-is_same.false)
    (sym c.is_same-else-is_same.ensures ∙ c.if-is_same-2.false))
