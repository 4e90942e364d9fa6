use Rattle.std.proofs.Common.{◌∙◌, sym}
use Rattle.cyg_script.proofs.Actions.{no_restart, last_fault, last_read}
use Rattle.cyg_script.proofs.instruction.restart_action.Goals as goal

pub returns-then-is_same-clause-fault : goal.returns-then-is_same-clause-fault
returns-then-is_same-clause-fault c =
    last_fault c.handler_action.result c.args.signal.now c.args.word.now c.args.at.now c.args.last.now
    (sym c.is_same.ensures ∙ c.if-is_same.true) c.handler_action.ensures.fault

pub returns-then-is_same-clause-read : goal.returns-then-is_same-clause-read
returns-then-is_same-clause-read c =
    last_read c.handler_action.result c.args.signal.now c.args.word.now c.args.at.now c.args.last.now
    (sym c.is_same.ensures ∙ c.if-is_same.true) c.handler_action.ensures.read

pub returns-else-is_same-clause-fault : goal.returns-else-is_same-clause-fault
returns-else-is_same-clause-fault c =
    no_restart c.args.signal.now c.args.word.now c.args.at.now c.args.last.now
    (sym c.is_same.ensures ∙ c.if-is_same.false)
