use Rattle.log_text.proofs.ReadLogs.{none_said, other_said}
use Rattle.log_text.proofs.read.read_event.Goals as goal

pub returns-else-is_line_of : goal.returns-else-is_line_of
returns-else-is_line_of c = other_said c.args.script.now c.args.text.now c.in-Some.event c.is_line_of.result
    c.is_line_of.ensures.1 c.if-is_line_of.false c.in-Some.ensures

pub returns-in-None : goal.returns-in-None
returns-in-None c = none_said c.args.script.now c.args.text.now c.in-None.ensures
