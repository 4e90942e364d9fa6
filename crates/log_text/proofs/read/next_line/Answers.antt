use Rattle.log_text.proofs.ReadLines.{cut_some, cut_none, cut_line}
use Rattle.log_text.proofs.read.next_line.Goals as goal

pub returns-in-Some : goal.returns-in-Some
returns-in-Some c = cut_line _ _ _ (cut_some 10 c.args.bytes.now c.in-Some.at c.in-Some.ensures)

pub returns-in-None : goal.returns-in-None
returns-in-None c = cut_none 10 c.args.bytes.now c.in-None.ensures
