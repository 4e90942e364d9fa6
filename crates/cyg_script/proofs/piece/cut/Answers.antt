use Rattle.cyg_script.proofs.Pieces.{cut_some, cut_none}
use Rattle.cyg_script.proofs.piece.cut.Goals as goal

pub returns-in-Some : goal.returns-in-Some
returns-in-Some c = cut_some c.args.separator c.args.bytes.now c.in-Some.at c.in-Some.ensures

pub returns-in-None : goal.returns-in-None
returns-in-None c = cut_none c.args.separator c.args.bytes.now c.in-None.ensures
