use Rattle.cyg_cli.proofs.CheckEnds.{told_ends}
use Rattle.cyg_cli.proofs.top.check_log.Goals as goal

pub returns-in-Ok : goal.returns-in-Ok
returns-in-Ok g c = told_ends c.in-Ok.judged _ _ c.answer.result c.in-Ok.ensures c.answer.ensures
