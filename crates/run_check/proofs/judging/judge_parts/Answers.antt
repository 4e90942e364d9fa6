use Rattle.run_check.proofs.JudgeLemmas.{if_with_script}
use Rattle.run_check.proofs.judging.judge_parts.Goals as goal

pub returns-in-Ok : goal.returns-in-Ok
returns-in-Ok c =
    if_with_script c.args.text.now c.args.log.now c.in-Ok.script c.judge_log.result c.in-Ok.ensures.1
    c.judge_log.ensures
