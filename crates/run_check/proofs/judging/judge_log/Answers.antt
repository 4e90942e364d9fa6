use Rattle.std.proofs.Common.{◌≤◌, length, arith}
use Rattle.log_text.specs.ReadLogs.{most_log_bytes}
use Rattle.run_check.proofs.JudgeLemmas.{events_count}
use Rattle.run_check.proofs.judging.judge_log.Goals as goal

pub check-requires : goal.check-requires
check-requires c =
    let few : length c.in-Ok.events.items ≤ most_log_bytes =
    omega (arith, events_count c.args.script.now c.args.log.now c.in-Ok.events.items c.in-Ok.ensures.events, c.requires)
    in few
