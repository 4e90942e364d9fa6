use Rattle.log_text.proofs.Outputs.{calls_stopped, calls_whole, calls_part}
use Rattle.log_text.proofs.Writing.{on_err}
use Rattle.log_text.proofs.calls.write_calls.Goals as goal

pub returns-in_err-write_groups-clause-part : goal.returns-in_err-write_groups-clause-part
returns-in_err-write_groups-clause-part g c =
    on_err _ (calls_stopped c.args.entries.now _ _ c.in_err-write_groups.ensures.part)

pub returns-clause-whole : goal.returns-clause-whole
returns-clause-whole g c =
    calls_whole c.write_output.result c.args.entries.now _ _ _ c.in_ok-write_groups.ensures.whole
    c.write_output.ensures.whole

pub returns-clause-part : goal.returns-clause-part
returns-clause-part g c =
    calls_part c.write_output.result c.args.entries.now _ _ _ c.in_ok-write_groups.ensures.whole
    c.write_output.ensures.part
