use Rattle.std.proofs.Common.{sym, ◌∙◌}
use Rattle.log_text.proofs.ReadLogs.{no_line, unfit, whole, more, nothing_left, something_left}
use Rattle.log_text.proofs.read.read_events.Goals as goal

pub returns-then-is_empty-clause-events : goal.returns-then-is_empty-clause-events
returns-then-is_empty-clause-events c =
    whole c.args.script.now c.args.bytes.now c.loop-text.events.items c.loop-text.rest.now
    c.in-Some-next_line.text.now c.in-Some-next_line.after.now c.loop-text.line c.loop-text.invariant.read
    c.in-Some-next_line.ensures.0 (sym c.is_end.ensures ∙ c.if-is_end.true)
    (nothing_left c.in-Some-next_line.after.now (sym c.is_empty.ensures ∙ c.if-is_empty.true))

pub returns-then-is_end-clause-fault : goal.returns-then-is_end-clause-fault
returns-then-is_end-clause-fault c =
    more c.args.script.now c.args.bytes.now c.loop-text.events.items c.loop-text.rest.now
    c.in-Some-next_line.text.now c.in-Some-next_line.after.now c.loop-text.line c.loop-text.invariant.read
    c.in-Some-next_line.ensures.0 (sym c.is_end.ensures ∙ c.if-is_end.true)
    (something_left c.in-Some-next_line.after.now (sym c.is_empty.ensures ∙ c.if-is_empty.false))

pub returns-in_default-read_event-clause-fault : goal.returns-in_default-read_event-clause-fault
returns-in_default-read_event-clause-fault c =
    unfit c.args.script.now c.args.bytes.now c.loop-text.events.items c.loop-text.rest.now
    c.in-Some-next_line.text.now c.in-Some-next_line.after.now c.loop-text.line c.loop-text.invariant.read
    c.in-Some-next_line.ensures.0 c.in-Some-next_line.ensures.1 (sym c.is_end.ensures ∙ c.if-is_end.false)
    c.in_default-read_event.ensures

pub returns-clause-fault : goal.returns-clause-fault
returns-clause-fault c =
    no_line c.args.script.now c.args.bytes.now c.loop-text.events.items c.loop-text.rest.now c.loop-text.line
    c.loop-text.invariant.read c.in_default-next_line.ensures
