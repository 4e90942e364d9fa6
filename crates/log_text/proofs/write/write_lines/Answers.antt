use Rattle.std.proofs.Common.{refl}
use Rattle.w32_base.specs.declared.entry.View.TheVariants as view
use Rattle.cyg_io.specs.Sink.{EndsOneLine}
use Rattle.log_text.specs.Pieces.{IsPiece}
use Rattle.log_text.proofs.Outputs.{lines_whole, lines_part, all_lines, events_lines}
use Rattle.log_text.proofs.write.write_lines.Goals as goal

pub returns-in-All-clause-whole : goal.returns-in-All-clause-whole
returns-in-All-clause-whole g c =
    lines_whole c.write_entries.result c.args.view view.All c.args.entries.now _ EndsOneLine _ _ c.in-All.is
    (λ piece h. h)
    (all_lines c.args.entries.now) c.write_entries.ensures.whole

pub returns-in-All-clause-part : goal.returns-in-All-clause-part
returns-in-All-clause-part g c =
    lines_part c.write_entries.result c.args.view view.All c.args.entries.now _ EndsOneLine _ _ c.in-All.is
    (λ piece h. h)
    (all_lines c.args.entries.now) c.write_entries.ensures.part

pub returns-in-Events-clause-whole : goal.returns-in-Events-clause-whole
returns-in-Events-clause-whole g c =
    lines_whole c.write_events.result c.args.view view.Events c.args.entries.now _ EndsOneLine _ _ c.in-Events.is
    (λ piece h. h)
    (events_lines c.args.entries.now) c.write_events.ensures.whole

pub returns-in-Events-clause-part : goal.returns-in-Events-clause-part
returns-in-Events-clause-part g c =
    lines_part c.write_events.result c.args.view view.Events c.args.entries.now _ EndsOneLine _ _ c.in-Events.is
    (λ piece h. h)
    (events_lines c.args.entries.now) c.write_events.ensures.part

pub returns-in-Calls-clause-whole : goal.returns-in-Calls-clause-whole
returns-in-Calls-clause-whole g c =
    lines_whole c.write_calls.result c.args.view view.Calls c.args.entries.now _
    (IsPiece view.Calls c.args.entries.now) _ _ c.in-Calls.is (λ piece h. h)
    refl c.write_calls.ensures.whole

pub returns-in-Calls-clause-part : goal.returns-in-Calls-clause-part
returns-in-Calls-clause-part g c =
    lines_part c.write_calls.result c.args.view view.Calls c.args.entries.now _
    (IsPiece view.Calls c.args.entries.now) _ _ c.in-Calls.is (λ piece h. h)
    refl c.write_calls.ensures.part
