use Rattle.std.proofs.Common.{refl}
use Rattle.cyg_io.specs.Sink.{EndsOneLine}
use Rattle.log_text.proofs.Views.{events_next, events_at}
use Rattle.log_text.proofs.Writing.{writes_none, writes_both, writes_part, on_err}
use Rattle.log_text.proofs.write.write_events.Goals as goal

pub loop-entry-init : goal.loop-entry-init
loop-entry-init g c = record {
  cleared = c.requires;
  written = writes_none EndsOneLine _ _ refl;
}

pub returns-in_err-write_event-clause-part : goal.returns-in_err-write_event-clause-part
returns-in_err-write_event-clause-part g c =
    on_err _ (writes_part
    EndsOneLine _ _ _ _ _ _ _
    (events_at c.args.entries.now c.loop-entry.entry-index c.entry-item.result c.loop-entry-test.true c.entry-item.is)
    c.loop-entry.invariant.written c.in_err-write_event.ensures.part)

pub loop-entry-preserved : goal.loop-entry-preserved
loop-entry-preserved g c = record {
  cleared = c.in_ok-write_event.ensures.cleared;
  written = writes_both
      EndsOneLine _ _ _ _ _ _
      (events_next c.args.entries.now c.loop-entry.entry-index c.entry-item.result c.loop-entry-test.true
      c.entry-item.is)
      c.loop-entry.invariant.written c.in_ok-write_event.ensures.whole;
}
