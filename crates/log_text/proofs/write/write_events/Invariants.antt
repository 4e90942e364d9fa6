use Rattle.std.proofs.Common.{◌≡◌, [], take}
use Rattle.cyg_io.specs.Sink.{EndsOneLine}
use Rattle.log_spec.specs.Views.{event_lines, events_of}
use Rattle.log_text.specs.Writes.{told, WritesAll}
use Rattle.log_text.proofs.write.write_events.Given as goal

abbrev pub invariant-loop-entry : goal.invariant-loop-entry
invariant-loop-entry g l = record {
  cleared : l.line ≡ [];
  written : WritesAll EndsOneLine (event_lines (events_of (take l.entry-index l.entries)))
      (told (g.K.Sink.held l.initial.sink) (g.K.Sink.pieces l.initial.sink) (g.K.Sink.faults l.initial.sink))
      (told (g.K.Sink.held l.sink) (g.K.Sink.pieces l.sink) (g.K.Sink.faults l.sink));
}
