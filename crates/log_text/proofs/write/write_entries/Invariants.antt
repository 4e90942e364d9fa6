use Rattle.std.proofs.Common.{◌≡◌, [], take}
use Rattle.cyg_io.specs.Sink.{EndsOneLine}
use Rattle.log_spec.specs.Views.{entry_lines}
use Rattle.log_text.specs.Writes.{told, WritesAll}
use Rattle.log_text.proofs.write.write_entries.Given as goal

abbrev pub invariant-loop-index : goal.invariant-loop-index
invariant-loop-index g l = record {
  cleared : l.line ≡ [];
  written : WritesAll EndsOneLine (entry_lines 1 (take l.index l.entries))
      (told (g.K.Sink.held l.initial.sink) (g.K.Sink.pieces l.initial.sink) (g.K.Sink.faults l.initial.sink))
      (told (g.K.Sink.held l.sink) (g.K.Sink.pieces l.sink) (g.K.Sink.faults l.sink));
}
