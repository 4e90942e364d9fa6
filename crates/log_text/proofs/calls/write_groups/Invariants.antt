use Rattle.std.proofs.Common.{◌≡◌, ◌≤◌, ◌-◌, []}
use Rattle.cyg_io.specs.Sink.{EndsOneLine}
use Rattle.log_text.specs.Writes.{told, WritesAll}
use Rattle.log_text.specs.Callers.{groups_below}
use Rattle.log_text.proofs.calls.write_groups.Given as goal

abbrev pub invariant-loop-number : goal.invariant-loop-number
invariant-loop-number g l = record {
  range : l.number ≤ 4002;
  cleared : l.line ≡ [];
  written : WritesAll EndsOneLine (groups_below l.number l.entries)
      (told (g.K.Sink.held l.initial.sink) (g.K.Sink.pieces l.initial.sink) (g.K.Sink.faults l.initial.sink))
      (told (g.K.Sink.held l.sink) (g.K.Sink.pieces l.sink) (g.K.Sink.faults l.sink));
}

abbrev pub decreases-loop-number : goal.decreases-loop-number
decreases-loop-number g l = 4002 - l.number
