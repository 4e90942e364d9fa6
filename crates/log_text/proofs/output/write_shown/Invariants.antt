use Rattle.std.proofs.Common.{◌≡◌, ◌↔◌, ◌<◌, IsTrue, [], length, take, flat_map}
use Rattle.tty_spec.specs.Terminal.{opening_terminal}
use Rattle.log_spec.specs.CallsViewLaws.{StandsIn}
use Rattle.log_spec.specs.Texts.{byte_text}
use Rattle.log_spec.specs.Output.{output_from}
use Rattle.log_text.specs.Writes.{told, WritesAll}
use Rattle.log_text.proofs.Shown.{terminal_from}
use Rattle.log_text.proofs.output.write_shown.Given as goal

abbrev pub invariant-loop-entry : goal.invariant-loop-entry
invariant-loop-entry g l = record {
  cleared : l.line ≡ [];
  terminal : l.tty ≡ terminal_from opening_terminal (take l.entry-index l.entries);
  some : IsTrue l.some ↔ (0 < length (output_from opening_terminal (take l.entry-index l.entries)));
  written : WritesAll (StandsIn (flat_map byte_text (output_from opening_terminal l.entries)))
      (flat_map byte_text (output_from opening_terminal (take l.entry-index l.entries)))
      (told (g.K.Sink.held l.initial.sink) (g.K.Sink.pieces l.initial.sink) (g.K.Sink.faults l.initial.sink))
      (told (g.K.Sink.held l.sink) (g.K.Sink.pieces l.sink) (g.K.Sink.faults l.sink));
}
