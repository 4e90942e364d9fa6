use Rattle.std.proofs.Common.{◌≤◌, ◌+◌, length}
use Rattle.log_text.specs.ReadLogs.{IsRead}
use Rattle.log_text.proofs.read.read_events.Given as goal

abbrev pub invariant-loop-text : goal.invariant-loop-text
invariant-loop-text l = record {
  read : IsRead l.script l.bytes l.events.items l.rest l.line;
  small : l.line + length l.rest ≤ 67108866;
}

abbrev pub decreases-loop-text : goal.decreases-loop-text
decreases-loop-text l = length l.rest
