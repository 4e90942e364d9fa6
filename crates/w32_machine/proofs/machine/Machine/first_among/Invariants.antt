use Rattle.std.proofs.Common.{◌≤◌}
use Rattle.w32_machine.specs.Looking.{IsNoneAmong}
use Rattle.w32_machine.proofs.machine.Machine.first_among.Given as goal

abbrev pub invariant-loop-place : goal.invariant-loop-place
invariant-loop-place l = record {
  above : l.from ≤ l.place;
  before : IsNoneAmong l.self.win32 l.from l.place;
}
