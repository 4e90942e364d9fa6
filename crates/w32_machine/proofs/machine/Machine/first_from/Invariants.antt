use Rattle.std.proofs.Common.{◌≡◌, ℕ, ◌≤◌, ◌<◌, false}
use Rattle.win32_spec.specs.Ready.{is_ready}
use Rattle.w32_machine.proofs.machine.Machine.first_from.Given as goal

abbrev pub invariant-loop-number : goal.invariant-loop-number
invariant-loop-number l = record {
  above : l.from ≤ l.number;
  before : (t : ℕ) → l.from ≤ t → t < l.number → is_ready l.self.win32 l.slot t ≡ false;
}
