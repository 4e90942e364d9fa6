use Rattle.std.proofs.Common.{ℕ, ◌<◌, ◌≤◌}
use Rattle.win32_spec.specs.Lookup.{IsOccupied}
use Rattle.w32_machine.proofs.machine.Machine.free_slot.Given as goal

abbrev pub invariant-loop-number : goal.invariant-loop-number
invariant-loop-number l = (k : ℕ) → 1 ≤ k → k < l.number → IsOccupied l.self.win32.processes k
