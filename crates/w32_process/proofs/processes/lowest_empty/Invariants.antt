use Rattle.std.proofs.Common.{ℕ, ◌≤◌, ◌<◌, IsSome}
use Rattle.w32_process.specs.Table.{number_at}
use Rattle.w32_process.proofs.processes.lowest_empty.Given as goal

abbrev pub invariant-loop-slot : goal.invariant-loop-slot
invariant-loop-slot l = (1 ≤ l.slot) × ((k : ℕ) → 1 ≤ k → k < l.slot → IsSome (number_at l.seats k))
