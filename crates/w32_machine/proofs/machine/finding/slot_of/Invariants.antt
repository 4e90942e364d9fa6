use Rattle.std.proofs.Common.{◌≡◌, ℕ, ◌<◌, Some}
use Rattle.w32_process.specs.Sound.{IsSound}
use Rattle.w32_process.specs.Table.{number_at}
use Rattle.w32_machine.proofs.machine.finding.slot_of.Given as goal

abbrev pub invariant-loop-place : goal.invariant-loop-place
invariant-loop-place l = record {
  before : (k : ℕ) → k < l.place → number_at l.processes.slots k ≡ Some l.w → ⊥;
  sound : 0 < l.place → IsSound l.processes;
}
