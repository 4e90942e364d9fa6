use Rattle.std.proofs.Common.{◌≡◌, ◌∷◌, replicate}
use Rattle.w32_process.specs.Places.{host_place, empty_place}
use Rattle.w32_process.proofs.processes.Processes.open.Given as goal

abbrev pub invariant-loop-slot : goal.invariant-loop-slot
invariant-loop-slot l = l.seats.items ≡ host_place ∷ replicate l._slot empty_place
