use Rattle.std.proofs.Common.{arith}
use Rattle.w32_process.specs.SoundLaws.{IsSound-opening}
use Rattle.w32_process.proofs.processes.Processes.open.Goals as goal

pub invariant_of-result : goal.invariant_of-result
invariant_of-result c = (
  omega (arith, c.in_ok-with_capacity.ensures.capacity),
  rw (
    c.loop-slot.invariant,
    c.in_ok-with_capacity.ensures.items,
  ) (IsSound-opening _ (omega arith) (omega arith)),
)
