use Rattle.std.proofs.Common.{arith}
use Rattle.w32_memory.proofs.Free.{begins_later}
use Rattle.w32_memory.proofs.pages.lowest_free.Goals as goal

pub overflow_add-base : goal.overflow_add-base
overflow_add-base c = omega (arith, c.loop-base.invariant _ c.requires.1, c.requires.1.within)

pub loop-base-smaller : goal.loop-base-smaller
loop-base-smaller c = omega (arith, c.loop-base.invariant _ c.requires.1, c.requires.1.within)

pub loop-base-preserved : goal.loop-base-preserved
loop-base-preserved c = begins_later _ _ _ c.loop-base.invariant (λ free. cc (c.is_free.ensures.1 free))
