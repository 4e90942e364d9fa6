use Rattle.std.proofs.Common.{ℕ, ◌-◌, ◌≤◌}
use Rattle.win32_spec.specs.Regions.{IsFreeRange}
use Rattle.w32_memory.proofs.pages.lowest_free.Given as goal

abbrev pub invariant-loop-base : goal.invariant-loop-base
invariant-loop-base l = (lower : ℕ) → IsFreeRange l.taken lower l.size → l.base ≤ lower

abbrev pub decreases-loop-base : goal.decreases-loop-base
decreases-loop-base l = 1025 - l.base
