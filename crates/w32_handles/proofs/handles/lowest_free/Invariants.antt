use Rattle.std.proofs.Common.{ℕ, ◌<◌, IsSome, get_or, None}
use Rattle.w32_handles.proofs.handles.lowest_free.Given as goal

abbrev pub invariant-loop-number : goal.invariant-loop-number
invariant-loop-number l = (k : ℕ) → k < l.number → IsSome (get_or l.places k None)
