use Rattle.std.proofs.Common.{◌≡◌, replicate}
use Rattle.w32_opening.proofs.parts.filled.Given as goal

abbrev pub invariant-loop-place : goal.invariant-loop-place
invariant-loop-place g l = l.items.items ≡ replicate l._place l.item
