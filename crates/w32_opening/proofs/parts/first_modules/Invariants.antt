use Rattle.std.proofs.Common.{◌≡◌, ◌∷◌, [], replicate}
use Rattle.w32_opening.proofs.parts.first_modules.Given as goal

abbrev pub invariant-loop-slot : goal.invariant-loop-slot
invariant-loop-slot l = l.modules.items ≡ [] ∷ l.fn.placed ∷ replicate l._slot []
