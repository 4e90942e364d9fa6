use Rattle.std.proofs.Common.{ℕ, ◌≤◌}
use Rattle.run_check.specs.Parts.{IsBar}
use Rattle.run_check.proofs.parts.bar.Given as goal

abbrev pub invariant-loop-at : goal.invariant-loop-at
invariant-loop-at l = (k : ℕ) → IsBar l.text k → l.at ≤ k
