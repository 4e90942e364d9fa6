-- What is drawn from a source over several reads.
use Rattle.std.specs.Prelude.{◌≡◌, ℕ, ◌≤◌, List, length, drop, Option, Some, IfSome}
use Rattle.cyg_io.specs.Counts.{RoseBy}

-- n bytes were drawn: where the bytes left are told, the first n are gone, and the count of the bytes given rose by n
pub record Draws (n : ℕ) (before now : Option (List ℕ)) (given_before given_now : ℕ) : Type 0 where
  pub bytes : IfSome before (λ left. (n ≤ length left) × (now ≡ Some (drop n left)))
  pub count : RoseBy n given_before given_now

-- some number of bytes up to `most` were drawn
abbrev pub DrawsUpTo : ℕ → Option (List ℕ) → Option (List ℕ) → ℕ → ℕ → Type 0
DrawsUpTo most before now given_before given_now = (n : ℕ) × (n ≤ most) × Draws n before now given_before given_now
