-- What is so of the numbers of every table.
use Rattle.std.specs.Prelude.{◌≡◌, ℕ, ◌≤◌, ◌<◌, List, [], ◌∷◌, length, Some, None, IsSome}
use Rattle.w32_process.specs.declared.kept.Kept.{Kept}
use Rattle.w32_process.specs.Places.{Place}
use Rattle.w32_process.specs.Table.{Table, number_at, code_of}

-- no two of them have one number
abbrev pub AreDistinct : List Kept → Type 0
AreDistinct [] = Unit {0}
AreDistinct (e ∷ es) = (code_of es e.number ≡ None) × AreDistinct es

-- each number is below the next one, and is that of one process, alive or kept
pub record AreApart (next : ℕ) (slots : List Place) (kept : List Kept) : Type 0 where
  pub below : (k n : ℕ) → number_at slots k ≡ Some n → n < next
  pub live : (k n : ℕ) → number_at slots k ≡ Some n → code_of kept n ≡ None
  pub alone : (k j n : ℕ) → number_at slots k ≡ Some n → number_at slots j ≡ Some n → k ≡ j
  pub kept_below : (n : ℕ) → IsSome (code_of kept n) → n < next
  pub kept_alone : AreDistinct kept

-- a table: from 1 to 64 slots beside the host's, and numbers as they are given
pub record IsSound (t : Table) : Type 0 where
  pub some : 2 ≤ length t.slots
  pub few : length t.slots ≤ 65
  pub numbers : AreApart t.next t.slots t.kept
