-- A text's two parts: a script, and the log of a run of it.
use Rattle.std.specs.Prelude.{◌≡◌, ◌≤◌, ℕ, ◌+◌, ◌-◌, ◌⊎◌, List, [], get_or, take, drop, Option, Some, None}

-- A line `==` stands here, and LF ends it.
pub record IsBar (text : List ℕ) (at : ℕ) : Type 0 where
  pub begins : (at ≡ 0) ⊎ (get_or text (at - 1) 0 ≡ 10)
  pub first : get_or text at 0 ≡ 61
  pub second : get_or text (at + 1) 0 ≡ 61
  pub ended : get_or text (at + 2) 0 ≡ 10

-- There is no such line, or the first one stands here.
abbrev pub IsFirstBar : List ℕ → Option ℕ → Type 0
IsFirstBar text None = (at : ℕ) → IsBar text at → ⊥
IsFirstBar text (Some at) = IsBar text at × ((k : ℕ) → IsBar text k → at ≤ k)

abbrev pub script_part : List ℕ → Option ℕ → List ℕ
script_part text None = text
script_part text (Some at) = take at text

abbrev pub log_part : List ℕ → Option ℕ → List ℕ
log_part text None = []
log_part text (Some at) = drop (at + 3) text

-- The script stands before the first such line, and the log behind it; else the text is a script, and the log is empty.
pub record AreParts (text script log : List ℕ) : Type 0 where
  pub bar : Option ℕ
  pub is_first : IsFirstBar text bar
  pub script_is : script ≡ script_part text bar
  pub log_is : log ≡ log_part text bar
