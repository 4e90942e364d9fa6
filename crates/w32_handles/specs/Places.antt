-- The handles of a table that keeps them in a row of places: a place for each number, from a first number on.
use Rattle.std.specs.Prelude.{ℕ, ◌+◌, List, [], ◌∷◌, Option, Some, None}
use Rattle.win32_spec.specs.Handles.{Handle}

-- the handles by rising number: each place that has something, with its number
abbrev pub handles_from : ℕ → List (Option ℕ) → List Handle
handles_from number [] = []
handles_from number (None ∷ places) = handles_from (number + 1) places
handles_from number (Some names ∷ places) = record { number = number; names = names } ∷ handles_from (number + 1) places
