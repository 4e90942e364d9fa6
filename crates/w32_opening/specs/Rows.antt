-- Handles by their numbers.
use Rattle.std.specs.Prelude.{◌≡◌, ℕ, ◌+◌, List, [], ◌∷◌}
use Rattle.win32_spec.specs.Handles.{Handle}

-- the handles have the numbers from one on, one after another
abbrev pub IsRow : ℕ → List Handle → Type 0
IsRow number [] = Unit {0}
IsRow number (h ∷ hs) = (h.number ≡ number) × IsRow (number + 1) hs
