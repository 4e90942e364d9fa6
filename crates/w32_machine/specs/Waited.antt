-- The first signalled place of a wait's list.
use Rattle.std.specs.Prelude.{◌≡◌, ℕ, List, Option, Some, None, MatchOption, slice_index}
use Rattle.win32_spec.specs.Handles.{Handle}
use Rattle.win32_spec.specs.State.{Win32State}
use Rattle.win32_spec.specs.HandleCalls.{first_signalled}

-- that place with the handle that stands there, or none
abbrev pub IsFirstSignalled : Win32State → ℕ → ℕ → List Handle → List ℕ → Option (ℕ × ℕ) → Type 0
IsFirstSignalled s w t handles list found =
    MatchOption found (first_signalled s w t handles list 0 ≡ None)
    (λ at. (first_signalled s w t handles list 0 ≡ Some at.0) × (slice_index list at.0 ≡ at.1))
