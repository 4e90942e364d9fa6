-- The first ready thread in a slot, and in a row of slots.
use Rattle.std.specs.Prelude.{◌≡◌, ℕ, ◌≤◌, ◌<◌, true, false}
use Rattle.win32_spec.specs.State.{Win32State}
use Rattle.win32_spec.specs.Ready.{is_ready}

-- no thread of the slot is ready, from this number on
abbrev pub IsNoneFrom : Win32State → (slot from : ℕ) → Type 0
IsNoneFrom s slot from = (t : ℕ) → from ≤ t → is_ready s slot t ≡ false

-- the thread of the slot is ready, and none is from this number up to it
pub record IsFirstFrom (s : Win32State) (slot from t : ℕ) : Type 0 where
  pub from_on : from ≤ t
  pub ready : is_ready s slot t ≡ true
  pub first : (u : ℕ) → from ≤ u → u < t → is_ready s slot u ≡ false

-- no thread is ready in the slots from one up to another
abbrev pub IsNoneAmong : Win32State → (from to : ℕ) → Type 0
IsNoneAmong s from to = (slot t : ℕ) → from ≤ slot → slot < to → is_ready s slot t ≡ false

-- the thread is ready and stands in one of the slots from one up to another, and no thread is in the slots before its
-- own one, nor one before it in its own slot
pub record IsFirstAmong (s : Win32State) (from to slot t : ℕ) : Type 0 where
  pub from_on : from ≤ slot
  pub below : slot < to
  pub ready : is_ready s slot t ≡ true
  pub slots : IsNoneAmong s from slot
  pub threads : (u : ℕ) → u < t → is_ready s slot u ≡ false
