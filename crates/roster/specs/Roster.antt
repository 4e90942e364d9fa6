-- What the holder of the roster mutex may rely on. Which rows are processes, and their groups, sessions and raw
-- parents, change only in the turns of the thread that holds it. Deaths don't need it: a zombie is still a process of
-- its group.
use Rattle.std.specs.Prelude.{◌≡◌, ℕ, ◌≤◌, true, false, Some}
use Rattle.w32_base.specs.declared.entry.Directive.{Directive}
use Rattle.win32_spec.specs.Objects.{Owned}
use Rattle.win32_spec.specs.State.{Mutex, Win32State}
use Rattle.win32_spec.specs.Named.{object_by}
use Rattle.win32_spec.specs.Facts.{IsTurnOfThread}
use Rattle.layer_spec.specs.Words.{main_at, group_at}
use Rattle.roster.specs.Turns.{roster_handle}
use Rattle.roster.specs.Words.{is_process_word, is_live_word}

-- thread t of process w owns the roster mutex
abbrev pub HoldsRoster : Win32State → ℕ → ℕ → Type 0
HoldsRoster s w t = object_by s w roster_handle ≡ Some (Mutex (Owned w t))

-- The same rows are processes, each with its group word, and who is dead stays dead.
pub record RosterStays (old new : Win32State) : Type 0 where
  pub processes : (row : ℕ) → 1 ≤ row → is_process_word (main_at new row) ≡ is_process_word (main_at old row)
  pub groups : (row : ℕ) → 1 ≤ row → is_process_word (main_at old row) ≡ true → group_at new row ≡ group_at old row
  pub deaths : (row : ℕ) → 1 ≤ row → is_live_word (main_at old row) ≡ false → is_live_word (main_at new row) ≡ false

-- What the holder relies on: a step that isn't its own turn leaves the roster as it is.
abbrev pub HolderMayRely : Win32State → Directive → Win32State → Type 0
HolderMayRely old d new = (w t : ℕ) → HoldsRoster old w t → (IsTurnOfThread old d w t → ⊥) → RosterStays old new
