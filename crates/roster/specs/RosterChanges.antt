-- Which changes of a main word leave the roster as it is: all but a publishing, a reaping and a collecting.
use Rattle.std.specs.Prelude.{◌≡◌, ◌≢◌, ℕ, ◌≤◌, Bool, true, false, Some}
use Rattle.win32_spec.specs.State.{Win32State}
use Rattle.layer_spec.specs.Rows.{main_place}
use Rattle.layer_spec.specs.Words.{word_in, main_at}
use Rattle.layer_spec.specs.Transitions.{Op, Hold, Drop, Publish, Post, Probe, Clear, Stop, TakeOver, Seal, Report}
use Rattle.layer_spec.specs.Transitions.{Reap, Collect}
use Rattle.roster.specs.Words.{changed_word}

-- whether it changes which rows are processes
abbrev pub changes_roster : Op → Bool
changes_roster Hold = false
changes_roster Drop = false
changes_roster (Publish image) = true
changes_roster (Post s) = false
changes_roster Probe = false
changes_roster (Clear s) = false
changes_roster (Stop s) = false
changes_roster (TakeOver image) = false
changes_roster (Seal status) = false
changes_roster Report = false
changes_roster Reap = true
changes_roster Collect = true

-- the main word of a row is changed so, and no other word
pub record ChangesMain (old new : Win32State) (row : ℕ) (op : Op) : Type 0 where
  pub from : 1 ≤ row
  pub changed : changed_word op (main_at old row) ≡ Some (main_at new row)
  pub others : (i : ℕ) → i ≢ main_place row → word_in new i ≡ word_in old i
