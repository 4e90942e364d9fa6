-- The history of the rows: for each entry of a journal what was asked, what came of it, and which main word it changed.
use Rattle.std.specs.Prelude.{◌≡◌, ◌≢◌, ℕ, ◌≤◌, nat_eq, if◌then◌else◌, List, [], ◌∷◌, ◌++◌, Option, Some, None}
use Rattle.w32_base.specs.declared.entry.Directive.{Directive}
use Rattle.w32_base.specs.declared.entry.Outcome.{Outcome}
use Rattle.w32_base.specs.declared.entry.Entry.{Entry}
use Rattle.script_spec.specs.declared.script.Script.{Script}
use Rattle.win32_spec.specs.State.{Win32State}
use Rattle.layer_spec.specs.Words.{main_at}
use Rattle.layer_spec.specs.Moment.{Moment, Seen}

-- a row and its new main word
pub record RowChange : Type 0 where
  pub row : ℕ
  pub word : ℕ

-- the item of an entry
pub record RowItem : Type 0 where
  pub directive : Directive
  pub outcome : Outcome
  pub change : Option RowChange

-- no main word of the script's rows changes but that of this row; row 0 is none
pub record ChangesOnly (script : Script) (s new : Win32State) (changed : ℕ) : Type 0 where
  pub others : (row : ℕ) → 1 ≤ row → row ≤ script.setup.limits.rows → row ≢ changed → main_at new row ≡ main_at s row

-- a row's main word becomes another
pub record ChangesRow (script : Script) (s new : Win32State) (change : RowChange) : Type 0 where
  pub in_range : (1 ≤ change.row) × (change.row ≤ script.setup.limits.rows)
  pub word : main_at new change.row ≡ change.word
  pub another : main_at s change.row ≢ change.word
  pub others : ChangesOnly script s new change.row

-- the main word that a step changes, or none
abbrev pub IsChange : Script → Win32State → Win32State → Option RowChange → Type 0
IsChange script s new None = ChangesOnly script s new 0
IsChange script s new (Some change) = ChangesRow script s new change

-- the item is that of an entry which leads from one state to another
pub record IsRowItem (script : Script) (s : Win32State) (e : Entry) (new : Win32State) (item : RowItem) : Type 0 where
  pub directive : item.directive ≡ e.directive
  pub outcome : item.outcome ≡ e.outcome
  pub change : IsChange script s new item.change

-- The items are those of what was seen, in the journal's order.
abbrev pub RowHistory : {A : Type 0} → Script → List (Seen A) → Moment A → List RowItem → Type 0
RowHistory script [] now items = items ≡ []
RowHistory script (x ∷ past) now items = (earlier : List RowItem) × (item : RowItem) × (items ≡ earlier ++ item ∷ [])
    × IsRowItem script x.before.win32 x.entry now.win32 item × RowHistory script past x.before earlier

-- a row's main word after a change, or after none
abbrev pub word_after : Option RowChange → ℕ → ℕ → ℕ
word_after None row word = word
word_after (Some change) row word = if nat_eq change.row row then change.word else word

-- a row's main word after these items: that of the last one that changed it, and else the word from before
abbrev pub row_word : List RowItem → ℕ → ℕ → ℕ
row_word [] row word = word
row_word (item ∷ items) row word = row_word items row (word_after item.change row word)
