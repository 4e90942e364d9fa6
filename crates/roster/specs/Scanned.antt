-- What a look through the rows has found out, in the state in which it stands.
use Rattle.std.specs.Prelude.{◌≡◌, ℕ, ◌≤◌, ◌<◌, true, false, Some}
use Rattle.w32_base.specs.declared.call.Call.{Call}
use Rattle.w32_base.specs.declared.call.Call.TheVariants as call
use Rattle.w32_base.specs.declared.call.Reply.{Reply}
use Rattle.w32_base.specs.declared.call.Reply.TheVariants as reply
use Rattle.win32_spec.specs.State.{Win32State}
use Rattle.layer_spec.specs.Rows.{GroupWord}
use Rattle.layer_spec.specs.Decoding.{group_of}
use Rattle.layer_spec.specs.Words.{word_in, main_at, group_at}
use Rattle.roster.specs.declared.scan.Scan.{Scan}
use Rattle.roster.specs.declared.scan.Scan.TheVariants as scan
use Rattle.roster.specs.Words.{is_process_word}

-- where the call looks at a word of the section, the reply is the word that stands there
abbrev pub IsToldIn : Win32State → Call → Reply → Type 0
IsToldIn s (call.Load h i) r = r ≡ reply.Word (word_in s i)
IsToldIn s _ r = Unit {0}

-- the row is a process, and its group word tells this
pub record IsProcessAt (s : Win32State) (row : ℕ) (g : GroupWord) : Type 0 where
  pub from : 1 ≤ row
  pub process : is_process_word (main_at s row) ≡ true
  pub tells : group_of (group_at s row) ≡ Some g

-- no row behind this one is a process
abbrev pub NoneBehind : Win32State → ℕ → Type 0
NoneBehind s last = (row : ℕ) → last < row → is_process_word (main_at s row) ≡ false

-- a process that the look has come to
pub record StandsAt (s : Win32State) (row : ℕ) : Type 0 where
  pub from : 1 ≤ row
  pub process : is_process_word (main_at s row) ≡ true

-- What is asked of the processes one after another: of a process with its row and what its group word tells, in a
-- state.
module _ (Q : Win32State → ℕ → GroupWord → Type 0) where
  -- of each process below a row, and of each
  abbrev pub EachBelow : Win32State → ℕ → Type 0
  EachBelow s last = (row : ℕ) (g : GroupWord) → row < last → IsProcessAt s row g → Q s row g

  abbrev pub Each : Win32State → Type 0
  Each s = (row : ℕ) (g : GroupWord) → IsProcessAt s row g → Q s row g

  -- what a look knows, if what is asked held of each process at which it stopped
  abbrev pub ScanKnows : Win32State → Scan → Type 0
  ScanKnows s (scan.Counting rows) = NoneBehind s rows
  ScanKnows s (scan.Looking row last) = EachBelow s row × NoneBehind s last × (1 ≤ row)
  ScanKnows s (scan.Grouping row last) = EachBelow s row × NoneBehind s last × StandsAt s row
  ScanKnows s (scan.Found row last w) = EachBelow s row × NoneBehind s last × StandsAt s row × (group_at s row ≡ w)
  ScanKnows s scan.Past = Each s
  ScanKnows s scan.Rest = Unit {0}
