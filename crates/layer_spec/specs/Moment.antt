-- What is seen of a run: its moments, and the entries between them.
use Rattle.std.specs.Prelude.{ℕ, ◌+◌, nat_eq, if◌then◌else◌, List, [], ◌∷◌, ◌++◌, ◌⊎◌, length, Option, Some, None}
use Rattle.std.specs.Prelude.{option_to_list}
use Rattle.w32_base.specs.declared.event.Event.{Event}
use Rattle.w32_base.specs.declared.entry.Entry.{Entry}
use Rattle.win32_spec.specs.State.{Win32State}
use Rattle.win32_spec.specs.Driven.{Parts}
use Rattle.posix_spec.specs.State.{PosixState}

-- a moment of a run: the Win32 state, the parts of all threads, which are of type A, and the POSIX state
pub record Moment (A : Type 0) : Type 0 where
  pub win32 : Win32State
  pub parts : Parts A
  pub posix : PosixState

-- an entry of the journal, with the moment before it
pub record Seen (A : Type 0) : Type 0 where
  pub before : Moment A
  pub entry : Entry

-- One step of a history: what was seen before it, the last first, the moment before it, its entry, and the moment after
-- it.
pub record HistoryStep (A : Type 0) : Type 0 where
  pub past : List (Seen A)
  pub before : Moment A
  pub entry : Entry
  pub after : Moment A

-- the number of the step's entry: entries are numbered from 1
abbrev pub number_of : {A : Type 0} → HistoryStep A → ℕ
number_of step = length step.past + 1

-- what is seen once the step is done, the step's entry in front
abbrev pub seen_with : {A : Type 0} → HistoryStep A → List (Seen A)
seen_with step = record { before = step.before; entry = step.entry } ∷ step.past

-- what was seen at the entry with this number
abbrev pub seen_at : {A : Type 0} → List (Seen A) → ℕ → Option (Seen A)
seen_at [] n = None
seen_at (x ∷ past) n = if nat_eq n (length past + 1) then Some x else seen_at past n

-- the entries in the journal's order, and their events
abbrev pub entries_of : {A : Type 0} → List (Seen A) → List Entry
entries_of [] = []
entries_of (x ∷ past) = entries_of past ++ x.entry ∷ []

abbrev pub events_of : {A : Type 0} → List (Seen A) → List Event
events_of [] = []
events_of (x ∷ past) = events_of past ++ option_to_list x.entry.event

-- something that was seen is such
abbrev pub SomeSeen : {A : Type 0} → (Seen A → Type 0) → List (Seen A) → Type 0
SomeSeen P [] = ⊥
SomeSeen P (x ∷ past) = P x ⊎ SomeSeen P past
