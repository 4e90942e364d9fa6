-- What every step keeps, by whomever it is made. These are the facts on which a thread relies between two of its turns:
-- each says by whose turn something shared may change, so that everybody else may rely on it. A step is looked at once
-- for each fact. That the other facts, of handles, bytes, lives, mutexes and posted calls, follow from the machine
-- alone is proved in `StableFacts`, `StepFacts` and `PostedLaws` of `win32_spec`.
use Rattle.std.specs.Prelude.{◌≡◌, ◌≢◌, ◌⊎◌, ℕ, ◌+◌, ◌<◌, ◌≤◌, Bool, true, false, Option, Some, None}
use Rattle.std.specs.Prelude.{length}
use Rattle.w32_base.specs.declared.own.Own.{Own}
use Rattle.w32_base.specs.Part.{KeepsImage}
use Rattle.win32_spec.specs.State.{Ended, Process, Thread, Win32State}
use Rattle.win32_spec.specs.Lookup.{process_of, thread_of, memory_by}
use Rattle.win32_spec.specs.Named.{named_by}
use Rattle.win32_spec.specs.Run.{ended_from_outside}
use Rattle.win32_spec.specs.Facts.{IsTurnOf, IsTurnOfThread, IsWrittenTo}
use Rattle.layer_spec.specs.Rows.{ExitWord, MainWord, RowKind, Free, Held, Running, Stopped, Zombie, Gone}
use Rattle.layer_spec.specs.Decoding.{main_of, main_image, exit_of}
use Rattle.layer_spec.specs.Discipline.{is_end}
use Rattle.layer_spec.specs.Words.{claimed_in, main_at, group_at, exit_at}
use Rattle.layer_spec.specs.HeapReads.{child_count_in, child_in}
use Rattle.layer_spec.specs.Moment.{HistoryStep, SomeSeen, seen_with}
use Rattle.layer_spec.specs.Transitions.{Op, is_op}
use Rattle.layer_spec.specs.Turns.{is_live_process, was_ended}
use Rattle.roster.specs.Roster.{HolderMayRely}
use Rattle.roster.specs.Turns.{roster_handle}
use Rattle.roster.specs.Words.{changed_word, is_process_word, is_live_word}
use Rattle.world_spec.specs.Made.{IsMaker, Claims, IsClaimedBy, opener_of, IsNamed, NamedThen}

-- a main word that is as before, or changed by an op of the table
abbrev pub ChangesByTable : ℕ → ℕ → Type 0
ChangesByTable w v = (v ≡ w) ⊎ ((op : Op) × (is_op op ≡ true) × (changed_word op w ≡ Some v))

-- the three words of a row are as before
pub record RowStays (old new : Win32State) (row : ℕ) : Type 0 where
  pub main : main_at new row ≡ main_at old row
  pub group : group_at new row ≡ group_at old row
  pub exit : exit_at new row ≡ exit_at old row

-- whether a row of this kind that was claimed is neither published nor dropped
abbrev pub is_open_kind : RowKind → Bool
is_open_kind Free = true
is_open_kind Held = true
is_open_kind Running = false
is_open_kind Stopped = false
is_open_kind Zombie = false
is_open_kind Gone = false

abbrev pub is_open_main : Option MainWord → Bool
is_open_main None = false
is_open_main (Some m) = is_open_kind m.kind

-- the exit word of a row carries the image that its main word names
pub record CarriesImage (s : Win32State) (row : ℕ) : Type 0 where
  pub word : ExitWord
  pub decodes : exit_of (exit_at s row) ≡ Some word
  pub image : word.image ≡ main_image (main_at s row)

-- how often thread t of process v is suspended, where there is one
abbrev pub suspended_by : Option Thread → Option ℕ
suspended_by None = None
suspended_by (Some x) = Some x.suspended

abbrev pub suspended_of : Win32State → (v t : ℕ) → Option ℕ
suspended_of s v t = suspended_by (thread_of (process_of s.processes v) t)

-- the step is a turn of the main thread of process v's maker, and no main word names v, now or earlier
pub record IsMakersTurn {A : Type 0} (step : HistoryStep A) (v : ℕ) : Type 0 where
  pub maker : ℕ
  pub made : IsMaker step.past maker v
  pub turn : IsTurnOfThread step.before.win32 step.entry.directive maker 0
  pub unnamed : IsNamed step.before.win32 v → ⊥
  pub never : SomeSeen (NamedThen v) step.past → ⊥

-- The main word of a row comes to name a process in this step: in a turn of the main thread of that process's maker. No
-- row named it before, and every other main word stays. That process is alive, or an `end` ended it.
pub record Names {A : Type 0} (step : HistoryStep A) (row : ℕ) : Type 0 where
  pub turn : IsMakersTurn step (main_image (main_at step.after.win32 row))
  pub others : (other : ℕ) → 1 ≤ other → other ≢ row
      → main_at step.after.win32 other ≡ main_at step.before.win32 other
  pub lives : (is_live_process step.after.win32 (main_image (main_at step.after.win32 row)) ≡ true)
      ⊎ (was_ended (seen_with step) (main_image (main_at step.after.win32 row)) ≡ true)

-- The facts of the words.
-- The number of claimed rows never falls and grows by one at most, and whoever claims a row is answered that number and
-- adds one to it.
-- Main words change by the table. The words of a row that nobody claimed stay. Those of a row that was claimed, until
-- it is published or dropped, change only in turns of the main thread that claimed it. While a thread holds the
-- roster mutex, others leave the roster as it is. The exit word of a row that is a process changes only in a turn of
-- the main thread of the named image, and only while it doesn't carry that image. The named image of a live row
-- changes only in such a turn, and so does a live row become a zombie while its image is alive. A live row comes to
-- name a process only as `Names` says.
pub record KeepsWords {A : Type 0} (step : HistoryStep A) : Type 0 where
  pub grows : claimed_in step.before.win32 ≤ claimed_in step.after.win32
  pub by_one : claimed_in step.after.win32 ≤ claimed_in step.before.win32 + 1
  pub claims : (row w : ℕ) → Claims row w (record { before = step.before; entry = step.entry })
      → (row ≡ claimed_in step.before.win32 + 1) × (claimed_in step.after.win32 ≡ row)
  pub mains : (row : ℕ) → 1 ≤ row → ChangesByTable (main_at step.before.win32 row) (main_at step.after.win32 row)
  pub unclaimed : (row : ℕ) → claimed_in step.before.win32 < row → RowStays step.before.win32 step.after.win32 row
  pub claimed : (row w : ℕ) → IsClaimedBy step.past row w
      → is_open_main (main_of (main_at step.before.win32 row)) ≡ true
      → (IsTurnOfThread step.before.win32 step.entry.directive w 0 → ⊥)
      → RowStays step.before.win32 step.after.win32 row
  pub holder : HolderMayRely step.before.win32 step.entry.directive step.after.win32
  pub exits : (row : ℕ) → 1 ≤ row → is_process_word (main_at step.before.win32 row) ≡ true
      → (exit_at step.after.win32 row ≡ exit_at step.before.win32 row)
      ⊎ (IsTurnOfThread step.before.win32 step.entry.directive (main_image (main_at step.before.win32 row)) 0
      × (CarriesImage step.before.win32 row → ⊥))
  pub images : (row : ℕ) → 1 ≤ row → is_live_word (main_at step.before.win32 row) ≡ true
      → is_live_word (main_at step.after.win32 row) ≡ true
      → (main_image (main_at step.after.win32 row) ≡ main_image (main_at step.before.win32 row))
      ⊎ IsTurnOfThread step.before.win32 step.entry.directive (main_image (main_at step.before.win32 row)) 0
  pub seals : (row : ℕ) → 1 ≤ row → is_live_word (main_at step.before.win32 row) ≡ true
      → is_live_word (main_at step.after.win32 row) ≡ false
      → (is_live_process step.before.win32 (main_image (main_at step.before.win32 row)) ≡ false)
      ⊎ IsTurnOfThread step.before.win32 step.entry.directive (main_image (main_at step.before.win32 row)) 0
  pub names : (row : ℕ) → 1 ≤ row → is_live_word (main_at step.after.win32 row) ≡ true
      → (is_live_word (main_at step.before.win32 row) ≡ false)
      ⊎ (main_image (main_at step.after.win32 row) ≢ main_image (main_at step.before.win32 row))
      → Names step row

-- A cygheap's list of children is as before, but for what is noted of each.
pub record KeepsChildren (old new : Own) : Type 0 where
  pub length_is : length new.cyg ≡ length old.cyg
  pub count : child_count_in new.cyg ≡ child_count_in old.cyg
  pub numbers : (i : ℕ) → i < child_count_in old.cyg → (child_in new.cyg i).number ≡ (child_in old.cyg i).number

-- Process v ends in this step, with this code.
pub record EndsWith {A : Type 0} (step : HistoryStep A) (v code : ℕ) : Type 0 where
  pub before : is_live_process step.before.win32 v ≡ true
  pub process : Process
  pub found : process_of step.after.win32.processes v ≡ Some process
  pub life : process.life ≡ Ended code

-- In a step other than an `end` no process ends with the code of an end from outside, and the first process, number 2,
-- ends only with its status as the POSIX machine keeps it.
abbrev pub EndsWithin : {A : Type 0} → HistoryStep A → Type 0
EndsWithin step = is_end step.entry.directive ≡ false → (v code : ℕ) → EndsWith step v code
    → (code < ended_from_outside) × (v ≡ 2 → step.after.posix.first_status ≡ Some code)

-- The facts of processes.
-- Handles 1 to 8 of a live process, once it has them, name the same for ever, also in its own turns. Every other handle
-- names the same but in turns of the thread to which it was answered. What a handle 2 names, a handle 2 named before:
-- so all of them name one roster mutex. The bytes of a process are written by another only in turns of its maker,
-- before a main word names it. While none names it, its own turns leave data, heap and stack alone too. Its threads 1
-- and 2 leave them alone always, and the list of children in its cygheap but for what is noted of each. A thread is
-- suspended and resumed only in turns of its own process, or of its maker before a main word names it. Processes end
-- with codes as `EndsWithin` says.
pub record KeepsProcesses {A : Type 0} (step : HistoryStep A) : Type 0 where
  pub low_handles : (v h names : ℕ) → h ≤ 8 → named_by step.before.win32 v h ≡ Some names
      → is_live_process step.after.win32 v ≡ true → named_by step.after.win32 v h ≡ Some names
  pub own_handles : (v h names : ℕ) → named_by step.before.win32 v h ≡ Some names
      → is_live_process step.after.win32 v ≡ true
      → (IsTurnOfThread step.before.win32 step.entry.directive v (opener_of step.past v h) → ⊥)
      → named_by step.after.win32 v h ≡ Some names
  pub roster_handles : (v names : ℕ) → is_live_process step.after.win32 v ≡ true
      → named_by step.after.win32 v roster_handle ≡ Some names
      → (w : ℕ) × (is_live_process step.before.win32 w ≡ true)
      × (named_by step.before.win32 w roster_handle ≡ Some names)
  pub writes : (v : ℕ) → IsWrittenTo step.before.win32 step.entry.directive step.entry.call v → IsMakersTurn step v
  pub unnamed : (v : ℕ) → (IsNamed step.before.win32 v → ⊥)
      → IsTurnOf step.before.win32 step.entry.directive v → is_live_process step.after.win32 v ≡ true
      → KeepsImage (memory_by step.before.win32 v) (memory_by step.after.win32 v)
  pub helpers : (v t : ℕ) → IsTurnOfThread step.before.win32 step.entry.directive v t → t ≢ 0
      → is_live_process step.after.win32 v ≡ true
      → KeepsImage (memory_by step.before.win32 v) (memory_by step.after.win32 v)
  pub children : (v t : ℕ) → IsTurnOfThread step.before.win32 step.entry.directive v t → t ≢ 0
      → is_live_process step.after.win32 v ≡ true
      → KeepsChildren (memory_by step.before.win32 v) (memory_by step.after.win32 v)
  pub suspends : (v t : ℕ) → is_live_process step.before.win32 v ≡ true → is_live_process step.after.win32 v ≡ true
      → (suspended_of step.after.win32 v t ≡ suspended_of step.before.win32 v t)
      ⊎ IsTurnOf step.before.win32 step.entry.directive v ⊎ IsMakersTurn step v
  pub ends : EndsWithin step

-- All of them; and the host lives for ever.
pub record KeepsFacts {A : Type 0} (step : HistoryStep A) : Type 0 where
  pub words : KeepsWords step
  pub processes : KeepsProcesses step
  pub host : is_live_process step.before.win32 1 ≡ true → is_live_process step.after.win32 1 ≡ true
