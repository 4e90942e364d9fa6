-- The clause of the end of a process: what its main thread knows at each of its steps, before the row is sealed and
-- after it.
use Rattle.std.specs.Prelude.{◌≡◌, ◌≢◌, ℕ, ◌+◌, ◌<◌, ◌≤◌, Bool, true, false, List, Option, Some, None}
use Rattle.script_spec.specs.declared.script.Script.{Script}
use Rattle.vm_spec.specs.Image.{Image}
use Rattle.vm_spec.specs.Step.{Upcoming, ImageFault}
use Rattle.win32_spec.specs.Lookup.{memory_by}
use Rattle.win32_spec.specs.State.{Win32State}
use Rattle.posix_spec.specs.Conditions.{next_of}
use Rattle.posix_spec.specs.DeathSteps.{exit_status}
use Rattle.posix_spec.specs.State as posix
use Rattle.posix_spec.specs.State.{NoCall, Record, PosixState, record_of}
use Rattle.posix_spec.specs.WellFormed.{IsUsed}
use Rattle.layer_spec.specs.Decoding.{main_of, main_image, group_of}
use Rattle.layer_spec.specs.Moment.{Moment, Seen, SomeSeen}
use Rattle.layer_spec.specs.Rows.{MainWord, GroupWord, RowKind, Free, Held, Running, Stopped, Zombie, Gone}
use Rattle.layer_spec.specs.Transitions.{Seal, Collect}
use Rattle.layer_spec.specs.Words.{row_of, main_at, group_at, exit_at}
use Rattle.roster.specs.Roster.{HoldsRoster}
use Rattle.roster.specs.Words.{changed_word, is_live_word, is_process_word}
use Rattle.world_spec.specs.Facts.{CarriesImage}
use Rattle.world_spec.specs.Made.{NamedThen}
use Rattle.world_spec.specs.RowsBesideLaws.{IsOwnRow}
use Rattle.child_watch.specs.declared.collect.Gather.{Gather}
use Rattle.child_watch.specs.declared.collect.Gather.TheVariants as gather
use Rattle.child_watch.specs.declared.ending.Ending.{Ending}
use Rattle.child_watch.specs.declared.ending.Ending.TheVariants as ending
use Rattle.child_watch.specs.declared.exiting.ExitStep.{ExitStep}
use Rattle.child_watch.specs.declared.exiting.ExitStep.TheVariants as exit
use Rattle.child_watch.specs.declared.exiting.Exiting.{Exiting}
use Rattle.child_watch.specs.Ending.{status_of, word_of}
use Rattle.child_watch.specs.Exiting.{listed_child}

-- How the process ends is what is next in its program: an exit with this code, or an image fault. An end by a signal
-- isn't begun yet.
abbrev pub EndsAt : Ending → Upcoming → Image → Type 0
EndsAt (ending.Exit code) next image = exit_status next image ≡ Some code
EndsAt (ending.Signal signal) next image = ⊥
EndsAt ending.Fault next image = next ≡ ImageFault

-- The main thread is at what is next in its program, and may go on with it, as `IsAtNext` says; but its end may have
-- begun.
pub record IsAtEnd {A : Type 0} (script : Script) (now : Moment A) (w row : ℕ) (next : Upcoming) : Type 0 where
  pub own : IsOwnRow now.win32 w row
  pub noted : Record
  pub found : record_of now.posix (row + 1) ≡ Some noted
  pub call : noted.call ≡ NoCall
  pub blocked : noted.blocked ≡ false
  pub runs : noted.life ≡ posix.Running
  pub not_due : noted.due ≡ false
  pub next_is : next_of script noted ≡ next

-- Before the seal: the row is the process's own, and its program is at the instruction that ends it.
pub record IsToEnd {A : Type 0} (script : Script) (now : Moment A) (w row image : ℕ) (e : Ending) : Type 0 where
  pub names : image ≡ w
  pub next : Upcoming
  pub at : IsAtEnd script now w row next
  pub ends : EndsAt e next at.noted.image

-- whether a row of this kind was a process that has died
abbrev pub is_ended_kind : RowKind → Bool
is_ended_kind Free = false
is_ended_kind Held = false
is_ended_kind Running = false
is_ended_kind Stopped = false
is_ended_kind Zombie = true
is_ended_kind Gone = true

abbrev pub is_ended_main : Option MainWord → Bool
is_ended_main None = false
is_ended_main (Some m) = is_ended_kind m.kind

abbrev pub is_ended_word : ℕ → Bool
is_ended_word w = is_ended_main (main_of w)

-- the number of this row was given, and where there is a process of the number, this is its raw parent
pub record HasParent (s : PosixState) (parent row : ℕ) : Type 0 where
  pub from : 1 ≤ row
  pub used : IsUsed s.used (row + 1)
  pub parent_is : (r : Record) → record_of s (row + 1) ≡ Some r → r.parent ≡ parent

-- After the seal: the row's process is dead. Process w isn't the host, a row named it once, and no live row names it.
-- The children in the own cygheap are children of the row's process yet, where they are there. Where process w is the
-- first one, number 2, the status that is kept for the host is this one.
pub record HasDied {A : Type 0} (past : List (Seen A)) (now : Moment A) (w row : ℕ) (e : Ending) : Type 0 where
  pub from : 1 ≤ row
  pub ended : is_ended_word (main_at now.win32 row) ≡ true
  pub small : status_of e < 512
  pub first : w ≡ 2 → now.posix.first_status ≡ Some (status_of e)
  pub layer : w ≢ 1
  pub named : SomeSeen (NamedThen w) past
  pub unnamed : (r : ℕ) → 1 ≤ r → is_live_word (main_at now.win32 r) ≡ true → main_image (main_at now.win32 r) ≢ w
  pub listed : (place c : ℕ) → listed_child (memory_by now.win32 w).cyg place ≡ Some c
      → HasParent now.posix (row + 1) c

-- where the row is a process, its raw parent is no live one
pub record IsOrphan (s : Win32State) (row : ℕ) : Type 0 where
  pub from : 1 ≤ row
  pub parent : is_process_word (main_at s row) ≡ true → (g : GroupWord) → group_of (group_at s row) ≡ Some g
      → 2 ≤ g.parent → is_live_word (main_at s (row_of g.parent)) ≡ false

-- where the row is a process, this is the row of its raw parent
abbrev pub HasParentRow : Win32State → (row parent : ℕ) → Type 0
HasParentRow s row parent = is_process_word (main_at s row) ≡ true → (g : GroupWord)
    → group_of (group_at s row) ≡ Some g
    → row_of g.parent ≡ parent

-- A collecting: the row is an orphan, and the word that is to be changed changes so.
abbrev pub GatherClause : Win32State → Gather → Type 0
GatherClause s (gather.Looking row) = IsOrphan s row
GatherClause s (gather.Trying row old new) = IsOrphan s row × (changed_word Collect old ≡ Some new)
GatherClause s gather.Done = Unit {0}
GatherClause s gather.Rest = Unit {0}

-- After the seal, while it holds the roster mutex.
pub record HoldsDead {A : Type 0} (past : List (Seen A)) (now : Moment A) (w row : ℕ) (e : Ending) : Type 0 where
  pub died : HasDied past now w row e
  pub holds : HoldsRoster now.win32 w 0

-- Before the exit word is written it doesn't carry the image yet. From then on to the seal it does.
abbrev pub ExitStepClause : {A : Type 0} → Script → List (Seen A) → Moment A → (w row image : ℕ) → Ending → ExitStep
    → Type 0
ExitStepClause script past now w row image e (exit.Marking old) =
    IsToEnd script now w row image e × (CarriesImage now.win32 row → ⊥)
ExitStepClause script past now w row image e exit.Looking =
    IsToEnd script now w row image e × (exit_at now.win32 row ≡ word_of image e)
ExitStepClause script past now w row image e (exit.Sealing old new) =
    IsToEnd script now w row image e × (exit_at now.win32 row ≡ word_of image e)
    × (changed_word (Seal (status_of e)) old ≡ Some new)
ExitStepClause script past now w row image e (exit.Holding x) = HasDied past now w row e
ExitStepClause script past now w row image e (exit.Child place x) =
    HoldsDead past now w row e × GatherClause now.win32 x
ExitStepClause script past now w row image e exit.Grouping = HoldsDead past now w row e
ExitStepClause script past now w row image e (exit.Parent parent) =
    HoldsDead past now w row e × HasParentRow now.win32 row parent
ExitStepClause script past now w row image e (exit.Itself x) = HoldsDead past now w row e × GatherClause now.win32 x
ExitStepClause script past now w row image e (exit.Letting x) = HasDied past now w row e
ExitStepClause script past now w row image e exit.Leaving = HasDied past now w row e
ExitStepClause script past now w row image e exit.Rest = Unit {0}

abbrev pub ExitClause : {A : Type 0} → Script → List (Seen A) → Moment A → ℕ → Exiting → Type 0
ExitClause script past now w p = ExitStepClause script past now w p.row p.image p.ending p.step
