-- What holds where no thread is ready: nothing is left to do.
use Rattle.std.specs.Prelude.{◌≡◌, ◌≢◌, ◌⊎◌, ℕ, Bool, true, false, List, [], ◌∷◌, Some, None, IsSome}
use Rattle.std.specs.List.{list_any}
use Rattle.script_spec.specs.declared.script.Script.{Script}
use Rattle.win32_spec.specs.Ready.{IsQuiet}
use Rattle.posix_spec.specs.Signals.{contains, kill_signal}
use Rattle.posix_spec.specs.State.{Running, Record, PosixState, record_of}
use Rattle.posix_spec.specs.Pending.{is_live, is_stopped}
use Rattle.posix_spec.specs.DeathSteps.{is_zombie}
use Rattle.posix_spec.specs.Records.{is_live_at}
use Rattle.posix_spec.specs.Waiting.{PosixSeen, IsWaiting}
use Rattle.layer_spec.specs.Moment.{Moment, Seen}
use Rattle.layer_spec.specs.Turns.{image_named, is_live_process, has_ended}
use Rattle.layer_spec.specs.Discipline.{is_end}

-- what was seen of the POSIX machine
abbrev pub posix_seen : {A : Type 0} → List (Seen A) → List PosixSeen
posix_seen [] = []
posix_seen (x ∷ past) = record { before = x.before.posix; event = x.entry.event } ∷ posix_seen past

-- no entry is an `end`
abbrev pub HasNoEnd : {A : Type 0} → List (Seen A) → Type 0
HasNoEnd past = list_any (λ x. is_end x.entry.directive) past ≡ false

-- each `end` stands where no thread was ready
abbrev pub HasQuietEnds : {A : Type 0} → List (Seen A) → Type 0
HasQuietEnds [] = Unit {0}
HasQuietEnds (x ∷ past) = (is_end x.entry.directive ≡ true → IsQuiet x.before.win32) × HasQuietEnds past

-- A process is a zombie with a live parent, is stopped and has no KILL pending, or waits; no CHLD is owed to it.
pub record IsAtRest {A : Type 0} (script : Script) (past : List (Seen A)) (now : Moment A) (p : ℕ) (r : Record)
    : Type 0 where
  pub zombie : is_zombie r.life ≡ true → is_live_at (record_of now.posix r.parent) ≡ true
  pub stopped : is_stopped r.life ≡ true → contains r.pending kill_signal ≡ false
  pub running : r.life ≡ Running → IsWaiting script now.posix p (posix_seen past)
  pub owed : r.owed ≡ 0

-- a live process of this number is the image of a running or stopped process
pub record IsImageOf {A : Type 0} (now : Moment A) (w p : ℕ) : Type 0 where
  pub owner : Record
  pub known : record_of now.posix p ≡ Some owner
  pub lives : is_live owner.life ≡ true
  pub named : image_named now.win32 p ≡ w

-- whether process 2 runs or is stopped
abbrev pub is_first_alive : PosixState → Bool
is_first_alive s = is_live_at (record_of s 2)

-- Nothing is left to do: every process is at rest, each key was taken and its signal sent, each live layer process is
-- an image, but for the first one while process 2 lives, and the host has read the status of process 2 where that has
-- died.
pub record LeavesNothing {A : Type 0} (script : Script) (past : List (Seen A)) (now : Moment A) : Type 0 where
  pub processes : (p : ℕ) (r : Record) → record_of now.posix p ≡ Some r → IsAtRest script past now p r
  pub keys : now.win32.keys ≡ []
  pub console : now.posix.console ≡ None
  pub images : (w : ℕ) → w ≢ 1 → is_live_process now.win32 w ≡ true
      → ((p : ℕ) × IsImageOf now w p) ⊎ ((w ≡ 2) × (is_first_alive now.posix ≡ true))
  pub host : IsSome now.posix.first_status → now.posix.host_came ≡ true

-- Where no thread is ready and no entry was an `end`, nothing is left to do.
pub record RestsWhereQuiet {A : Type 0} (script : Script) (past : List (Seen A)) (now : Moment A) : Type 0 where
  pub rests : IsQuiet now.win32 → HasNoEnd past → LeavesNothing script past now

-- Where no thread is ready and each `end` stood where none was, a running process whose image is alive waits, and a
-- child of a process whose image is alive is a zombie where its own image has ended.
pub record RestsAfterQuietEnds {A : Type 0} (script : Script) (past : List (Seen A)) (now : Moment A) : Type 0 where
  pub waits : IsQuiet now.win32 → HasQuietEnds past → (p : ℕ) (r : Record) → record_of now.posix p ≡ Some r
      → r.life ≡ Running → is_live_process now.win32 (image_named now.win32 p) ≡ true
      → IsWaiting script now.posix p (posix_seen past)
  pub sealed : IsQuiet now.win32 → HasQuietEnds past → (p c : ℕ) (parent child : Record)
      → record_of now.posix p ≡ Some parent → record_of now.posix c ≡ Some child → child.parent ≡ p
      → is_live_process now.win32 (image_named now.win32 p) ≡ true
      → has_ended now.win32 (image_named now.win32 c) ≡ true → is_zombie child.life ≡ true
