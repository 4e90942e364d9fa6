-- Changes that leave handles, lives and kinds alone: of threads, of bytes, of placed modules and of what objects hold.
use Rattle.std.specs.Prelude.{true, ◌≡◌, ◌⊎◌, ℕ, ◌≤◌, false, List, length, Option, Some, None}
use Rattle.w32_base.specs.Part.{KeepsLengths}
use Rattle.w32_base.specs.declared.call.Call.{Call}
use Rattle.script_spec.specs.declared.script.Script.{Script}
use Rattle.win32_spec.specs.Objects.{Free, Owned, is_owner, is_free_for}
use Rattle.win32_spec.specs.State.{Object, Section, Event, Mutex, Pipe, ProcessObject, TerminalObject, NumberedObject}
use Rattle.win32_spec.specs.State.{Thread, Process, Win32State}
use Rattle.win32_spec.specs.Lookup.{is_alive, process_of, thread_in, object_of}
use Rattle.win32_spec.specs.WellFormed.{AreRisingProcesses, AreRisingObjects, AreThreads, AreModules, has_ends}
use Rattle.win32_spec.specs.WellFormed.{only_number}

-- a relation of what is found before and after: both are absent, or both are there and related
abbrev pub Both : {X : Type 0} → (X → X → Type 0) → Option X → Option X → Type 0
Both R None None = Unit {0}
Both R None (Some y) = ⊥
Both R (Some x) None = ⊥
Both R (Some x) (Some y) = R x y

-- the posted call of a thread
abbrev pub posted_by : Option Thread → Option Call
posted_by None = None
posted_by (Some x) = Some x.posted

-- each thread has the same posted call
abbrev pub PostTheSame : List Thread → List Thread → Type 0
PostTheSame xs ys = (t : ℕ) → posted_by (thread_in ys t) ≡ posted_by (thread_in xs t)

-- A process after such a change. Its bytes are as before unless `Written` holds, its modules unless `Acting` does,
-- and its posted calls unless `Posting` does too.
pub record ProcessBecomes (script : Script) (Written Acting Posting : Type 0) (p q : Process) : Type 0 where
  pub ended : is_alive p.life ≡ false → q ≡ p
  pub number : q.number ≡ p.number
  pub slot : q.slot ≡ p.slot
  pub program : q.program ≡ p.program
  pub life : q.life ≡ p.life
  pub handles : q.handles ≡ p.handles
  pub threads : (ts : List ℕ) → AreThreads ts p.threads → AreThreads ts q.threads
  pub lengths : KeepsLengths p.own q.own
  pub bytes : (Written → ⊥) → q.own ≡ p.own
  pub modules : (Acting → ⊥) → q.placed ≡ p.placed
  pub posted : (Acting × Posting → ⊥) → PostTheSame p.threads q.threads
  pub unplaced : p.program ≡ None → q.placed ≡ p.placed
  pub placed : AreModules script.setup.modules p.placed → AreModules script.setup.modules q.placed

-- What an object holds after a change by thread t of process w. A section's words are as before unless `Exchanged`
-- holds. A mutex is freed by its owner alone, and taken only where it is free for the thread.
abbrev pub HoldsNext : Type 0 → ℕ → ℕ → Object → Object → Type 0
HoldsNext Exchanged w t (Section words) (Section new) = (length new ≡ length words) × ((Exchanged → ⊥) → new ≡ words)
HoldsNext Exchanged w t (Event e) (Event new) = Unit {0}
HoldsNext Exchanged w t (Mutex owner) (Mutex new) =
    (new ≡ owner) ⊎ ((is_owner owner w t ≡ true) × (new ≡ Free)) ⊎ ((is_free_for owner w t ≡ true) × (new ≡ Owned w t))
HoldsNext Exchanged w t (Pipe bytes) (Pipe new) = length bytes ≤ 64 → length new ≤ 64
HoldsNext Exchanged w t (ProcessObject v) (ProcessObject new) = new ≡ v
HoldsNext Exchanged w t (TerminalObject terminal) (TerminalObject new) = Unit {0}
HoldsNext Exchanged w t _ _ = ⊥

-- an object after such a change: it is of the same kind
pub record ObjectBecomes (Exchanged : Type 0) (w t : ℕ) (x y : Object) : Type 0 where
  pub only : only_number y ≡ only_number x
  pub ends : has_ends y ≡ has_ends x
  pub holds : HoldsNext Exchanged w t x y

pub record AreProcessesNext (script : Script) (Written : ℕ → Type 0) (Posting : Type 0) (w : ℕ)
    (ps qs : List Process) : Type 0 where
  pub rising : (low next : ℕ) → AreRisingProcesses low next ps → AreRisingProcesses low next qs
  pub process : (v : ℕ) → Both (ProcessBecomes script (Written v) (v ≡ w) Posting) (process_of ps v) (process_of qs v)

pub record AreObjectsNext (Exchanged : Type 0) (w t : ℕ) (xs ys : List NumberedObject) : Type 0 where
  pub rising : (low : ℕ) → AreRisingObjects low xs → AreRisingObjects low ys
  pub object : (o : ℕ) → Both (ObjectBecomes Exchanged w t) (object_of xs o) (object_of ys o)

-- Such a change of a state, by thread t of process w: only the bytes of processes that are `Written` change, and the
-- words of a section only where `Exchanged` holds.
pub record IsTame (script : Script) (Written : ℕ → Type 0) (Exchanged Posting : Type 0) (w t : ℕ)
    (s new : Win32State) : Type 0 where
  pub next : new.next ≡ s.next
  pub processes : AreProcessesNext script Written Posting w s.processes new.processes
  pub objects : AreObjectsNext Exchanged w t s.objects new.objects
