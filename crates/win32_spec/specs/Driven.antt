-- A machine whose threads are driven by parts: each thread's calls and events come from its own part, which is given
-- nothing but the bytes of its own process, the setup and the replies to its calls.
use Rattle.std.specs.Prelude.{◌≡◌, ◌≢◌, ◌⊎◌, ℕ, zero, suc, ◌+◌, ◌*◌, Bool, true, false, nat_eq, nat_lt, if◌then◌else◌}
use Rattle.std.specs.Prelude.{List, [], ◌∷◌, Option, Some, None, MatchBool, MatchOption}
use Rattle.w32_base.specs.declared.call.Call.{Call}
use Rattle.w32_base.specs.declared.call.Reply.{Reply}
use Rattle.w32_base.specs.declared.entry.Directive.{Directive}
use Rattle.w32_base.specs.declared.entry.Directive.TheVariants as directive
use Rattle.w32_base.specs.declared.entry.Outcome.{Outcome}
use Rattle.w32_base.specs.declared.entry.Outcome.TheVariants as outcome
use Rattle.w32_base.specs.declared.event.Event.{Event}
use Rattle.w32_base.specs.declared.own.Own.{Own}
use Rattle.w32_base.specs.declared.part.After.{After}
use Rattle.w32_base.specs.declared.setup.Setup.{Setup}
use Rattle.script_spec.specs.declared.script.Script.{Script}
use Rattle.win32_spec.specs.State.{Thread, Process, Win32State}
use Rattle.win32_spec.specs.Lookup.{process_of, is_live, process_in, thread_at, number_in, memory_by, with_posted}
use Rattle.win32_spec.specs.Lookup.{with_own}
use Rattle.win32_spec.specs.Ready.{is_ready}
use Rattle.win32_spec.specs.Opening.{IsOpening}
use Rattle.win32_spec.specs.Run.{PostedStep, EndStep, with_key}

-- the parts of all threads in the order of slots, three places a slot; there is none where there is no live thread
abbrev pub Parts : Type 0 → Type 0
Parts P = List (Option P)

abbrev pub part_in_place : {P : Type 0} → Parts P → ℕ → Option P
part_in_place [] n = None
part_in_place (part ∷ parts) zero = part
part_in_place (part ∷ parts) (suc n) = part_in_place parts n

-- the part of a thread
abbrev pub part_at : {P : Type 0} → Parts P → ℕ → ℕ → Option P
part_at parts slot t = if nat_lt t 3 then part_in_place parts (3 * slot + t) else None

-- a machine with its parts, and the event of its last turn, if any
pub record DrivenState (P : Type 0) : Type 0 where
  pub win32 : Win32State
  pub parts : Parts P
  pub last : Option Event

-- whether a slot has the same process as before, or none as before
abbrev pub is_same_number : Option ℕ → Option ℕ → Bool
is_same_number None None = true
is_same_number None (Some w) = false
is_same_number (Some v) None = false
is_same_number (Some v) (Some w) = nat_eq v w

-- What a type of parts means: the call that a part posts, what a turn may do (from the part, the own bytes, the setup
-- and the reply, to the part, the own bytes and the answer), whether it is as it is opened, and the thread that it
-- serves.
module _ {P : Type 0} (posted_of : P → Call) (goes : P → Own → Setup → Reply → P → Own → After → Type 0)
    (opening : P → Type 0) (slot_of thread_of : P → ℕ) where
  -- a part that was just opened for a thread
  pub record IsOpened (slot t : ℕ) (part : P) : Type 0 where
    pub opened : opening part
    pub its_slot : slot_of part ≡ slot
    pub its_thread : thread_of part ≡ t

  -- a part serves this thread, whose posted call is its own
  pub record Serves (slot t : ℕ) (x : Thread) (part : P) : Type 0 where
    pub posted : x.posted ≡ posted_of part
    pub its_slot : slot_of part ≡ slot
    pub its_thread : thread_of part ≡ t

  -- each live thread has a part that serves it, and there are no others
  abbrev pub AreServed : Win32State → Parts P → Type 0
  AreServed s parts = (slot t : ℕ) → MatchOption (thread_at s slot t) (part_at parts slot t ≡ None)
      (λ x. (part : P) × (part_at parts slot t ≡ Some part) × Serves slot t x part)

  -- a place has no part where there is no thread, and else one that was just opened
  abbrev pub OpensPart : Option Thread → ℕ → ℕ → Option P → Type 0
  OpensPart None slot t now = now ≡ None
  OpensPart (Some x) slot t now = (part : P) × (now ≡ Some part) × IsOpened slot t part

  -- The part at a place after a step in which it didn't go on: it stays while the slot has the same process. The
  -- parts of a process that has ended go, and those of a process that was made come as they are opened.
  abbrev pub PartFollows : Win32State → Win32State → Parts P → Parts P → ℕ → ℕ → Type 0
  PartFollows s new parts after slot t =
      MatchBool (is_same_number (number_in s slot) (number_in new slot)) (part_at after slot t ≡ part_at parts slot t)
      (OpensPart (thread_at new slot t) slot t (part_at after slot t))

  -- The part of thread t of process w goes on with a reply, over the bytes of its own process: the part, the own bytes
  -- and the event after it are what `goes` allows, and its next call is posted. Nothing else of the state changes.
  pub record PartGoes (script : Script) (mid : Win32State) (w t : ℕ) (part : P) (reply : Reply) (event : Option Event)
      (next : P) (new : Win32State) : Type 0 where
    pub own : Own
    pub answer : After
    pub went : goes part (memory_by mid w) script.setup reply next own answer
    pub told : event ≡ answer.event
    pub after : new ≡ with_posted (with_own mid w own) w t (posted_of next)

  -- A thread's posted call is carried out. Where its process lives on, its part goes on, and stands at its place after
  -- it. Where the call ended the process, there is no event. All other parts follow.
  pub record DrivenTurn (script : Script) (s : Win32State) (parts : Parts P) (slot t : ℕ)
      (called : Call) (reply : Reply) (event : Option Event) (new : Win32State) (after : Parts P) : Type 0 where
    pub process : Process
    pub thread : Thread
    pub mid : Win32State
    pub posted : PostedStep script s slot t process thread reply mid
    pub carried_out : called ≡ thread.posted
    pub part : P
    pub before : part_at parts slot t ≡ Some part
    pub goes_on : MatchBool (is_live (process_of mid.processes process.number))
        ((next : P) × PartGoes script mid process.number t part reply event next new
        × (part_at after slot t ≡ Some next))
        ((new ≡ mid) × (event ≡ None) × PartFollows s new parts after slot t)
    pub others : (other_slot other : ℕ) → (other_slot ≢ slot) ⊎ (other ≢ t)
        → PartFollows s new parts after other_slot other

  -- all parts follow
  abbrev pub AllFollow : Win32State → Win32State → Parts P → Parts P → Type 0
  AllFollow s new parts after = (slot t : ℕ) → PartFollows s new parts after slot t

  -- A turn of a thread that is ready, with the call, the outcome and the event of its entry.
  abbrev pub ReadyTurnOf : Script → DrivenState P → ℕ → ℕ → Option Call → Outcome → DrivenState P → Type 0
  ReadyTurnOf script d slot t called came new = (call : Call) × (reply : Reply)
      × (called ≡ Some call) × (came ≡ outcome.Step reply)
      × DrivenTurn script d.win32 d.parts slot t call reply new.last new.win32 new.parts

  -- Nothing of the machine's state changes, and no part.
  abbrev pub Rests : DrivenState P → Option Call → Outcome → DrivenState P → Type 0
  Rests d called came new = (called ≡ None) × (came ≡ outcome.Idle) × (new.win32 ≡ d.win32) × (new.last ≡ None)
      × (new.parts ≡ d.parts)

  -- what a directive does to a machine that is driven by parts, with the call and the outcome of its entry; the event
  -- of the entry is `new.last`
  abbrev pub DrivenBy : Script → DrivenState P → Directive → Option Call → Outcome → DrivenState P → Type 0
  DrivenBy script d (directive.Turn slot t) called came new =
      MatchBool (is_ready d.win32 slot t) (ReadyTurnOf script d slot t called came new) (Rests d called came new)
  DrivenBy script d (directive.End slot) called came new =
      (called ≡ None) × EndStep d.win32 (process_in d.win32.processes slot) came new.win32 × (new.last ≡ None)
      × AllFollow d.win32 new.win32 d.parts new.parts
  DrivenBy script d (directive.Key b) called came new =
      (called ≡ None) × (came ≡ outcome.Keyed) × (new.win32 ≡ with_key d.win32 b) × (new.last ≡ None)
      × (new.parts ≡ d.parts)

  -- the machine in which a run of this script begins: each thread has a part that was just opened
  pub record IsDrivenOpening (script : Script) (d : DrivenState P) : Type 0 where
    pub opens : IsOpening script d.win32
    pub opened : (slot t : ℕ) → OpensPart (thread_at d.win32 slot t) slot t (part_at d.parts slot t)
    pub last : d.last ≡ None
