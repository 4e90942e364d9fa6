-- The steps of a run: what a directive does, and what a whole list of entries does.
use Rattle.std.specs.Prelude.{◌≡◌, ℕ, List, [], ◌∷◌, ◌++◌, Option, Some, None, MatchBool}
use Rattle.w32_base.specs.declared.call.Call.{Call}
use Rattle.w32_base.specs.declared.call.Reply.{Reply}
use Rattle.w32_base.specs.declared.entry.Directive.{Directive}
use Rattle.w32_base.specs.declared.entry.Directive.TheVariants as directive
use Rattle.w32_base.specs.declared.entry.Outcome.{Outcome}
use Rattle.w32_base.specs.declared.entry.Outcome.TheVariants as outcome
use Rattle.w32_base.specs.declared.entry.Entry.{Entry}
use Rattle.w32_base.specs.declared.own.Own.{Own}
use Rattle.w32_base.specs.Part.{KeepsLengths}
use Rattle.script_spec.specs.declared.script.Script.{Script}
use Rattle.win32_spec.specs.State.{Thread, Process, Win32State}
use Rattle.win32_spec.specs.Lookup.{process_of, is_live, process_in, thread_in, memory_by, with_posted, with_own}
use Rattle.win32_spec.specs.Ends.{with_end}
use Rattle.win32_spec.specs.Ready.{is_ready}
use Rattle.win32_spec.specs.Call.{CallStep}

-- the live thread t of the slot, and the process that it belongs to
pub record IsThread (s : Win32State) (slot t : ℕ) (p : Process) (x : Thread) : Type 0 where
  pub process : process_in s.processes slot ≡ Some p
  pub thread : thread_in p.threads t ≡ Some x

-- the call that thread t of the slot has posted is carried out
pub record PostedStep (script : Script) (s : Win32State) (slot t : ℕ) (p : Process) (x : Thread) (reply : Reply)
    (new : Win32State) : Type 0 where
  pub thread : IsThread s slot t p x
  pub step : CallStep script s p.number t x.posted reply new

-- some thread of this place carries out its posted call, with this reply
abbrev pub CarriesOut : Script → Win32State → ℕ → ℕ → Reply → Win32State → Type 0
CarriesOut script s slot t reply new = (p : Process) × (x : Thread) × PostedStep script s slot t p x reply new

-- the thread of this place has another posted call, and all else stays
abbrev pub Posts : Win32State → ℕ → ℕ → Call → Win32State → Type 0
Posts s slot t next new = (p : Process) → process_in s.processes slot ≡ Some p → new ≡ with_posted s p.number t next

-- after its call, a thread of process w changes bytes of its own process, and posts its next call
pub record Acts (s : Win32State) (w t : ℕ) (new : Win32State) : Type 0 where
  pub own : Own
  pub next : Call
  pub lengths : KeepsLengths (memory_by s w) own
  pub after : new ≡ with_posted (with_own s w own) w t next

-- a turn of a thread that is ready: its call, and what it does then if its process lives on
pub record ReadyTurn (script : Script) (s : Win32State) (slot t : ℕ) (called : Option Call) (came : Outcome)
    (new : Win32State) : Type 0 where
  pub process : Process
  pub thread : Thread
  pub reply : Reply
  pub mid : Win32State
  pub posted : PostedStep script s slot t process thread reply mid
  pub carried_out : called ≡ Some thread.posted
  pub answered : came ≡ outcome.Step reply
  pub goes_on : MatchBool (is_live (process_of mid.processes process.number)) (Acts mid process.number t new)
      (new ≡ mid)

-- the code of a process that is ended from outside
abbrev pub ended_from_outside : ℕ
ended_from_outside = 65536

-- the process of a slot is ended from outside
abbrev pub EndStep : Win32State → Option Process → Outcome → Win32State → Type 0
EndStep s None came new = (came ≡ outcome.Idle) × (new ≡ s)
EndStep s (Some p) came new = (came ≡ outcome.Ended p.number) × (new ≡ with_end s p.number ended_from_outside)

-- a key goes to the end of the console's queue
abbrev pub with_key : Win32State → ℕ → Win32State
with_key s b = record s { keys = s.keys ++ b ∷ [] }

-- what a directive does, with the call and the outcome that the journal keeps of it
abbrev pub StepBy : Script → Win32State → Directive → Option Call → Outcome → Win32State → Type 0
StepBy script s (directive.Turn slot t) called came new =
    MatchBool (is_ready s slot t) (ReadyTurn script s slot t called came new)
    ((called ≡ None) × (came ≡ outcome.Idle) × (new ≡ s))
StepBy script s (directive.End slot) called came new =
    (called ≡ None) × EndStep s (process_in s.processes slot) came new
StepBy script s (directive.Key b) called came new = (called ≡ None) × (came ≡ outcome.Keyed) × (new ≡ with_key s b)

-- one entry of a journal
abbrev pub DirectiveStep : Script → Win32State → Entry → Win32State → Type 0
DirectiveStep script s e new = StepBy script s e.directive e.call e.outcome new

-- the entries lead from one state to another
abbrev pub Win32Run : Script → Win32State → List Entry → Win32State → Type 0
Win32Run script s [] new = new ≡ s
Win32Run script s (e ∷ es) new = (mid : Win32State) × DirectiveStep script s e mid × Win32Run script mid es new
