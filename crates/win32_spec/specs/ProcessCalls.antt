-- The calls on processes and their threads: `create`, `open`, `exitcode`, `terminate`, `exitself`, `resume`, `suspend`.
use Rattle.std.specs.Prelude.{◌⊎◌, ℕ, ◌+◌, ◌-◌, nat_lt, if◌then◌else◌, List, [], ◌∷◌, Option, Some, None, slice_get}
use Rattle.std.specs.Prelude.{MatchBool, MatchOption}
use Rattle.w32_base.specs.declared.call.Reply.{Reply}
use Rattle.w32_base.specs.declared.call.Reply.TheVariants as reply
use Rattle.w32_base.specs.declared.setup.Program.{Program}
use Rattle.script_spec.specs.declared.script.Script.{Script}
use Rattle.win32_spec.specs.Handles.{listed_handles}
use Rattle.win32_spec.specs.State.{ProcessObject, NumberedObject, Life, Alive, Ended, Process, Win32State}
use Rattle.win32_spec.specs.Lookup.{is_alive, process_of, is_live, thread_in, add_process, add_object, with_thread}
use Rattle.win32_spec.specs.Lookup.{IsFresh, IsLowestFreeSlot, AreAllOccupied}
use Rattle.win32_spec.specs.Ends.{is_object_of, with_end}
use Rattle.win32_spec.specs.Making.{new_process}
use Rattle.win32_spec.specs.Named.{handles_by, object_by, process_named, has_absent, is_full, Gives, IsHandled}
use Rattle.win32_spec.specs.Named.{GetsHandle, MakesObject}

-- the process while it is alive
abbrev pub live_of : Option Process → Option Process
live_of None = None
live_of (Some p) = if is_alive p.life then Some p else None

abbrev pub live_process : Win32State → ℕ → Option Process
live_process s v = live_of (process_of s.processes v)

-- the state with one more process, whose object has this number
abbrev pub with_made : Win32State → ℕ → Process → Win32State
with_made s o made = record s {
  processes = add_process made s.processes;
  objects = add_object o (ProcessObject made.number) s.objects;
  next = s.next + 1;
}

-- a process of the program stands in this slot, with the listed handles of the caller, which has a handle on it
pub record IsMade (s : Win32State) (w slot program_no : ℕ) (program : Program) (list : List ℕ) (r : Reply)
    (new : Win32State) : Type 0 where
  pub number : ℕ
  pub fresh : IsFresh s number
  pub handled : IsHandled s
      (with_made s number (new_process s.next slot program_no program 1 (listed_handles (handles_by s w) list)))
      w number (λ h. reply.Made h s.next) r new

-- the slot is the lowest free one
pub record MakesIn (script : Script) (s : Win32State) (w program_no : ℕ) (program : Program) (list : List ℕ)
    (r : Reply) (new : Win32State) : Type 0 where
  pub slot : ℕ
  pub lowest : IsLowestFreeSlot script.setup.limits.slots s.processes slot
  pub made : MatchBool (is_full (handles_by s w) 1) (Gives reply.TableFull s r new)
      (IsMade s w slot program_no program list r new)

-- `create P LIST`: a process of program P with the listed handles, its main thread suspended once. Refusals: badhandle,
-- badindex, noslot, tablefull.
abbrev pub CreateStep : Script → Win32State → ℕ → ℕ → List ℕ → Reply → Win32State → Type 0
CreateStep script s w program_no list r new =
    MatchBool (has_absent (handles_by s w) list) (Gives reply.BadHandle s r new)
    (MatchOption (slice_get script.setup.programs program_no) (Gives reply.BadIndex s r new) (λ program.
    (AreAllOccupied script.setup.limits.slots s.processes × Gives reply.NoSlot s r new)
    ⊎ MakesIn script s w program_no program list r new))

-- the suspend count after `resume`, which leaves 0, and after `suspend`, which leaves 100
abbrev pub resumed : ℕ → ℕ
resumed count = count - 1

abbrev pub suspended_more : ℕ → ℕ
suspended_more count = if nat_lt count 100 then count + 1 else count

-- the count of thread t of process v becomes another one
abbrev pub CountStep : Win32State → (ℕ → ℕ) → ℕ → ℕ → Reply → Win32State → Type 0
CountStep s f v t r new =
    MatchOption (live_process s v) (Gives reply.Gone s r new) (λ p.
    MatchOption (thread_in p.threads t) (Gives reply.BadIndex s r new) (λ x.
    Gives (reply.Count x.suspended) (with_thread s v t (λ y. record y { suspended = f y.suspended })) r new))

-- `resume H T` and `suspend H T`: the old count. Refusals: badhandle, gone, badindex.
abbrev pub ResumeStep : Win32State → ℕ → ℕ → ℕ → Reply → Win32State → Type 0
ResumeStep s w h t r new =
    MatchOption (process_named (object_by s w h)) (Gives reply.BadHandle s r new) (λ v. CountStep s resumed v t r new)

abbrev pub SuspendStep : Win32State → ℕ → ℕ → ℕ → Reply → Win32State → Type 0
SuspendStep s w h t r new =
    MatchOption (process_named (object_by s w h)) (Gives reply.BadHandle s r new)
    (λ v. CountStep s suspended_more v t r new)

-- the number of the object of process v
abbrev pub process_object : List NumberedObject → ℕ → Option ℕ
process_object [] v = None
process_object (x ∷ xs) v = if is_object_of x.object v then Some x.number else process_object xs v

-- `open W`: a handle on process W, by its object where it has one already. Refusals: unknown, tablefull.
abbrev pub OpenStep : Win32State → ℕ → ℕ → Reply → Win32State → Type 0
OpenStep s w v r new =
    MatchOption (process_object s.objects v)
    (MatchBool (is_live (process_of s.processes v)) (MakesObject s w (ProcessObject v) r new)
    (Gives reply.Unknown s r new))
    (λ o. GetsHandle s w o r new)

-- the code of a process, or that it is alive; one that somebody holds is there, alive or ended
abbrev pub life_reply : Life → Reply
life_reply Alive = reply.Active
life_reply (Ended code) = reply.Code code

abbrev pub code_reply : Option Process → Reply
code_reply None = reply.BadHandle
code_reply (Some p) = life_reply p.life

-- `exitcode H`. Refusals: badhandle.
abbrev pub ExitCodeStep : Win32State → ℕ → ℕ → Reply → Win32State → Type 0
ExitCodeStep s w h r new =
    MatchOption (process_named (object_by s w h)) (Gives reply.BadHandle s r new) (λ v.
    Gives (code_reply (process_of s.processes v)) s r new)

-- `terminate H N`: the process has ended with code N. Refusals: badhandle, gone.
abbrev pub TerminateStep : Win32State → ℕ → ℕ → ℕ → Reply → Win32State → Type 0
TerminateStep s w h code r new =
    MatchOption (process_named (object_by s w h)) (Gives reply.BadHandle s r new) (λ v.
    MatchBool (is_live (process_of s.processes v)) (Gives reply.Done (with_end s v code) r new)
    (Gives reply.Gone s r new))

-- `exitself N`: the caller's process has ended with code N.
abbrev pub ExitSelfStep : Win32State → ℕ → ℕ → Reply → Win32State → Type 0
ExitSelfStep s w code r new = Gives reply.Done (with_end s w code) r new
