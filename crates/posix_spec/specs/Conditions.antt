-- What an event of a process's own needs of it, and what it does to its notes.
-- An own event is one whose first number is the process's, but discard, notify, collect and die.
use Rattle.std.specs.Prelude.{ℕ, ℤ, Bool, true, false, ◌&&◌, not, if◌then◌else◌, List, [], Option, Some, None}
use Rattle.std.specs.Prelude.{slice_get}
use Rattle.w32_base.specs.declared.instr.Instr.{Instr}
use Rattle.w32_base.specs.declared.instr.Instr.TheVariants as instr
use Rattle.w32_base.specs.declared.setup.Program.{Program}
use Rattle.script_spec.specs.declared.script.Script.{Script}
use Rattle.vm_spec.specs.Image.{Image, program_of, with_result}
use Rattle.vm_spec.specs.Step.{Upcoming, LocalInstruction, CallInstruction, ImageFault, upcoming}
use Rattle.posix_spec.specs.State.{CallInProgress, NoCall, WaitCall, ForGroup, Record, PosixState, record_of}
use Rattle.posix_spec.specs.Pending.{is_running, has_deliverable}
use Rattle.posix_spec.specs.Records.{change_record}
use Rattle.posix_spec.specs.Numbers.{for_value}

abbrev pub code_at : Option Program → List Instr
code_at None = []
code_at (Some program) = program.code

-- the instructions of the program that an image runs
abbrev pub code_of : Script → Image → List Instr
code_of script image = code_at (slice_get script.setup.programs (program_of image))

-- what is next in a process
abbrev pub next_of : Script → Record → Upcoming
next_of script r = upcoming (code_of script r.image) r.image

abbrev pub call_of : Upcoming → Option Instr
call_of LocalInstruction = None
call_of (CallInstruction i) = Some i
call_of ImageFault = None

abbrev pub is_group_call : CallInProgress → Bool
is_group_call NoCall = false
is_group_call (WaitCall looked_at) = false
is_group_call (ForGroup call) = true

-- pause and suspend, which wait for a signal alone
abbrev pub waits_for_signal : Upcoming → Bool
waits_for_signal (CallInstruction instr.Pause) = true
waits_for_signal (CallInstruction (instr.Suspend v)) = true
waits_for_signal _ = false

-- Every own event needs its process to run. Every one but deliver and stop needs that no signal goes first.
abbrev pub may_go_on : Record → Bool
may_go_on r = is_running r.life && not r.due

-- In a call for a group there are no own events but its steps; blocked in pause or suspend, none but deliver and stop.
abbrev pub may_act : Script → Record → Bool
may_act script r =
    may_go_on r && (not (is_group_call r.call) && not (r.blocked && waits_for_signal (next_of script r)))

-- the call that a process's own events belong to, outside a call for a group and in one
abbrev pub own_call : Script → Record → Option Instr
own_call script r = if may_act script r then call_of (next_of script r) else None

abbrev pub group_step_call : Script → Record → Option Instr
group_step_call script r = if may_go_on r then call_of (next_of script r) else None

-- a step of a process by its record
abbrev pub for_process : PosixState → ℕ → (Record → Option PosixState) → Option PosixState
for_process s p step = for_value (record_of s p) step

-- a step of a process by its record and its call
abbrev pub for_call : Script → PosixState → ℕ → (Record → Instr → Option PosixState) → Option PosixState
for_call script s p step = for_process s p (λ r. for_value (own_call script r) (step r))

-- and of one that may be in a call for a group
abbrev pub for_group_step : Script → PosixState → ℕ → (Record → Instr → Option PosixState) → Option PosixState
for_group_step script s p step = for_process s p (λ r. for_value (group_step_call script r) (step r))

-- After each own event nothing counts as lost. Signals go first where one is deliverable, but not after look, member
-- and background, which stand inside a call.
abbrev pub inside_call : Record → Record
inside_call r = record r { lost = 0 }

-- after run, block, suspend and stop: the call goes on
abbrev pub call_goes_on : Record → Record
call_goes_on r = record r { lost = 0; due = has_deliverable r }

-- after every other own event: the call has ended
abbrev pub call_ended : Record → Record
call_ended r = record r { call = NoCall; blocked = false; lost = 0; due = has_deliverable r }

-- the process's call has ended with r0, and with r1 where it is given
abbrev pub with_results : ℤ → Option ℤ → Record → Record
with_results r0 r1 r = call_ended (record r { image = with_result r.image r0 r1 })

abbrev pub answered_both : PosixState → ℕ → ℤ → ℤ → PosixState
answered_both s p r0 r1 = change_record s p (with_results r0 (Some r1))

abbrev pub answered : PosixState → ℕ → ℤ → PosixState
answered s p r0 = change_record s p (with_results r0 None)
