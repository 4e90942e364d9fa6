-- Calls for a group, which take one step a member.
use Rattle.std.specs.Prelude.{ℕ, ◌+◌, ℤ, pos, negsuc, Bool, true, false, ◌&&◌, not, nat_eq, if◌then◌else◌, Option, Some}
use Rattle.std.specs.Prelude.{None}
use Rattle.std.specs.List.{list_all}
use Rattle.std.specs.FinSet as set
use Rattle.w32_base.specs.declared.event.Answer.{Answer}
use Rattle.w32_base.specs.declared.event.Answer.TheVariants.{Zero, Error}
use Rattle.w32_base.specs.declared.event.Errno.TheVariants as errno
use Rattle.w32_base.specs.declared.instr.Instr.{Instr}
use Rattle.w32_base.specs.declared.instr.Instr.TheVariants as instr
use Rattle.vm_spec.specs.Image.{value_of}
use Rattle.posix_spec.specs.Numbers.{natural_within, is_same_answer}
use Rattle.posix_spec.specs.State.{GroupCall, CallInProgress, NoCall, WaitCall, ForGroup, Record, PosixState, record_of}
use Rattle.posix_spec.specs.Records.{members}
use Rattle.posix_spec.specs.Groups.{is_member, has_member}

-- a call for a group that begins
abbrev pub begun : ℕ → ℕ → GroupCall
begun g signal = record { group = g; signal = signal; members = set.empty }

-- the signal that a kill sends, or 0 for none
abbrev pub killing_signal : ℤ → Option ℕ
killing_signal signal = natural_within 31 signal

-- the group that a kill's target names: 0 that of the caller, below -1 the group of the absolute value
abbrev pub target_group : ℕ → ℤ → Option ℕ
target_group own (pos n) = if nat_eq n 0 then Some own else None
target_group own (negsuc n) = if nat_eq n 0 then None else Some (n + 1)

abbrev pub begun_for : Option ℕ → Option ℕ → Option GroupCall
begun_for None signal = None
begun_for (Some g) None = None
begun_for (Some g) (Some signal) = Some (begun g signal)

abbrev pub in_progress : CallInProgress → Option GroupCall
in_progress NoCall = None
in_progress (WaitCall looked_at) = None
in_progress (ForGroup call) = Some call

-- the call for a group that is in progress, or else the one that begins
abbrev pub progress_or : CallInProgress → Option GroupCall → Option GroupCall
progress_or NoCall begins = begins
progress_or (WaitCall looked_at) begins = begins
progress_or (ForGroup call) begins = Some call

-- The call for a group that a kill carries out. Group and signal are those at its first step.
abbrev pub kill_call : Record → Instr → Option GroupCall
kill_call r (instr.Kill target signal) =
    progress_or r.call
    (begun_for (target_group r.group (value_of r.image target)) (killing_signal (value_of r.image signal)))
kill_call r _ = None

-- whether the call is one that a process in the background may be held up in
abbrev pub is_terminal_change : Instr → Bool
is_terminal_change (instr.TcSet v) = true
is_terminal_change (instr.TtyFlags v) = true
is_terminal_change (instr.Read address count) = true
is_terminal_change (instr.Write address count) = true
is_terminal_change _ = false

-- the call for a group that the rule for the background began
abbrev pub background_call : Record → Instr → Option GroupCall
background_call r i = if is_terminal_change i then in_progress r.call else None

abbrev pub either_call : Option GroupCall → Option GroupCall → Option GroupCall
either_call None other = other
either_call (Some call) other = Some call

-- the call for a group that a member's step belongs to
abbrev pub member_call : Record → Instr → Option GroupCall
member_call r i = either_call (kill_call r i) (background_call r i)

-- whether process q, a member now, may have its step in the call: it had none
abbrev pub is_next_member : PosixState → GroupCall → ℕ → ℕ → Bool
is_next_member s call q signal =
    is_member call.group (record_of s q) && (not (set.contains call.members q) && nat_eq signal call.signal)

abbrev pub with_step : GroupCall → ℕ → GroupCall
with_step call q = record call { members = set.insert call.members q }

-- whether each member now has had its step
abbrev pub is_complete : PosixState → GroupCall → Bool
is_complete s call = list_all (set.contains call.members) (members s call.group)

-- ESRCH where there is no member now
abbrev pub group_answer : PosixState → GroupCall → Answer
group_answer s call = if has_member s call.group then Zero else Error errno.ESRCH

-- whether the call ends with this group, signal and answer
abbrev pub ends_with : PosixState → GroupCall → ℕ → ℕ → Answer → Bool
ends_with s call g signal answer =
    nat_eq g call.group && (nat_eq signal call.signal
    && (is_complete s call && is_same_answer answer (group_answer s call)))
