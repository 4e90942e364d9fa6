-- Signals that a process sends (POSIX.1-2017, XSH kill).
use Rattle.std.specs.Prelude.{ℕ, ℤ, pos, negsuc, Bool, false, ◌&&◌, nat_eq, if◌then◌else◌, Option, Some, None, is_some}
use Rattle.w32_base.specs.declared.event.Answer.{Answer}
use Rattle.w32_base.specs.declared.event.Answer.TheVariants.{Zero, Error}
use Rattle.w32_base.specs.declared.event.Errno.TheVariants as errno
use Rattle.w32_base.specs.declared.instr.Instr.{Instr}
use Rattle.w32_base.specs.declared.instr.Instr.TheVariants as instr
use Rattle.vm_spec.specs.Image.{value_of}
use Rattle.posix_spec.specs.Numbers.{for_value, is_same_number, is_same_answer, answer_result}
use Rattle.posix_spec.specs.State.{GroupCall, ForGroup, Record, PosixState, record_of}
use Rattle.posix_spec.specs.Records.{change_record}
use Rattle.posix_spec.specs.Conditions.{inside_call, answered}
use Rattle.posix_spec.specs.Sending.{sent}
use Rattle.posix_spec.specs.GroupCalls.{killing_signal, kill_call, member_call, is_next_member, with_step, ends_with}

-- kill P Q S REPLY: of one process, a zombie too, or refused for any target

-- whether a target is one process, a group, or refused
pub data Target : Type 0 where
  One : (q : ℕ) → Target
  Group : Target
  Invalid : Target

abbrev pub target_of : ℤ → Target
target_of (pos n) = if nat_eq n 0 then Group else One n
target_of (negsuc n) = if nat_eq n 0 then Invalid else Group

-- what a kill with this signal, of this target, answers: none where it is for a group
abbrev pub kill_answer : PosixState → Option ℕ → Target → Option Answer
kill_answer s None target = Some (Error errno.EINVAL)
kill_answer s (Some signal) (One q) = if is_some (record_of s q) then Some Zero else Some (Error errno.ESRCH)
kill_answer s (Some signal) Group = None
kill_answer s (Some signal) Invalid = Some (Error errno.EINVAL)

abbrev pub is_answer : Option Answer → Answer → Bool
is_answer None answer = false
is_answer (Some a) answer = is_same_answer a answer

-- the state after the signal, where the target is one process
abbrev pub killed : PosixState → Option ℕ → Target → PosixState
killed s None target = s
killed s (Some signal) (One q) = sent s q signal
killed s (Some signal) Group = s
killed s (Some signal) Invalid = s

abbrev pub kill_step : PosixState → ℕ → ℤ → ℤ → Answer → Record → Instr → Option PosixState
kill_step s p q signal answer r (instr.Kill target sent_signal) =
    if is_same_number q (value_of r.image target) && (is_same_number signal (value_of r.image sent_signal)
    && is_answer (kill_answer s (killing_signal signal) (target_of q)) answer)
    then Some (answered (killed s (killing_signal signal) (target_of q)) p (answer_result answer))
    else None
kill_step s p q signal answer r _ = None

-- member P Q S: member Q has its step in the call for a group, which begins where none is in progress

abbrev pub in_call_for : GroupCall → Record → Record
in_call_for call r = inside_call (record r { call = ForGroup call })

abbrev pub member_by : PosixState → ℕ → ℕ → ℕ → GroupCall → Option PosixState
member_by s p q signal call =
    if is_next_member s call q signal
    then Some (change_record (sent s q signal) p (in_call_for (with_step call q)))
    else None

abbrev pub member_step : PosixState → ℕ → ℕ → ℕ → Record → Instr → Option PosixState
member_step s p q signal r i = for_value (member_call r i) (member_by s p q signal)

-- groupdone P G S REPLY: each member now has had its step

abbrev pub group_done_by : PosixState → ℕ → ℕ → ℕ → Answer → GroupCall → Option PosixState
group_done_by s p g signal answer call =
    if ends_with s call g signal answer then Some (answered s p (answer_result answer)) else None

abbrev pub group_done_step : PosixState → ℕ → ℕ → ℕ → Answer → Record → Instr → Option PosixState
group_done_step s p g signal answer r i = for_value (kill_call r i) (group_done_by s p g signal answer)
