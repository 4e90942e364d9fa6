-- The end of processes, and what is left of them (POSIX.1-2017, XSH exit and 2.4.3).
use Rattle.std.specs.Prelude.{ℕ, ◌+◌, ◌-◌, ℤ, Bool, true, false, ◌&&◌, ◌||◌, not, nat_eq, nat_lt, if◌then◌else◌, Option}
use Rattle.std.specs.Prelude.{Some, None}
use Rattle.w32_base.specs.declared.event.Death.{Death}
use Rattle.w32_base.specs.declared.event.Death.TheVariants as death
use Rattle.w32_base.specs.declared.instr.Instr.TheVariants as instr
use Rattle.script_spec.specs.declared.script.Script.{Script}
use Rattle.vm_spec.specs.Image.{Image, value_of}
use Rattle.vm_spec.specs.Step.{Upcoming, LocalInstruction, CallInstruction, ImageFault, low_byte}
use Rattle.vm_spec.specs.Frames.{has_frame_room}
use Rattle.posix_spec.specs.Numbers.{is_number, is_optional_number}
use Rattle.posix_spec.specs.Signals.{contains, kill_signal}
use Rattle.posix_spec.specs.State.{Life, Running, Stopped, Zombie, NoCall, Record, PosixState, record_of}
use Rattle.posix_spec.specs.Pending.{is_running, is_live, open_signals, ends, awaits_handler}
use Rattle.posix_spec.specs.Records.{without_record, change_record, is_live_at}
use Rattle.posix_spec.specs.Conditions.{next_of, may_go_on}
use Rattle.posix_spec.specs.SignalActs.{is_this}
use Rattle.posix_spec.specs.Sending.{owed_more}

-- die P V CAUSE: P is a zombie with status V. It is no own event.

-- `exit`: the low 8 bits of the instruction's value
abbrev pub exit_status : Upcoming → Image → Option ℕ
exit_status (CallInstruction (instr.Exit v)) image = Some (low_byte (value_of image v))
exit_status _ image = None

-- the status value of an end by a signal
abbrev pub signal_status : ℕ → ℕ
signal_status signal = 256 + signal

-- `signal`: one that is open ends the process by default, and the status is its value
abbrev pub is_signal_death : Record → ℕ → Bool
is_signal_death r v =
    nat_lt 256 v && (contains (open_signals r) (v - 256) && ends r (v - 256))

-- the status of an image fault, and that of an end from outside
abbrev pub fault_status : ℕ
fault_status = signal_status 11

abbrev pub outside_status : ℕ
outside_status = signal_status kill_signal

abbrev pub is_fault : Upcoming → Bool
is_fault LocalInstruction = false
is_fault (CallInstruction i) = false
is_fault ImageFault = true

-- `fault`: the next instruction is an image fault and no signal goes first, or a handler has no room for its frame
abbrev pub has_faulted : Script → Record → Bool
has_faulted script r =
    is_running r.life
    && ((not r.due && is_fault (next_of script r)) || (not (has_frame_room r.image) && awaits_handler r))

abbrev pub may_die : Script → Record → ℕ → Death → Bool
may_die script r v death.Exit = may_go_on r && is_this v (exit_status (next_of script r) r.image)
may_die script r v death.Signal = is_signal_death r v
may_die script r v death.Fault = nat_eq v fault_status && has_faulted script r
may_die script r v (death.World n) = nat_eq v outside_status && is_live r.life

-- A process that has died: it has no notes any more.
abbrev pub dead : ℕ → Record → Record
dead status r = record r {
  life = Zombie status;
  report = 0;
  call = NoCall;
  blocked = false;
  due = false;
  lost = 0;
  owed = 0;
}

-- the status of process 2's death is kept for the host
abbrev pub with_status : ℕ → ℕ → PosixState → PosixState
with_status p status s = if nat_eq p 2 then record s { first_status = Some status } else s

-- its live parent is owed a CHLD
abbrev pub died : PosixState → ℕ → ℕ → ℕ → PosixState
died s p status parent = change_record (with_status p status (change_record s p (dead status))) parent owed_more

abbrev pub die_step : Script → PosixState → ℕ → Death → ℕ → Record → Option PosixState
die_step script s p cause v r = if may_die script r v cause then Some (died s p v r.parent) else None

-- collect P: a zombie whose parent isn't live goes

abbrev pub is_zombie : Life → Bool
is_zombie Running = false
is_zombie (Stopped s) = false
is_zombie (Zombie v) = true

abbrev pub collect_step : PosixState → ℕ → Record → Option PosixState
collect_step s p r =
    if is_zombie r.life && not (is_live_at (record_of s r.parent)) then Some (without_record s p) else None

-- host 0 N: the host reads the status of process 2's death, or that it was ended from outside, once

abbrev pub ended_from_outside : ℕ
ended_from_outside = 65536

abbrev pub is_host_code : Option ℕ → ℤ → Bool
is_host_code status n = is_optional_number n status || is_number n ended_from_outside

abbrev pub host_step : PosixState → ℕ → ℤ → Option PosixState
host_step s p n =
    if nat_eq p 0 && (not s.host_came && is_host_code s.first_status n)
    then Some (record s { host_came = true })
    else None
