-- The checks of a call before its event, and those of the terminal's calls (POSIX.1-2017, XBD 11.1.4, XSH tcsetpgrp).
use Rattle.std.specs.Prelude.{ℕ, ℤ, pos, negsuc, min, Bool, true, false, ◌&&◌, ◌||◌, not, nat_eq, if◌then◌else◌, Option}
use Rattle.std.specs.Prelude.{Some, None}
use Rattle.w32_base.specs.declared.event.Errno.{Errno}
use Rattle.w32_base.specs.declared.event.Errno.TheVariants as errno
use Rattle.w32_base.specs.declared.instr.Operand.{Operand}
use Rattle.vm_spec.specs.Image.{value_of}
use Rattle.tty_spec.specs.Discipline.{has_flag, tostop_flag, has_line}
use Rattle.posix_spec.specs.Numbers.{is_same_error, natural_of, natural_within}
use Rattle.posix_spec.specs.Signals.{contains, terminal_input_signal, terminal_output_signal}
use Rattle.posix_spec.specs.State.{Record, PosixState}
use Rattle.posix_spec.specs.Pending.{action_of, is_ignore}
use Rattle.posix_spec.specs.Groups.{has_member_in, is_orphaned}

-- A call may go on, or is refused, or, of a process in the background, first sends a signal to its group.
pub data Check : Type 0 where
  Allowed : Check
  Refused : (error : Errno) → Check
  SendsFirst : (signal : ℕ) → Check

-- the second check, where the first one passes
abbrev pub then_check : Check → Check → Check
then_check Allowed next = next
then_check (Refused e) next = Refused e
then_check (SendsFirst s) next = SendsFirst s

abbrev pub is_allowed : Check → Bool
is_allowed Allowed = true
is_allowed (Refused e) = false
is_allowed (SendsFirst s) = false

abbrev pub is_refused_with : Check → Errno → Bool
is_refused_with Allowed e = false
is_refused_with (Refused error) e = is_same_error error e
is_refused_with (SendsFirst s) e = false

-- the signal that the call first sends
abbrev pub sent_first : Check → Option ℕ
sent_first Allowed = None
sent_first (Refused e) = None
sent_first (SendsFirst s) = Some s

-- refused where the test fails
abbrev pub check_that : Bool → Errno → Check
check_that passed e = if passed then Allowed else Refused e

-- whether the process's group isn't the terminal's foreground group
abbrev pub is_background : PosixState → Record → Bool
is_background s r = not (nat_eq r.group s.terminal.foreground)

abbrev pub is_blocked_or_ignored : Record → ℕ → Bool
is_blocked_or_ignored r signal = contains r.mask signal || is_ignore (action_of r signal)

-- The rule for a process in the background. `kept` is what happens where the signal is blocked or ignored. Else the
-- call of an orphaned group is refused, and any other first sends the signal.
abbrev pub background_rule : PosixState → Record → ℕ → Check → Check
background_rule s r signal kept =
    if not (is_background s r) then Allowed
    else if is_blocked_or_ignored r signal then kept
    else if is_orphaned s r.group then Refused errno.EIO
    else SendsFirst signal

abbrev pub terminal_check : Record → Check
terminal_check r = check_that r.terminal errno.ENOTTY

abbrev pub read_check : PosixState → Record → Check
read_check s r = then_check (terminal_check r) (background_rule s r terminal_input_signal (Refused errno.EIO))

-- what changes the terminal goes on where the signal is blocked or ignored
abbrev pub change_rule : PosixState → Record → Check
change_rule s r = background_rule s r terminal_output_signal Allowed

-- a write in the background is held up only with TOSTOP
abbrev pub write_check : PosixState → Record → Check
write_check s r =
    then_check (terminal_check r) (if has_flag s.terminal tostop_flag then change_rule s r else Allowed)

-- the terminal's flags, from 0 to 15
abbrev pub new_flags : ℤ → Option ℕ
new_flags v = natural_within 15 v

abbrev pub flags_rule : PosixState → Record → Option ℕ → Check
flags_rule s r None = Refused errno.EINVAL
flags_rule s r (Some flags) = change_rule s r

abbrev pub flags_check : PosixState → Record → ℤ → Check
flags_check s r v = then_check (terminal_check r) (flags_rule s r (new_flags v))

abbrev pub foreground_rule : PosixState → Record → Option ℕ → Check
foreground_rule s r None = Refused errno.EINVAL
foreground_rule s r (Some g) = then_check (change_rule s r) (check_that (has_member_in s g r.session) errno.EPERM)

abbrev pub foreground_check : PosixState → Record → ℤ → Check
foreground_check s r v = then_check (terminal_check r) (foreground_rule s r (natural_of v))

-- how many bytes a call of this count moves: at most 64
abbrev pub count_of : ℤ → ℕ
count_of (pos n) = min n 64
count_of (negsuc n) = 0

-- a read waits where it would take bytes, in the foreground, and no line is done
abbrev pub can_block_in_read : PosixState → Record → Operand → Bool
can_block_in_read s r count =
    r.terminal && (not (is_background s r)
    && (not (nat_eq (count_of (value_of r.image count)) 0) && not (has_line s.terminal)))
