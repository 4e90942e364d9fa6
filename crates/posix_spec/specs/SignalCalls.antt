-- The calls on a process's mask and actions (POSIX.1-2017, XSH sigprocmask, sigaction and sigsuspend).
use Rattle.std.specs.Prelude.{ℕ, ℤ, pos, Bool, true, false, ◌&&◌, not, nat_eq, if◌then◌else◌, Option, Some, None}
use Rattle.std.specs.Prelude.{bit_or}
use Rattle.std.specs.Int.{w32, cast_unsigned}
use Rattle.w32_base.specs.declared.event.Errno.TheVariants as errno
use Rattle.w32_base.specs.declared.event.NewAction.{NewAction}
use Rattle.w32_base.specs.declared.event.NewAction.TheVariants as new
use Rattle.w32_base.specs.declared.instr.Action.{Action}
use Rattle.w32_base.specs.declared.instr.Action.TheVariants as action
use Rattle.w32_base.specs.declared.instr.Instr.{Instr}
use Rattle.w32_base.specs.declared.instr.Instr.TheVariants as instr
use Rattle.w32_base.specs.declared.instr.MaskChange.{MaskChange}
use Rattle.w32_base.specs.declared.instr.MaskChange.TheVariants as change
use Rattle.vm_spec.specs.Image.{value_of}
use Rattle.vm_spec.specs.Frames.{without_frame, frame_mask}
use Rattle.posix_spec.specs.Numbers.{is_number, natural_of}
use Rattle.posix_spec.specs.Signals.{outside, clean_mask, is_signal, is_never_masked, is_ignored_signal}
use Rattle.posix_spec.specs.State.{Record, PosixState}
use Rattle.posix_spec.specs.Pending.{with_action, without_signal}
use Rattle.posix_spec.specs.Records.{change_record}
use Rattle.posix_spec.specs.Checks.{Check, Refused, is_allowed, check_that}
use Rattle.posix_spec.specs.Conditions.{call_goes_on, call_ended, answered}

-- mask P M: M is the new mask; the result is the old one

-- the signals that a value names as the bits of its two's complement
abbrev pub named_mask : ℤ → ℕ
named_mask v = clean_mask (cast_unsigned w32 v)

abbrev pub mask_after : MaskChange → ℕ → ℕ → ℕ
mask_after change.Block old named = bit_or old named
mask_after change.Unblock old named = outside old named
mask_after change.Set old named = named

abbrev pub with_mask : ℕ → Record → Record
with_mask mask r = record r { mask = mask }

abbrev pub mask_step : PosixState → ℕ → ℕ → Record → Instr → Option PosixState
mask_step s p m r (instr.Mask how v) =
    if nat_eq m (mask_after how r.mask (named_mask (value_of r.image v)))
    then Some (answered (change_record s p (with_mask m)) p (pos r.mask))
    else None
mask_step s p m r _ = None

-- action P S ACTION: the new action of S, which isn't pending any more where that ignores it

-- KILL and STOP keep their default
abbrev pub is_settable : ℕ → Action → Bool
is_settable s action.Default = is_signal s
is_settable s action.Ignore = is_signal s && not (is_never_masked s)
is_settable s (action.Handler target restart) = is_signal s && not (is_never_masked s)

abbrev pub action_rule : Option ℕ → Action → Check
action_rule None a = Refused errno.EINVAL
action_rule (Some s) a = check_that (is_settable s a) errno.EINVAL

abbrev pub action_check : ℤ → Action → Check
action_check v a = action_rule (natural_of v) a

abbrev pub is_same_flag : Bool → Bool → Bool
is_same_flag true b = b
is_same_flag false b = not b

-- whether the event's action is the instruction's
abbrev pub is_new_action : NewAction → Action → Bool
is_new_action new.Default action.Default = true
is_new_action new.Ignore action.Ignore = true
is_new_action (new.Handler n b) (action.Handler target restart) = is_number n target && is_same_flag b restart
is_new_action _ _ = false

-- whether the action ignores the signal, as CHLD, URG and WINCH are by default
abbrev pub takes_away : Action → ℕ → Bool
takes_away action.Default s = is_ignored_signal s
takes_away action.Ignore s = true
takes_away (action.Handler target restart) s = false

abbrev pub acting : ℕ → Action → Record → Record
acting s a r = if takes_away a s then without_signal (with_action r s a) s else with_action r s a

abbrev pub action_step : PosixState → ℕ → NewAction → ℕ → Record → Instr → Option PosixState
action_step s p n signal r (instr.Action v a) =
    if is_number (value_of r.image v) signal && (is_new_action n a && is_allowed (action_check (value_of r.image v) a))
    then Some (answered (change_record s p (acting signal a)) p (pos 0))
    else None
action_step s p n signal r _ = None

-- suspend P M: the mask is M until a handler begins, and P waits

abbrev pub suspended : ℕ → Record → Record
suspended mask r = call_goes_on (record r { mask = mask; saved = Some r.mask; blocked = true })

abbrev pub suspend_step : PosixState → ℕ → ℕ → Record → Instr → Option PosixState
suspend_step s p m r (instr.Suspend v) =
    if nat_eq m (named_mask (value_of r.image v)) then Some (change_record s p (suspended m)) else None
suspend_step s p m r _ = None

-- return P: the frame of a handler is popped; registers, next place and mask come back

abbrev pub returned : Record → Record
returned r = call_ended (record r { image = without_frame r.image; mask = clean_mask (frame_mask r.image) })

abbrev pub return_step : PosixState → ℕ → Record → Instr → Option PosixState
return_step s p r instr.Return = Some (change_record s p returned)
return_step s p r _ = None
