-- The checks of every call before its event, and the refusals that have no event of their own.
use Rattle.std.specs.Prelude.{ℕ, if◌then◌else◌, Option, Some, None, is_some}
use Rattle.w32_base.specs.declared.event.Errno.{Errno}
use Rattle.w32_base.specs.declared.event.Errno.TheVariants as errno
use Rattle.w32_base.specs.declared.instr.Instr.{Instr}
use Rattle.w32_base.specs.declared.instr.Instr.TheVariants as instr
use Rattle.vm_spec.specs.Image.{value_of}
use Rattle.posix_spec.specs.Numbers.{error_result}
use Rattle.posix_spec.specs.State.{Record, PosixState}
use Rattle.posix_spec.specs.Checks.{Check, Allowed, is_refused_with, check_that, terminal_check, foreground_check}
use Rattle.posix_spec.specs.Checks.{flags_check, read_check, write_check}
use Rattle.posix_spec.specs.Conditions.{answered}
use Rattle.posix_spec.specs.Waits.{wait_flags}
use Rattle.posix_spec.specs.SignalCalls.{action_check}
use Rattle.posix_spec.specs.GroupSteps.{setpgid_check, setsid_check}

-- The check of a call. fork, exec and kill have events for their refusals, and so has a wait without a child; the other
-- calls have no refusals.
abbrev pub check_of : PosixState → ℕ → Record → Instr → Check
check_of s p r (instr.Wait selector flags) = check_that (is_some (wait_flags (value_of r.image flags))) errno.EINVAL
check_of s p r (instr.Action v a) = action_check (value_of r.image v) a
check_of s p r (instr.SetPgid q g) = setpgid_check s p r (value_of r.image q) (value_of r.image g)
check_of s p r instr.SetSid = setsid_check s p
check_of s p r (instr.TcSet v) = foreground_check s r (value_of r.image v)
check_of s p r instr.TcGet = terminal_check r
check_of s p r (instr.TtyFlags v) = flags_check s r (value_of r.image v)
check_of s p r (instr.Read address count) = read_check s r
check_of s p r (instr.Write address count) = write_check s r
check_of s p r _ = Allowed

-- refuse P ERROR: the call's check fails with this error
abbrev pub refuse_step : PosixState → ℕ → Errno → Record → Instr → Option PosixState
refuse_step s p e r i =
    if is_refused_with (check_of s p r i) e then Some (answered s p (error_result e)) else None
