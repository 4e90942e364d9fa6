-- The events of a wait, and the blocking of calls (POSIX.1-2017, XSH waitpid, pause and read).
use Rattle.std.specs.Prelude.{ℕ, ℤ, pos, Bool, true, false, ◌&&◌, not, nat_eq, if◌then◌else◌, length, Option, Some}
use Rattle.std.specs.Prelude.{None}
use Rattle.std.specs.FinSet as set
use Rattle.w32_base.specs.declared.event.Errno.TheVariants as errno
use Rattle.w32_base.specs.declared.instr.Instr.{Instr}
use Rattle.w32_base.specs.declared.instr.Instr.TheVariants as instr
use Rattle.posix_spec.specs.Numbers.{for_value, is_optional_number, error_result}
use Rattle.posix_spec.specs.State.{WaitCall, Record, PosixState, record_of}
use Rattle.posix_spec.specs.Records.{without_record, change_record}
use Rattle.posix_spec.specs.Conditions.{inside_call, call_goes_on, answered, answered_both}
use Rattle.posix_spec.specs.Waits.{Wait, wait_of, has_nohang, is_match, matching, change_to_report, death_to_report}
use Rattle.posix_spec.specs.Waits.{has_report, looked_at, has_looked_at_all}
use Rattle.posix_spec.specs.Checks.{can_block_in_read}

-- look P C: child C matches, and the wait has nothing to report of it now

abbrev pub is_looked_at : Wait → ℕ → Option Record → Bool
is_looked_at wait c None = false
is_looked_at wait c (Some child) = is_match wait c child && not (has_report wait child)

abbrev pub with_look : ℕ → Record → Record
with_look c r = inside_call (record r { call = WaitCall (set.insert (looked_at r.call) c) })

abbrev pub look_by : PosixState → ℕ → ℕ → Wait → Option PosixState
look_by s p c wait =
    if is_looked_at wait c (record_of s c) then Some (change_record s p (with_look c)) else None

abbrev pub look_step : PosixState → ℕ → ℕ → Record → Instr → Option PosixState
look_step s p c r i = for_value (wait_of p r i) (look_by s p c)

-- block P: the call waits. It comes at most once in a call. A wait blocks without NOHANG, where each matching child was
-- looked at; a read where it would take bytes and no line is done; pause always.

abbrev pub can_wait : PosixState → Record → Option Wait → Bool
can_wait s r None = false
can_wait s r (Some wait) = not (has_nohang wait) && has_looked_at_all s r.call wait

abbrev pub can_block : PosixState → ℕ → Record → Instr → Bool
can_block s p r (instr.Wait selector flags) = can_wait s r (wait_of p r (instr.Wait selector flags))
can_block s p r (instr.Read address count) = can_block_in_read s r count
can_block s p r instr.Pause = true
can_block s p r _ = false

abbrev pub blocked : Record → Record
blocked r = call_goes_on (record r { blocked = true })

abbrev pub block_step : PosixState → ℕ → Record → Instr → Option PosixState
block_step s p r i =
    if not r.blocked && can_block s p r i then Some (change_record s p blocked) else None

-- nothing P: with NOHANG, where each matching child was looked at

abbrev pub find_nothing : PosixState → ℕ → Record → Wait → Option PosixState
find_nothing s p r wait =
    if has_nohang wait && has_looked_at_all s r.call wait then Some (answered_both s p (pos 0) (pos 0)) else None

abbrev pub nothing_step : PosixState → ℕ → Record → Instr → Option PosixState
nothing_step s p r i = for_value (wait_of p r i) (find_nothing s p r)

-- reap P C V: zombie child C, whose status is V, goes

abbrev pub is_reaped : Wait → ℕ → ℤ → Option Record → Bool
is_reaped wait c v None = false
is_reaped wait c v (Some child) = is_match wait c child && is_optional_number v (death_to_report child.life)

abbrev pub reap_by : PosixState → ℕ → ℕ → ℤ → Wait → Option PosixState
reap_by s p c v wait =
    if is_reaped wait c v (record_of s c) then Some (answered_both (without_record s c) p (pos c) v) else None

abbrev pub reap_step : PosixState → ℕ → ℤ → ℕ → Record → Instr → Option PosixState
reap_step s p v c r i = for_value (wait_of p r i) (reap_by s p c v)

-- report P C V: a stop or a continue of child C is reported, once

abbrev pub is_reported : Wait → ℕ → ℤ → Option Record → Bool
is_reported wait c v None = false
is_reported wait c v (Some child) = is_match wait c child && is_optional_number v (change_to_report wait child)

abbrev pub reported : Record → Record
reported child = record child { report = 0 }

abbrev pub report_by : PosixState → ℕ → ℕ → ℤ → Wait → Option PosixState
report_by s p c v wait =
    if is_reported wait c v (record_of s c)
    then Some (answered_both (change_record s c reported) p (pos c) v)
    else None

abbrev pub report_step : PosixState → ℕ → ℤ → ℕ → Record → Instr → Option PosixState
report_step s p v c r i = for_value (wait_of p r i) (report_by s p c v)

-- nochild P: no child matches

abbrev pub find_no_child : PosixState → ℕ → Wait → Option PosixState
find_no_child s p wait =
    if nat_eq (length (matching s wait)) 0 then Some (answered s p (error_result errno.ECHILD)) else None

abbrev pub no_child_step : PosixState → ℕ → Record → Instr → Option PosixState
no_child_step s p r i = for_value (wait_of p r i) (find_no_child s p)
