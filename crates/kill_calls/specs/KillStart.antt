-- What a kill comes to where it is next in a program: it is refused at once, or one process is its target, or a group.
use Rattle.std.specs.Prelude.{ℕ, ◌+◌, ℤ, Bool, ◌&&◌, nat_eq, nat_le, if◌then◌else◌, Option, Some, None}
use Rattle.w32_base.specs.declared.event.Errno.TheVariants.{ESRCH, EINVAL}
use Rattle.posix_spec.specs.GroupCalls.{killing_signal}
use Rattle.posix_spec.specs.KillSteps.{Target, One, Group, Invalid, target_of}
use Rattle.layer_spec.specs.Words.{row_of}
use Rattle.kill_calls.specs.declared.start.KillStart.{KillStart}
use Rattle.kill_calls.specs.declared.start.KillStart.TheVariants as start
use Rattle.kill_calls.specs.Kill.{kill_begun}

-- whether a process with this number has one of so many rows
abbrev pub has_row : (rows q : ℕ) → Bool
has_row rows q = nat_le 2 q && nat_le q (rows + 1)

-- the signal that is posted: none for a check only
abbrev pub as_signal : ℕ → Option ℕ
as_signal n = if nat_eq n 0 then None else Some n

-- of process p, by the target and the signal
abbrev pub kill_by_target : (rows p : ℕ) → Option ℕ → Target → KillStart
kill_by_target rows p None target = start.Refused EINVAL
kill_by_target rows p (Some n) Invalid = start.Refused EINVAL
kill_by_target rows p (Some n) Group = start.Group
kill_by_target rows p (Some n) (One q) =
    if has_row rows q then start.One (kill_begun p (row_of q) (as_signal n)) else start.Refused ESRCH

abbrev pub kill_starts : (rows p : ℕ) → (target signal : ℤ) → KillStart
kill_starts rows p target signal = kill_by_target rows p (killing_signal signal) (target_of target)
