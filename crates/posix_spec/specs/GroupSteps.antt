-- Groups and sessions that a process sets (POSIX.1-2017, XSH setpgid and setsid).
use Rattle.std.specs.Prelude.{ℕ, ℤ, pos, Bool, false, ◌&&◌, ◌||◌, not, nat_eq, if◌then◌else◌, Option, Some, None}
use Rattle.w32_base.specs.declared.event.Errno.TheVariants as errno
use Rattle.w32_base.specs.declared.instr.Instr.{Instr}
use Rattle.w32_base.specs.declared.instr.Instr.TheVariants as instr
use Rattle.vm_spec.specs.Image.{value_of}
use Rattle.posix_spec.specs.Numbers.{natural_of}
use Rattle.posix_spec.specs.State.{Record, PosixState, record_of}
use Rattle.posix_spec.specs.Records.{change_record}
use Rattle.posix_spec.specs.Groups.{has_member, has_member_in}
use Rattle.posix_spec.specs.Checks.{Check, Refused, is_allowed, then_check, check_that}
use Rattle.posix_spec.specs.Conditions.{answered}

-- a number that stands for another one where it is 0
abbrev pub or_this : ℕ → ℕ → ℕ
or_this n this = if nat_eq n 0 then this else n

-- whether a process may be moved: one that leads its session may not, nor one of another session
abbrev pub is_movable : Record → ℕ → Record → Bool
is_movable r q target = not (nat_eq target.session q) && nat_eq target.session r.session

-- a group may be joined that is the process's own, or that the caller's session has
abbrev pub is_joinable : PosixState → Record → ℕ → ℕ → Bool
is_joinable s r q g = nat_eq g q || has_member_in s g r.session

-- setpgid by process p of process q, which is p or a child of it, to group g: the refusals in their order
abbrev pub move_check : PosixState → ℕ → Record → ℕ → ℕ → Option Record → Check
move_check s p r q g None = Refused errno.ESRCH
move_check s p r q g (Some target) =
    then_check (check_that (nat_eq q p || nat_eq target.parent p) errno.ESRCH)
    (then_check (check_that (nat_eq q p || not target.execd) errno.EACCES)
    (check_that (is_movable r q target && is_joinable s r q g) errno.EPERM))

abbrev pub process_check : PosixState → ℕ → Record → Option ℕ → ℕ → Check
process_check s p r None g = Refused errno.ESRCH
process_check s p r (Some q) g = move_check s p r (or_this q p) (or_this g (or_this q p)) (record_of s (or_this q p))

abbrev pub group_check : PosixState → ℕ → Record → Option ℕ → Option ℕ → Check
group_check s p r q None = Refused errno.EINVAL
group_check s p r q (Some g) = process_check s p r q g

abbrev pub setpgid_check : PosixState → ℕ → Record → ℤ → ℤ → Check
setpgid_check s p r q g = group_check s p r (natural_of q) (natural_of g)

-- setpgid P Q G: process Q is in group G. The instruction's 0 is the caller, and for the group the process's number.

abbrev pub is_move : ℕ → ℕ → ℕ → Option ℕ → Option ℕ → Bool
is_move p q g None group = false
is_move p q g (Some process) None = false
is_move p q g (Some process) (Some group) = nat_eq q (or_this process p) && nat_eq g (or_this group q)

abbrev pub in_group : ℕ → Record → Record
in_group g r = record r { group = g }

abbrev pub setpgid_step : PosixState → ℕ → ℕ → ℕ → Record → Instr → Option PosixState
setpgid_step s p q g r (instr.SetPgid process group) =
    if is_move p q g (natural_of (value_of r.image process)) (natural_of (value_of r.image group))
    && is_allowed (setpgid_check s p r (value_of r.image process) (value_of r.image group))
    then Some (answered (change_record s q (in_group g)) p (pos 0))
    else None
setpgid_step s p q g r _ = None

-- setsid P: P leads a new session and a new group, without a terminal. A process whose number is a group's may not.

abbrev pub setsid_check : PosixState → ℕ → Check
setsid_check s p = check_that (not (has_member s p)) errno.EPERM

abbrev pub leading_session : ℕ → Record → Record
leading_session p r = record r { group = p; session = p; terminal = false }

abbrev pub setsid_step : PosixState → ℕ → Record → Instr → Option PosixState
setsid_step s p r instr.SetSid =
    if is_allowed (setsid_check s p) then Some (answered (change_record s p (leading_session p)) p (pos p)) else None
setsid_step s p r _ = None
