-- Process groups and sessions (POSIX.1-2017, XBD 3.296, 3.264 and 3.343).
use Rattle.std.specs.Prelude.{ℕ, Bool, true, false, ◌&&◌, ◌||◌, not, nat_eq, if◌then◌else◌, Option, Some, None}
use Rattle.posix_spec.specs.State.{Record, PosixState, record_of}
use Rattle.posix_spec.specs.Pending.{is_live}
use Rattle.posix_spec.specs.Records.{is_live_at, some_record, every_record}

-- the parent that a process is shown: 1 where its parent is a zombie or has no record
abbrev pub shown_parent : PosixState → Record → ℕ
shown_parent s r = if is_live_at (record_of s r.parent) then r.parent else 1

abbrev pub is_member : ℕ → Option Record → Bool
is_member g None = false
is_member g (Some r) = nat_eq r.group g

abbrev pub has_member : PosixState → ℕ → Bool
has_member s g = some_record s (λ q r. nat_eq r.group g)

-- a group exists in a session where a member of it has that session
abbrev pub has_member_in : PosixState → ℕ → ℕ → Bool
has_member_in s g session = some_record s (λ q r. nat_eq r.group g && nat_eq r.session session)

-- whether a member's shown parent is in the group g or isn't in the session; 1 is in none
abbrev pub has_no_parent_outside : ℕ → ℕ → Option Record → Bool
has_no_parent_outside g session None = true
has_no_parent_outside g session (Some parent) =
    not (is_live parent.life) || (nat_eq parent.group g || not (nat_eq parent.session session))

-- An orphaned group: the shown parent of each member is in the group or isn't in the group's session, which is that of
-- the member.
abbrev pub is_orphaned : PosixState → ℕ → Bool
is_orphaned s g =
    every_record s (λ q r. not (nat_eq r.group g) || has_no_parent_outside g r.session (record_of s r.parent))
