-- What is asked of each process.
use Rattle.std.specs.Prelude.{ℕ, Bool, ◌&&◌, not, nat_eq}
use Rattle.posix_spec.specs.State.{Record, PosixState, record_of}
use Rattle.posix_spec.specs.Groups.{has_no_parent_outside}

-- whether the shown parent of a member of the group is in its session, and not in the group
abbrev pub is_tied : PosixState → ℕ → ℕ → Record → Bool
is_tied s g q r = nat_eq r.group g && not (has_no_parent_outside g r.session (record_of s r.parent))
