-- Whose parent is told of a continue.
use Rattle.std.specs.Prelude.{ℕ, ◌&&◌, nat_eq, if◌then◌else◌, Option, Some, None}
use Rattle.posix_spec.specs.Pending.{is_stopped}
use Rattle.posix_spec.specs.Signals.{continue_signal}
use Rattle.posix_spec.specs.State.{Record}

-- the parent of a stopped process that this signal continues
abbrev pub told_of_continue : Option Record → ℕ → Option ℕ
told_of_continue None signal = None
told_of_continue (Some r) signal = if nat_eq signal continue_signal && is_stopped r.life then Some r.parent else None
