-- Whether a process is left over.
use Rattle.std.specs.Prelude.{Bool, ◌&&◌, not}
use Rattle.posix_spec.specs.DeathSteps.{is_zombie}
use Rattle.posix_spec.specs.Records.{is_live_at}
use Rattle.posix_spec.specs.State.{Record, PosixState, record_of}

-- whether a process is a zombie whose parent isn't live
abbrev pub is_left : PosixState → Record → Bool
is_left s r = is_zombie r.life && not (is_live_at (record_of s r.parent))
