-- The bytes that a read takes.
use Rattle.std.specs.Prelude.{ℕ, List, Option, Some, None}
use Rattle.tty_spec.specs.Discipline.{Taken}

-- the bytes, where a line is done
abbrev pub bytes_taken : Option Taken → Option (List ℕ)
bytes_taken None = None
bytes_taken (Some taken) = Some taken.bytes
