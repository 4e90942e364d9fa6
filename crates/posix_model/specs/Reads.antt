-- What a process reads from its terminal.
use Rattle.std.specs.Prelude.{ℕ, ◌+◌, ◌<◌, ◌≤◌, ℤ, Bool, ◌&&◌, if◌then◌else◌, List, length, Option, Some, None}
use Rattle.w32_base.specs.Names.{is_same}
use Rattle.w32_base.specs.declared.instr.Instr.{Instr}
use Rattle.w32_base.specs.declared.instr.Instr.TheVariants as instr
use Rattle.vm_spec.specs.Image.{value_of}
use Rattle.vm_spec.specs.Step.{address_of}
use Rattle.posix_spec.specs.Checks.{is_allowed, count_of, read_check}
use Rattle.posix_spec.specs.Numbers.{is_number}
use Rattle.posix_spec.specs.State.{Record, PosixState}

-- the place in the heap and the count of a read, where it may go on
abbrev pub reading_of : PosixState → Record → Instr → Option (ℕ × ℕ)
reading_of s r (instr.Read address count) =
    if is_allowed (read_check s r)
    then Some (address_of (value_of r.image address), count_of (value_of r.image count))
    else None
reading_of s r _ = None

-- whether the bytes that are taken are these, and so many
abbrev pub is_this_line : ℤ → List ℕ → List ℕ → Bool
is_this_line n bytes taken = is_number n (length taken) && is_same bytes taken

-- there is room for the bytes from a place of the heap on
pub record HasRoom (place : ℕ) (bytes : List ℕ) (r : Record) : Type 0 where
  pub room : 0 < length bytes → place + length bytes ≤ length r.image.heap
