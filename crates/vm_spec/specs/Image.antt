-- The image of a process, and the numbers that its data region keeps.
use Rattle.std.specs.Prelude.{◌≡◌, ℕ, ◌+◌, ◌*◌, ℤ, List, ◌++◌, length, take, drop, Option, Some, None}
use Rattle.std.specs.Int.{w32, from_le_bytes, to_le_bytes, cast_signed, cast_unsigned}
use Rattle.w32_base.specs.declared.instr.Operand.{Operand}
use Rattle.w32_base.specs.declared.instr.Operand.TheVariants.{Register, Number}
use Rattle.w32_base.specs.declared.own.Own.{Own}

-- the bytes of the data region, of the heap and of the stack, which grows upwards from 0
pub record Image : Type 0 where
  pub dat : List ℕ
  pub heap : List ℕ
  pub stack : List ℕ

-- the image in a process's memory
abbrev pub image_of : Own → Image
image_of own = record { dat = own.dat; heap = own.heap; stack = own.stack }

-- the memory with this image in it, and its other regions as they are
abbrev pub with_image : Own → Image → Own
with_image own image = record own { dat = image.dat; heap = image.heap; stack = image.stack }

-- the regions of both have the same numbers of bytes
pub record SameSizes (old new : Image) : Type 0 where
  pub dat : length new.dat ≡ length old.dat
  pub heap : length new.heap ≡ length old.heap
  pub stack : length new.stack ≡ length old.stack

-- the number in four bytes from a place on, the lowest byte first
unfoldable pub word_at : List ℕ → ℕ → ℕ
word_at bytes place = from_le_bytes w32 (take 4 (drop place bytes))

-- the bytes with this number in four of them from a place on; of a number past 32 bits the low 32 bits
unfoldable pub with_word : List ℕ → ℕ → ℕ → List ℕ
with_word bytes place number = take place bytes ++ to_le_bytes w32 number ++ drop (place + 4) bytes

-- what a register holds: r0 to r7 are the first eight signed numbers of the data region
abbrev pub register_of : Image → ℕ → ℤ
register_of image r = cast_signed w32 (word_at image.dat (4 * r))

abbrev pub with_register : Image → ℕ → ℤ → Image
with_register image r number = record image { dat = with_word image.dat (4 * r) (cast_unsigned w32 number) }

-- the place of the next instruction, which stands at 32
abbrev pub place_of : Image → ℕ
place_of image = word_at image.dat 32

abbrev pub at_place : Image → ℕ → Image
at_place image place = record image { dat = with_word image.dat 32 place }

-- at the instruction that follows the next one
abbrev pub moved_on : Image → Image
moved_on image = at_place image (place_of image + 1)

-- how many bytes of stack are in use, which stands at 36
abbrev pub in_use : Image → ℕ
in_use image = word_at image.dat 36

abbrev pub with_in_use : Image → ℕ → Image
with_in_use image count = record image { dat = with_word image.dat 36 count }

-- the program's number, which stands at 40
abbrev pub program_of : Image → ℕ
program_of image = word_at image.dat 40

-- the value of an operand: what the register holds, or the number itself
abbrev pub value_of : Image → Operand → ℤ
value_of image (Register r) = register_of image r
value_of image (Number n) = n

-- the image that a call leaves to its process: r0, and r1 where it is given, and the next instruction is the following
-- one
abbrev pub with_result : Image → ℤ → Option ℤ → Image
with_result image r0 None = with_register (moved_on image) 0 r0
with_result image r0 (Some r1) = with_register (with_register (moved_on image) 0 r0) 1 r1
