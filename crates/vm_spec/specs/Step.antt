-- What is next in a program, and what local instructions do to the image.
use Rattle.std.specs.Prelude.{◌≡◌, ◌≢◌, ℕ, zero, suc, ◌+◌, ◌-◌, ◌%◌, ◌<◌, ◌≤◌, ℤ, pos, negsuc, ◌+ℤ◌, Bool, true, false}
use Rattle.std.specs.Prelude.{nat_eq, if◌then◌else◌, List, slice_set, slice_index, slice_get, Option, Some, None}
use Rattle.std.specs.Int.{w32, int_wrap, cast_signed, cast_unsigned}
use Rattle.w32_base.specs.declared.instr.Instr.{Instr}
use Rattle.w32_base.specs.declared.instr.Instr.TheVariants as instr
use Rattle.vm_spec.specs.Image.{Image, word_at, with_word, register_of, with_register, place_of, at_place, moved_on}
use Rattle.vm_spec.specs.Image.{in_use, with_in_use, value_of}
use Rattle.vm_spec.specs.Faults.{faults}

-- the instructions that a process carries out by itself, on its image alone
abbrev pub is_local : Instr → Bool
is_local (instr.Set r v) = true
is_local (instr.Add r v) = true
is_local (instr.Load r address) = true
is_local (instr.Store address v) = true
is_local (instr.Push v) = true
is_local (instr.Pop r) = true
is_local (instr.Jump n) = true
is_local (instr.JumpZero v n) = true
is_local (instr.JumpNegative v n) = true
is_local _ = false

-- what is next: a local instruction, a call, or an image fault
pub data Upcoming : Type 0 where
  LocalInstruction : Upcoming
  CallInstruction : (call : Instr) → Upcoming
  ImageFault : Upcoming

abbrev pub upcoming_at : Option Instr → Upcoming
upcoming_at None = ImageFault
upcoming_at (Some i) = if is_local i then LocalInstruction else CallInstruction i

unfoldable pub upcoming : List Instr → Image → Upcoming
upcoming code image = if faults code image then ImageFault else upcoming_at (slice_get code (place_of image))

-- the byte of the heap that a value names, which is 0 or more
abbrev pub address_of : ℤ → ℕ
address_of (pos n) = n
address_of (negsuc _) = 0

-- the low 8 bits of a number's two's complement
abbrev pub low_byte : ℤ → ℕ
low_byte z = cast_unsigned w32 z % 256

abbrev pub is_zero : ℤ → Bool
is_zero (pos n) = nat_eq n 0
is_zero (negsuc _) = false

abbrev pub is_below_zero : ℤ → Bool
is_below_zero (pos _) = false
is_below_zero (negsuc _) = true

-- The image after a local instruction that doesn't fault. Its operands are read before anything is written.
abbrev pub after_local : Instr → Image → Image
after_local (instr.Set r v) image = with_register (moved_on image) r (value_of image v)
after_local (instr.Add r v) image =
    with_register (moved_on image) r (int_wrap w32 (register_of image r +ℤ value_of image v))
after_local (instr.Load r address) image =
    with_register (moved_on image) r (pos (slice_index image.heap (address_of (value_of image address))))
after_local (instr.Store address v) image =
    record (moved_on image) {
      heap =
          slice_set image.heap (address_of (value_of image address)) (low_byte (value_of image v));
    }
after_local (instr.Push v) image =
    with_in_use
    (record (moved_on image) { stack = with_word image.stack (in_use image) (cast_unsigned w32 (value_of image v)) })
    (in_use image + 4)
after_local (instr.Pop r) image =
    with_register
    (with_in_use (moved_on image) (in_use image - 4))
    r
    (cast_signed w32 (word_at image.stack (in_use image - 4)))
after_local (instr.Jump n) image = at_place image n
after_local (instr.JumpZero v n) image = if is_zero (value_of image v) then at_place image n else moved_on image
after_local (instr.JumpNegative v n) image =
    if is_below_zero (value_of image v) then at_place image n else moved_on image
after_local _ image = image

abbrev pub after_local_at : Option Instr → Image → Image
after_local_at None image = image
after_local_at (Some i) image = after_local i image

-- one step of a program, where what is next is a local instruction
unfoldable pub local_step : List Instr → Image → Image
local_step code image = after_local_at (slice_get code (place_of image)) image

-- n local instructions, one after another
unfoldable pub block_of : ℕ → List Instr → Image → Image
block_of zero code image = image
block_of (suc n) code image = local_step code (block_of n code image)

-- A block has n instructions: each of them is a local one and faults not, and it goes on as long as it may, up to 256.
pub record IsBlock (code : List Instr) (image : Image) (n : ℕ) : Type 0 where
  pub most : n ≤ 256
  pub local : (k : ℕ) → k < n → upcoming code (block_of k code image) ≡ LocalInstruction
  pub ended : n < 256 → upcoming code (block_of n code image) ≢ LocalInstruction
