-- When the next instruction isn't carried out, since it is an image fault.
use Rattle.std.specs.Prelude.{ℕ, ◌+◌, min, ℤ, pos, negsuc, Bool, true, false, ◌||◌, ◌&&◌, not, nat_lt, List, length}
use Rattle.std.specs.Prelude.{Option, Some, None, slice_get}
use Rattle.w32_base.specs.declared.instr.Instr.{Instr}
use Rattle.w32_base.specs.declared.instr.Instr.TheVariants as instr
use Rattle.vm_spec.specs.Image.{Image, in_use, place_of, value_of}

-- an address of no byte in a region of this size
abbrev pub is_outside : ℕ → ℤ → Bool
is_outside size (pos address) = not (nat_lt address size)
is_outside size (negsuc _) = true

-- Whether a range has a byte outside a region of this size, or its count is below 0. A count above 64 counts as 64.
-- A range of count 0 has no byte, whatever its address is.
abbrev pub is_range_outside : ℕ → ℤ → ℤ → Bool
is_range_outside size (pos address) (pos count) = nat_lt 0 count && nat_lt size (address + min count 64)
is_range_outside size (negsuc _) (pos count) = nat_lt 0 count
is_range_outside size _ (negsuc _) = true

-- whether this instruction faults in an image that has no more bytes of stack in use than there are
abbrev pub instr_faults : Instr → Image → Bool
instr_faults (instr.Load r address) image = is_outside (length image.heap) (value_of image address)
instr_faults (instr.Store address v) image = is_outside (length image.heap) (value_of image address)
instr_faults (instr.Push v) image = nat_lt (length image.stack) (in_use image + 4)
instr_faults (instr.Pop r) image = nat_lt (in_use image) 4
instr_faults instr.Return image = nat_lt (in_use image) 40
instr_faults (instr.Read address count) image =
    is_range_outside (length image.heap) (value_of image address) (value_of image count)
instr_faults (instr.Write address count) image =
    is_range_outside (length image.heap) (value_of image address) (value_of image count)
instr_faults _ image = false

-- the same, where there may be no instruction
abbrev pub faults_at : Option Instr → Image → Bool
faults_at None image = true
faults_at (Some i) image = instr_faults i image

-- whether the next instruction of the program faults: more bytes of stack are in use than the stack has, or the next
-- place is at the program's end or past it, or the instruction there faults
abbrev pub faults : List Instr → Image → Bool
faults code image = nat_lt (length image.stack) (in_use image) || faults_at (slice_get code (place_of image)) image
