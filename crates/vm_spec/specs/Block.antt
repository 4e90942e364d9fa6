-- How long the next block of local instructions is, and the image after it.
use Rattle.std.specs.Prelude.{ℕ, zero, suc, Bool, true, false, if◌then◌else◌, List}
use Rattle.w32_base.specs.declared.instr.Instr.{Instr}
use Rattle.vm_spec.specs.Image.{Image}
use Rattle.vm_spec.specs.Step.{Upcoming, LocalInstruction, CallInstruction, ImageFault, upcoming, local_step, block_of}

-- whether what is next is a local instruction
abbrev pub is_local_next : Upcoming → Bool
is_local_next LocalInstruction = true
is_local_next (CallInstruction call) = false
is_local_next ImageFault = false

-- how many local instructions are carried out before the next one is none, or faults; at most this many
unfoldable pub block_within : ℕ → List Instr → Image → ℕ
block_within zero code image = 0
block_within (suc most) code image =
    if is_local_next (upcoming code image) then suc (block_within most code (local_step code image)) else 0

-- how many instructions the next block has: as many as there are, up to 256
unfoldable pub block_length : List Instr → Image → ℕ
block_length code image = block_within 256 code image

-- the image after the next block
unfoldable pub block_image : List Instr → Image → Image
block_image code image = block_of (block_length code image) code image
