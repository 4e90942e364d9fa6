-- The frame that a signal's handler finds on the stack, and that its return takes off again.
-- A frame has 40 bytes: r0 to r7 and the next place, as they stand in the first 36 bytes of the data region, and the
-- signal mask that is to come back.
use Rattle.std.specs.Prelude.{ℕ, ◌+◌, ◌-◌, Bool, nat_le, List, ◌++◌, length, take, drop}
use Rattle.std.specs.Int.{w32, to_le_bytes}
use Rattle.vm_spec.specs.Image.{Image, word_at, at_place, in_use, with_in_use}

-- whether 40 bytes of the stack are free
abbrev pub has_frame_room : Image → Bool
has_frame_room image = nat_le (in_use image + 40) (length image.stack)

-- the bytes of the frame of a data region, with the mask to come back
unfoldable pub frame_bytes : List ℕ → ℕ → List ℕ
frame_bytes dat mask = take 36 dat ++ to_le_bytes w32 mask

-- the stack with the frame in the 40 bytes that follow those in use
unfoldable pub stack_with_frame : Image → ℕ → List ℕ
stack_with_frame image mask =
    take (in_use image) image.stack ++ frame_bytes image.dat mask ++ drop (in_use image + 40) image.stack

-- The image with a frame pushed, where there is room for it: its handler is next, and 40 more bytes are in use.
abbrev pub with_frame : Image → ℕ → ℕ → Image
with_frame image mask handler =
    with_in_use (at_place (record image { stack = stack_with_frame image mask }) handler) (in_use image + 40)

-- whether at least 40 bytes of stack are in use
abbrev pub has_frame : Image → Bool
has_frame image = nat_le 40 (in_use image)

-- the mask in the frame that ends the bytes in use
abbrev pub frame_mask : Image → ℕ
frame_mask image = word_at image.stack (in_use image - 4)

-- the data region with the frame's registers and next place in it
unfoldable pub data_from_frame : Image → List ℕ
data_from_frame image = take 36 (drop (in_use image - 40) image.stack) ++ drop 36 image.dat

-- The image with that frame popped: its registers and its next place come back, and 40 fewer bytes are in use.
-- The bytes of the stack stay.
abbrev pub without_frame : Image → Image
without_frame image = with_in_use (record image { dat = data_from_frame image }) (in_use image - 40)
