-- What a pushed frame holds, what a popped one brings back, and that the regions keep their sizes.
-- The data region has 64 bytes throughout.
use Rattle.std.specs.Prelude.{◌≡◌, ℕ, ◌+◌, ◌-◌, ◌*◌, ◌^◌, ◌≤◌, ◌<◌, true, List, ◌++◌, length, take, drop}
use Rattle.std.specs.Int.{w32, to_le_bytes, from_le_bytes, cast_signed}
use Rattle.std.proofs.Common.{refl, sym, ◌∙◌, ap, arith, length-append, length-take, length-drop}
use Rattle.std.proofs.lemmas.List.{length-take-le, drop_at, append_assoc, drop-drop}
use Rattle.std.proofs.lemmas.Nat.{from_le_bytes-to_le_bytes_4}
use Rattle.std.proofs.lemmas.Bool.{leb-true, le-leb}
use Rattle.vm_spec.specs.Image.{Image, SameSizes, word_at, with_word, at_place, in_use, place_of, register_of}
use Rattle.vm_spec.specs.Frames.{has_frame_room, frame_bytes, stack_with_frame, with_frame, has_frame, frame_mask}
use Rattle.vm_spec.specs.Frames.{data_from_frame, without_frame}
use Rattle.vm_spec.specs.WordLaws.{length-with_word, word_at-with_word, word_at-with_word_below}
use Rattle.vm_spec.specs.SizeLaws.{SameSizes-trans, SameSizes-word}

pub length-frame_bytes : (dat : List ℕ) (mask : ℕ) → length dat ≡ 64 → length (frame_bytes dat mask) ≡ 40
unfolding frame_bytes
length-frame_bytes dat mask h =
    omega (arith, length-append (take 36 dat) (to_le_bytes w32 mask), length-take-le 36 dat (omega arith))

room : (image : Image) → has_frame_room image ≡ true → in_use image + 40 ≤ length image.stack
room image h = leb-true (in_use image + 40) (length image.stack) h

pub length-stack_with_frame : (image : Image) (mask : ℕ) → length image.dat ≡ 64 → has_frame_room image ≡ true →
    length (stack_with_frame image mask) ≡ length image.stack
unfolding stack_with_frame
length-stack_with_frame image mask h fits =
    let r = room image fits in
    let bytes = length-frame_bytes image.dat mask h in
    simp (length-append, length-take, length-drop) (omega arith)

pub SameSizes-with_frame : (image : Image) (mask handler : ℕ) → length image.dat ≡ 64 → has_frame_room image ≡ true →
    SameSizes image (with_frame image mask handler)
SameSizes-with_frame image mask handler h fits =
    let pushed : Image = record image { stack = stack_with_frame image mask } in
    let same : SameSizes image pushed =
    record { dat = refl; heap = refl; stack = length-stack_with_frame image mask h fits } in
    let placed : SameSizes pushed (at_place pushed handler) = SameSizes-word pushed 32 handler h (omega arith) in
    SameSizes-trans same
    (SameSizes-trans placed
    (SameSizes-word (at_place pushed handler) 36 (in_use image + 40) (placed.dat ∙ h) (omega arith)))

pub length-data_from_frame : (image : Image) → length image.dat ≡ 64 → in_use image ≤ length image.stack →
    has_frame image ≡ true →
    length (data_from_frame image) ≡ 64
unfolding data_from_frame
length-data_from_frame image h within framed =
    let used : 40 ≤ in_use image = leb-true 40 (in_use image) framed in
    simp (length-append, length-take, length-drop) (omega arith)

pub SameSizes-without_frame : (image : Image) → length image.dat ≡ 64 → in_use image ≤ length image.stack →
    has_frame image ≡ true →
    SameSizes image (without_frame image)
SameSizes-without_frame image h within framed =
    let popped : Image = record image { dat = data_from_frame image } in
    let long : length popped.dat ≡ 64 = length-data_from_frame image h within framed in
    let same : SameSizes image popped = record { dat = long ∙ sym h; heap = refl; stack = refl } in
    SameSizes-trans same (SameSizes-word popped 36 (in_use image - 40) long (omega arith))

-- after a push 40 more bytes are in use, and the handler is next
pub in_use-with_frame : (image : Image) (mask handler : ℕ) → length image.dat ≡ 64 → in_use image + 40 < 2 ^ 32 →
    in_use (with_frame image mask handler) ≡ in_use image + 40
in_use-with_frame image mask handler h fits =
    word_at-with_word (with_word image.dat 32 handler) 36 (in_use image + 40)
    (omega (arith, length-with_word image.dat 32 handler (omega arith))) fits

pub place_of-with_frame : (image : Image) (mask handler : ℕ) → length image.dat ≡ 64 → handler < 2 ^ 32 →
    place_of (with_frame image mask handler) ≡ handler
place_of-with_frame image mask handler h fits =
    word_at-with_word_below (with_word image.dat 32 handler) 36 (in_use image + 40) 32
    (omega (arith, length-with_word image.dat 32 handler (omega arith))) (omega arith)
    ∙ word_at-with_word image.dat 32 handler (omega arith) fits

-- the registers stay as they are
pub register_of-with_frame : (image : Image) (mask handler r : ℕ) → length image.dat ≡ 64 → r < 8 →
    register_of (with_frame image mask handler) r ≡ register_of image r
register_of-with_frame image mask handler r h l =
    ap (cast_signed w32)
    (word_at-with_word_below (with_word image.dat 32 handler) 36 (in_use image + 40) (4 * r)
    (omega (arith, length-with_word image.dat 32 handler (omega arith))) (omega arith)
    ∙ word_at-with_word_below image.dat 32 handler (4 * r) (omega arith) (omega arith))

-- so a frame is there, and its mask is the one that was pushed
pub has_frame-with_frame : (image : Image) (mask handler : ℕ) → length image.dat ≡ 64 → in_use image + 40 < 2 ^ 32 →
    has_frame (with_frame image mask handler) ≡ true
has_frame-with_frame image mask handler h fits =
    le-leb 40 (in_use (with_frame image mask handler)) (omega (arith, in_use-with_frame image mask handler h fits))

-- the bytes of the stack from the frame on
drop-stack_with_frame : (image : Image) (mask : ℕ) → has_frame_room image ≡ true →
    drop (in_use image) (stack_with_frame image mask) ≡ frame_bytes image.dat mask ++
    drop (in_use image + 40) image.stack
unfolding stack_with_frame
drop-stack_with_frame image mask fits =
    let r = room image fits in
    ap (λ xs. drop (in_use image) xs)
    (append_assoc (take (in_use image) image.stack) (frame_bytes image.dat mask)
    (drop (in_use image + 40) image.stack))
    ∙ drop_at (take (in_use image) image.stack) (frame_bytes image.dat mask ++ drop (in_use image + 40) image.stack)
    (in_use image)
    (length-take-le (in_use image) image.stack (omega arith))

word_at-further : (xs : List ℕ) (n m : ℕ) → word_at xs (n + m) ≡ word_at (drop n xs) m
unfolding word_at
word_at-further xs n m = ap (λ ys. from_le_bytes w32 (take 4 ys)) (sym (drop-drop m n xs))

mask_in_bytes : (dat : List ℕ) (mask : ℕ) (rest : List ℕ) → length dat ≡ 64 → mask < 2 ^ 32 →
    word_at (frame_bytes dat mask ++ rest) 36 ≡ mask
unfolding word_at frame_bytes
mask_in_bytes dat mask rest h fits =
    let front : length (take 36 dat) ≡ 36 = length-take-le 36 dat (omega arith) in
    ap (λ ys. from_le_bytes w32 (take 4 ys))
    (ap (λ xs. drop 36 xs) (append_assoc (take 36 dat) (to_le_bytes w32 mask) rest)
    ∙ drop_at (take 36 dat) (to_le_bytes w32 mask ++ rest) 36 front)
    ∙ from_le_bytes-to_le_bytes_4 mask fits

pub frame_mask-with_frame : (image : Image) (mask handler : ℕ) → length image.dat ≡ 64 →
    length image.stack < 2 ^ 32 → has_frame_room image ≡ true → mask < 2 ^ 32 →
    frame_mask (with_frame image mask handler) ≡ mask
frame_mask-with_frame image mask handler h small fits masked =
    let r = room image fits in
    let used : in_use (with_frame image mask handler) - 4 ≡ in_use image + 36 = omega
    (arith, in_use-with_frame image mask handler h (omega arith)) in
    ap (λ k. word_at (stack_with_frame image mask) k) used
    ∙ word_at-further (stack_with_frame image mask) (in_use image) 36
    ∙ ap (λ xs. word_at xs 36) (drop-stack_with_frame image mask fits)
    ∙ mask_in_bytes image.dat mask (drop (in_use image + 40) image.stack) h masked
