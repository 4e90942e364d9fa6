-- The regions of an image keep their sizes through a local instruction, a block, a call's result and a frame.
-- The data region has 64 bytes throughout.
use Rattle.std.specs.Prelude.{◌≡◌, ℕ, ◌+◌, ◌-◌, ◌*◌, ◌≤◌, ◌<◌, ℤ, pos, ◌+ℤ◌, Bool, true, false, nat_lt, if◌then◌else◌}
use Rattle.std.specs.Prelude.{length, slice_index, Option, Some, None}
use Rattle.std.specs.Int.{w32, int_wrap, cast_signed, cast_unsigned}
use Rattle.std.proofs.Common.{refl, ◌∙◌, arith}
use Rattle.std.proofs.lemmas.List.{length-set}
use Rattle.std.proofs.lemmas.Bool.{ltb-true, ltb-false, cond_both}
use Rattle.w32_base.specs.declared.instr.Instr.{Instr}
use Rattle.w32_base.specs.declared.instr.Instr.TheVariants as instr
use Rattle.vm_spec.specs.Image.{Image, SameSizes, with_word, with_register, at_place, moved_on, in_use, with_in_use}
use Rattle.vm_spec.specs.Image.{place_of, with_result, value_of, register_of, word_at}
use Rattle.vm_spec.specs.Faults.{instr_faults}
use Rattle.vm_spec.specs.Step.{after_local, address_of, low_byte, is_zero, is_below_zero}
use Rattle.vm_spec.specs.WordLaws.{length-with_word}

pub SameSizes-refl : (image : Image) → SameSizes image image
SameSizes-refl image = record { dat = refl; heap = refl; stack = refl }

pub SameSizes-trans : {a b c : Image} → SameSizes a b → SameSizes b c → SameSizes a c
SameSizes-trans g h = record { dat = h.dat ∙ g.dat; heap = h.heap ∙ g.heap; stack = h.stack ∙ g.stack }

-- whether the register that an instruction writes, if any, is one of the eight
abbrev pub writes_register : Instr → Bool
writes_register (instr.Set r v) = nat_lt r 8
writes_register (instr.Add r v) = nat_lt r 8
writes_register (instr.Load r address) = nat_lt r 8
writes_register (instr.Pop r) = nat_lt r 8
writes_register _ = true

pub SameSizes-word : (image : Image) (place number : ℕ) → length image.dat ≡ 64 → place + 4 ≤ 64 →
    SameSizes image (record image { dat = with_word image.dat place number })
SameSizes-word image place number h l =
    record { dat = length-with_word image.dat place number (omega arith); heap = refl; stack = refl }

pub SameSizes-register : (image : Image) (r : ℕ) (number : ℤ) → length image.dat ≡ 64 → r < 8 →
    SameSizes image (with_register image r number)
SameSizes-register image r number h l = SameSizes-word image (4 * r) (cast_unsigned w32 number) h (omega arith)

pub SameSizes-moved_on : (image : Image) → length image.dat ≡ 64 → SameSizes image (moved_on image)
SameSizes-moved_on image h = SameSizes-word image 32 (place_of image + 1) h (omega arith)

-- a register that is written after the place or the bytes in use
then_register : (image next : Image) (r : ℕ) (number : ℤ) → length image.dat ≡ 64 → nat_lt r 8 ≡ true →
    SameSizes image next →
    SameSizes image (with_register next r number)
then_register image next r number h l s =
    SameSizes-trans s (SameSizes-register next r number (s.dat ∙ h) (ltb-true r 8 l))

pub SameSizes-with_result : (image : Image) (r0 : ℤ) (r1 : Option ℤ) → length image.dat ≡ 64 →
    SameSizes image (with_result image r0 r1)
SameSizes-with_result image r0 None h = then_register image (moved_on image) 0 r0 h refl (SameSizes-moved_on image h)
SameSizes-with_result image r0 (Some r1) h =
    then_register image (with_register (moved_on image) 0 r0) 1 r1 h refl
    (then_register image (moved_on image) 0 r0 h refl (SameSizes-moved_on image h))

jumped : (image : Image) (b : Bool) (n : ℕ) → length image.dat ≡ 64 →
    SameSizes image (if b then at_place image n else moved_on image)
jumped image b n h =
    cond_both b (at_place image n) (moved_on image) (λ i. SameSizes image i)
    (λ e. SameSizes-word image 32 n h (omega arith)) (λ e. SameSizes-moved_on image h)

-- a local instruction that doesn't fault keeps the sizes
pub SameSizes-after_local : (i : Instr) (image : Image) → length image.dat ≡ 64 → writes_register i ≡ true →
    instr_faults i image ≡ false →
    SameSizes image (after_local i image)
SameSizes-after_local (instr.Set r v) image h w f =
    then_register image (moved_on image) r (value_of image v) h w (SameSizes-moved_on image h)
SameSizes-after_local (instr.Add r v) image h w f =
    then_register image (moved_on image) r (int_wrap w32 (register_of image r +ℤ value_of image v)) h w
    (SameSizes-moved_on image h)
SameSizes-after_local (instr.Load r address) image h w f =
    then_register image (moved_on image) r (pos (slice_index image.heap (address_of (value_of image address)))) h w
    (SameSizes-moved_on image h)
SameSizes-after_local (instr.Store address v) image h w f = record {
  dat = length-with_word image.dat 32 (place_of image + 1) (omega arith);
  heap = length-set image.heap (address_of (value_of image address)) (low_byte (value_of image v));
  stack = refl;
}
SameSizes-after_local (instr.Push v) image h w f =
    let moved : length (moved_on image).dat ≡ length image.dat = length-with_word image.dat 32 (place_of image + 1)
    (omega arith) in
    record {
      dat = length-with_word (moved_on image).dat 36 (in_use image + 4) (omega arith) ∙ moved;
      heap = refl;
      stack =
          length-with_word image.stack (in_use image) (cast_unsigned w32 (value_of image v))
          (ltb-false (length image.stack) (in_use image + 4) f);
    }
SameSizes-after_local (instr.Pop r) image h w f =
    let moved : SameSizes image (moved_on image) = SameSizes-moved_on image h in
    let fewer : SameSizes image (with_in_use (moved_on image) (in_use image - 4)) =
    SameSizes-trans moved (SameSizes-word (moved_on image) 36 (in_use image - 4) (moved.dat ∙ h) (omega arith)) in
    then_register image (with_in_use (moved_on image) (in_use image - 4)) r
    (cast_signed w32 (word_at image.stack (in_use image - 4))) h w fewer
SameSizes-after_local (instr.Jump n) image h w f = SameSizes-word image 32 n h (omega arith)
SameSizes-after_local (instr.JumpZero v n) image h w f = jumped image (is_zero (value_of image v)) n h
SameSizes-after_local (instr.JumpNegative v n) image h w f = jumped image (is_below_zero (value_of image v)) n h
SameSizes-after_local _ image h w f = SameSizes-refl image
