-- Neither the result of a call nor a block of local instructions changes which program an image names.
use Rattle.std.proofs.Common.{◌≡◌, ℕ, zero, suc, ◌+◌, ◌-◌, ◌*◌, ◌<◌, ◌≤◌, ◌+ℤ◌, ℤ, pos, true, List}
use Rattle.std.proofs.Common.{length, slice_index, slice_get, Some, None, refl, sym, ap, ◌∙◌, arith, ltb-true}
use Rattle.std.specs.Prelude.{IsTrue}
use Rattle.std.specs.Int.{w32, cast_unsigned, int_wrap}
use Rattle.std.proofs.lemmas.Bool.{cond_both}
use Rattle.std.proofs.lemmas.List.Elements.{All-get_or}
use Rattle.std.proofs.lemmas.Option.{slice_get_within, get_or_from_slice_get}
use Rattle.w32_base.specs.declared.instr.Instr.{Instr}
use Rattle.w32_base.specs.declared.instr.Instr.TheVariants as instr
use Rattle.vm_spec.specs.Block.{block_length, block_image}
use Rattle.vm_spec.specs.BlockLaws.{IsBlock-length}
use Rattle.vm_spec.specs.Image.{Image, word_at, with_word, register_of, value_of, place_of, at_place}
use Rattle.vm_spec.specs.Image.{moved_on, in_use, with_in_use, program_of, with_result}
use Rattle.vm_spec.specs.SizeLaws.{writes_register}
use Rattle.vm_spec.specs.Step.{upcoming, LocalInstruction, after_local, after_local_at, local_step, block_of}
use Rattle.vm_spec.specs.Step.{address_of, is_zero, is_below_zero}
use Rattle.vm_spec.specs.StepLaws.{IsNextLocal, next_local}
use Rattle.vm_spec.specs.WordLaws.{length-with_word, word_at-with_word_above}
use Rattle.posix_spec.specs.Ranges.{WritesRegisters}

-- the data region keeps its length and its program's number
record KeepsNumber (old new : List ℕ) : Type 0 where
  pub long : length new ≡ length old
  pub number : word_at new 40 ≡ word_at old 40

same_number : (dat : List ℕ) → KeepsNumber dat dat
same_number dat = record { long = refl; number = refl }

then_number : (a b c : List ℕ) → KeepsNumber a b → KeepsNumber b c → KeepsNumber a c
then_number a b c x y = record { long = y.long ∙ x.long; number = y.number ∙ x.number }

-- a word below the number
word_number : (dat : List ℕ) (place n : ℕ) → length dat ≡ 64 → place + 4 ≤ 40 → KeepsNumber dat (with_word dat place n)
word_number dat place n long low = record {
  long = length-with_word dat place n (omega (arith, long, low));
  number = word_at-with_word_above dat place n 40 (omega (arith, long, low)) low;
}

-- the next instruction is another one, and then a word changes
moved_number : (image : Image) (place n : ℕ) → length image.dat ≡ 64 → place + 4 ≤ 40
    → KeepsNumber image.dat (with_word (moved_on image).dat place n)
moved_number image place n long low =
    let moved = word_number image.dat 32 (place_of image + 1) long (omega arith) in
    then_number image.dat (moved_on image).dat (with_word (moved_on image).dat place n) moved
    (word_number (moved_on image).dat place n (moved.long ∙ long) low)

register_low : (r : ℕ) → r < 8 → 4 * r + 4 ≤ 40
register_low r low = omega (arith, low)

pub program-with_result : (image : Image) (r0 : ℤ) → length image.dat ≡ 64
    → program_of (with_result image r0 None) ≡ program_of image
program-with_result image r0 long = (moved_number image (4 * 0) (cast_unsigned w32 r0) long (omega arith)).number

after_number : (i : Instr) (image : Image) → length image.dat ≡ 64 → writes_register i ≡ true
    → KeepsNumber image.dat (after_local i image).dat
after_number (instr.Set r v) image long w =
    moved_number image (4 * r) (cast_unsigned w32 (value_of image v)) long (register_low r (ltb-true r 8 w))
after_number (instr.Add r v) image long w =
    moved_number image (4 * r) (cast_unsigned w32 (int_wrap w32 (register_of image r +ℤ value_of image v))) long
    (register_low r (ltb-true r 8 w))
after_number (instr.Load r address) image long w =
    moved_number image (4 * r)
    (cast_unsigned w32 (pos (slice_index image.heap (address_of (value_of image address))))) long
    (register_low r (ltb-true r 8 w))
after_number (instr.Store address v) image long w =
    word_number image.dat 32 (place_of image + 1) long (omega arith)
after_number (instr.Push v) image long w = moved_number image 36 (in_use image + 4) long (omega arith)
after_number (instr.Pop r) image long w =
    let used = moved_number image 36 (in_use image - 4) long (omega arith) in
    then_number image.dat (with_in_use (moved_on image) (in_use image - 4)).dat
    (after_local (instr.Pop r) image).dat used
    (word_number (with_in_use (moved_on image) (in_use image - 4)).dat (4 * r) _ (used.long ∙ long)
    (register_low r (ltb-true r 8 w)))
after_number (instr.Jump n) image long w = word_number image.dat 32 n long (omega arith)
after_number (instr.JumpZero v n) image long w =
    cond_both (is_zero (value_of image v)) (at_place image n) (moved_on image) (λ (x : Image). KeepsNumber image.dat
    x.dat)
    (λ e. word_number image.dat 32 n long (omega arith))
    (λ e. word_number image.dat 32 (place_of image + 1) long (omega arith))
after_number (instr.JumpNegative v n) image long w =
    cond_both (is_below_zero (value_of image v)) (at_place image n) (moved_on image)
    (λ (x : Image). KeepsNumber image.dat x.dat)
    (λ e. word_number image.dat 32 n long (omega arith))
    (λ e. word_number image.dat 32 (place_of image + 1) long (omega arith))
after_number _ image long w = same_number image.dat

local_step-is : (code : List Instr) (image : Image) (i : Instr) → slice_get code (place_of image) ≡ Some i
    → local_step code image ≡ after_local i image
unfolding local_step
local_step-is code image i at = ap (λ o. after_local_at o image) at

step_number : (code : List Instr) (image : Image) → WritesRegisters code → upcoming code image ≡ LocalInstruction
    → length image.dat ≡ 64 → KeepsNumber image.dat (local_step code image).dat
step_number code image registers is_local long =
    let found = next_local code image is_local in
    let i : Instr = found.0 in
    let n : IsNextLocal code image i = found.1 in
    let writes : writes_register i ≡ true =
    rw (sym (get_or_from_slice_get code (place_of image) i i n.at))
    (All-get_or (λ i. IsTrue (writes_register i)) code (place_of image) i
    (slice_get_within code (place_of image) i n.at) registers) in
    rw (local_step-is code image i n.at) (after_number i image long writes)

block_number : (n : ℕ) (code : List Instr) (image : Image) → WritesRegisters code
    → ((k : ℕ) → k < n → upcoming code (block_of k code image) ≡ LocalInstruction) → length image.dat ≡ 64
    → KeepsNumber image.dat (block_of n code image).dat
unfolding block_of
block_number zero code image registers is_local long = same_number image.dat
block_number (suc n) code image registers is_local long =
    let before = block_number n code image registers (λ k l. is_local k (omega arith)) long in
    then_number image.dat (block_of n code image).dat (local_step code (block_of n code image)).dat before
    (step_number code (block_of n code image) registers (is_local n (omega arith)) (before.long ∙ long))

pub program-block : (code : List Instr) (image : Image) → WritesRegisters code → length image.dat ≡ 64
    → program_of (block_image code image) ≡ program_of image
unfolding block_image
program-block code image registers long =
    (block_number (block_length code image) code image registers (IsBlock-length code image).local long).number
