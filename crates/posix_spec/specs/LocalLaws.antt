-- An image stays one of a program of its script through a block of local instructions; and so does the first one.
use Rattle.std.specs.Prelude.{◌≡◌, ℕ, zero, suc, ◌+◌, ◌-◌, ◌^◌, ◌<◌, ◌≤◌, ◌+ℤ◌, pos, Bool, true, false}
use Rattle.std.specs.Prelude.{if◌then◌else◌, List, length, slice_index, slice_get, Some, IsTrue, IsSomeAnd, replicate}
use Rattle.std.specs.Int.{w32, cast_unsigned, cast_signed, int_wrap}
use Rattle.std.proofs.Common.{refl, sym, ap, subst, ◌∙◌, arith, length-set, ltb-true, ltb-false}
use Rattle.std.proofs.lemmas.Bool.{cond_both}
use Rattle.std.proofs.lemmas.Option.{slice_get_within, get_or_from_slice_get}
use Rattle.std.proofs.lemmas.List.{length-replicate}
use Rattle.std.proofs.lemmas.List.Elements.{All-get_or}
use Rattle.w32_base.specs.declared.instr.Instr.{Instr}
use Rattle.w32_base.specs.declared.instr.Instr.TheVariants as instr
use Rattle.w32_base.specs.declared.setup.Program.{Program}
use Rattle.script_spec.specs.declared.script.Script.{Script}
use Rattle.vm_spec.specs.Image.{Image, word_at, with_word, register_of, value_of, at_place, moved_on, in_use}
use Rattle.vm_spec.specs.Image.{with_in_use, place_of}
use Rattle.vm_spec.specs.Faults.{instr_faults}
use Rattle.vm_spec.specs.Step.{upcoming, LocalInstruction, after_local, after_local_at, local_step, block_of}
use Rattle.vm_spec.specs.Step.{address_of, low_byte, is_zero, is_below_zero}
use Rattle.vm_spec.specs.Block.{block_length, block_image}
use Rattle.vm_spec.specs.BlockLaws.{IsBlock-length}
use Rattle.vm_spec.specs.StepLaws.{IsNextLocal, next_local}
use Rattle.vm_spec.specs.SizeLaws.{writes_register}
use Rattle.vm_spec.specs.NewImage.{new_image}
use Rattle.vm_spec.specs.WordLaws.{length-with_word, word_at-with_word, word_at-with_word_below}
use Rattle.posix_spec.specs.Ranges.{WritesRegisters}
use Rattle.posix_spec.specs.WellFormed.{IsImage, FitsProgram}
use Rattle.posix_spec.specs.ImageLaws.{IsImage-register, IsImage-at_place, IsImage-moved_on, IsImage-heap}
use Rattle.posix_spec.specs.ImageLaws.{IsImage-stack, IsImage-with_in_use}

none_in_use : word_at (replicate 64 0) 36 ≡ 0
unfolding word_at
none_in_use = refl

module _ (script : Script) where
  jumped : (image : Image) (b : Bool) (n : ℕ) → IsImage script image → IsImage script
      (if b then at_place image n else moved_on image)
  jumped image b n h =
      cond_both b (at_place image n) (moved_on image) (IsImage script)
      (λ _. IsImage-at_place script image n h) (λ _. IsImage-moved_on script image h)

  pub IsImage-after_local : (i : Instr) (image : Image) → writes_register i ≡ true → in_use image ≤ length image.stack →
      instr_faults i image ≡ false → IsImage script image → IsImage script (after_local i image)
  IsImage-after_local (instr.Set r v) image w used f h =
      IsImage-register script (moved_on image) r (value_of image v) (ltb-true r 8 w) (IsImage-moved_on script image h)
  IsImage-after_local (instr.Add r v) image w used f h =
      IsImage-register script (moved_on image) r (int_wrap w32 (register_of image r +ℤ value_of image v))
      (ltb-true r 8 w) (IsImage-moved_on script image h)
  IsImage-after_local (instr.Load r address) image w used f h =
      IsImage-register script (moved_on image) r (pos (slice_index image.heap (address_of (value_of image address))))
      (ltb-true r 8 w) (IsImage-moved_on script image h)
  IsImage-after_local (instr.Store address v) image w used f h =
      IsImage-heap script (moved_on image) _ (length-set image.heap (address_of (value_of image address))
      (low_byte (value_of image v)))
      (IsImage-moved_on script image h)
  IsImage-after_local (instr.Push v) image w used f h =
      let room = ltb-false (length image.stack) (in_use image + 4) f in
      let long = length-with_word image.stack (in_use image) (cast_unsigned w32 (value_of image v)) room in
      let pushed = with_word image.stack (in_use image) (cast_unsigned w32 (value_of image v)) in
      let moved : Image = record (moved_on image) { stack = pushed } in
      IsImage-with_in_use script moved (in_use image + 4) (omega (arith, room, long))
      (IsImage-stack script (moved_on image) pushed long (IsImage-moved_on script image h))
  IsImage-after_local (instr.Pop r) image w used f h =
      IsImage-register script (with_in_use (moved_on image) (in_use image - 4)) r
      (cast_signed w32 (word_at image.stack (in_use image - 4))) (ltb-true r 8 w)
      (IsImage-with_in_use script (moved_on image) (in_use image - 4) (omega arith) (IsImage-moved_on script image h))
  IsImage-after_local (instr.Jump n) image w used f h = IsImage-at_place script image n h
  IsImage-after_local (instr.JumpZero v n) image w used f h = jumped image (is_zero (value_of image v)) n h
  IsImage-after_local (instr.JumpNegative v n) image w used f h = jumped image (is_below_zero (value_of image v)) n h
  IsImage-after_local _ image w used f h = h

  local_step-is : (code : List Instr) (image : Image) (i : Instr) → slice_get code (place_of image) ≡ Some i →
      local_step code image ≡ after_local i image
  unfolding local_step
  local_step-is code image i at = ap (λ o. after_local_at o image) at

  pub IsImage-local_step : (code : List Instr) (image : Image) → WritesRegisters code → upcoming code
      image ≡ LocalInstruction →
      IsImage script image → IsImage script (local_step code image)
  IsImage-local_step code image registers local h =
      let found = next_local code image local in
      let i : Instr = found.0 in
      let n : IsNextLocal code image i = found.1 in
      let writes : writes_register i ≡ true =
      rw (sym (get_or_from_slice_get code (place_of image) i i n.at))
      (All-get_or (λ i. IsTrue (writes_register i)) code (place_of image) i
      (slice_get_within code (place_of image) i n.at) registers) in
      rw (local_step-is code image i n.at) (IsImage-after_local i image writes n.within n.carried_out h)

  IsImage-block_of : (n : ℕ) (code : List Instr) (image : Image) → WritesRegisters code →
      ((k : ℕ) → k < n → upcoming code (block_of k code image) ≡ LocalInstruction) → IsImage script image → IsImage
      script (block_of n code image)
  unfolding block_of
  IsImage-block_of zero code image registers local h = h
  IsImage-block_of (suc n) code image registers local h =
      IsImage-local_step code (block_of n code image) registers (local n (omega arith))
      (IsImage-block_of n code image registers (λ k l. local k (omega arith)) h)

  pub IsImage-block : (code : List Instr) (image : Image) → WritesRegisters code → IsImage script image → IsImage
      script (block_image code image)
  unfolding block_image
  IsImage-block code image registers h = IsImage-block_of (block_length code image) code image registers
      (IsBlock-length code image).local h

  -- the image in which a program of the script begins
  pub IsImage-new : (number : ℕ) (program : Program) → number < 2 ^ 32 → slice_get script.setup.programs number ≡ Some
      program →
      IsImage script (new_image number program)
  IsImage-new number program fits is =
      let zeros : List ℕ = replicate 64 0 in
      let long : length zeros ≡ 64 = refl in
      record {
        dat = length-with_word zeros 40 number (omega (arith, long)) ∙ long;
        program = subst (λ n. IsSomeAnd (slice_get script.setup.programs n) (FitsProgram (new_image number program)))
            (sym (word_at-with_word zeros 40 number (omega (arith, long)) fits))
            (subst (λ o. IsSomeAnd o (FitsProgram (new_image number program))) (sym is)
            (record { heap = length-replicate program.heap 0; stack = length-replicate program.stack 0 }));
        used = omega (
          arith,
          word_at-with_word_below zeros 40 number 36 (omega (arith, long)) (omega arith),
          none_in_use,
        );
      }
