-- An image stays one of a program of its script through what is done to it.
use Rattle.std.specs.Prelude.{◌≡◌, ℕ, ◌+◌, ◌-◌, ◌*◌, ◌%◌, ◌^◌, ◌<◌, ◌≤◌, ℤ, true, List, ◌++◌, length, take, drop}
use Rattle.std.specs.Prelude.{slice_get, Option, Some, None, IsSomeAnd}
use Rattle.std.specs.Int.{w32, cast_unsigned, from_le_bytes}
use Rattle.std.proofs.Common.{refl, sym, ap, subst, ◌∙◌, arith, length-drop, leb-true, drop-drop}
use Rattle.std.proofs.lemmas.List.{length-take-le, drop_at}
use Rattle.w32_base.specs.declared.setup.Program.{Program}
use Rattle.script_spec.specs.declared.script.Script.{Script}
use Rattle.vm_spec.specs.Image.{Image, SameSizes, word_at, with_word, with_register, at_place, moved_on, in_use}
use Rattle.vm_spec.specs.Image.{with_in_use, place_of, program_of, with_result}
use Rattle.vm_spec.specs.Frames.{has_frame_room, with_frame, stack_with_frame, has_frame, without_frame}
use Rattle.vm_spec.specs.Frames.{data_from_frame}
use Rattle.vm_spec.specs.FrameLaws.{length-stack_with_frame, length-data_from_frame}
use Rattle.vm_spec.specs.WordLaws.{length-with_word, word_at-with_word, word_at-with_word_above, with_word-wrapped}
use Rattle.posix_spec.specs.WellFormed.{IsImage, FitsProgram}

fits_same : (o : Option Program) (a b : Image) → length b.heap ≡ length a.heap → length b.stack ≡ length a.stack →
    IsSomeAnd o (FitsProgram a) → IsSomeAnd o (FitsProgram b)
fits_same None a b heap stack h = h
fits_same (Some program) a b heap stack h = record { heap = heap ∙ h.heap; stack = stack ∙ h.stack }

at_most_wrapped : (n : ℕ) → n % 2 ^ 32 ≤ n
at_most_wrapped n = omega arith

module _ (script : Script) where
  -- an image of the same program and sizes, with no more of its stack in use than there is
  pub IsImage-same : (old new : Image) → IsImage script old → SameSizes old new → program_of new ≡ program_of old →
      in_use new ≤ length new.stack → IsImage script new
  IsImage-same old new h same program used = record {
    dat = same.dat ∙ h.dat;
    program = subst (λ n. IsSomeAnd (slice_get script.setup.programs n) (FitsProgram new)) (sym program)
        (fits_same (slice_get script.setup.programs (program_of old)) old new same.heap same.stack h.program);
    used = used;
  }

  -- a number is written below where the stack's use and the program's number stand
  pub IsImage-word : (image : Image) (place number : ℕ) → IsImage script image → place + 4 ≤ 36 →
      IsImage script (record image { dat = with_word image.dat place number })
  IsImage-word image place number h l =
      let fits : place + 4 ≤ length image.dat = omega (arith, h.dat) in
      IsImage-same image (record image { dat = with_word image.dat place number }) h
      (record { dat = length-with_word image.dat place number fits; heap = refl; stack = refl })
      (word_at-with_word_above image.dat place number 40 fits (omega arith))
      (omega (arith, word_at-with_word_above image.dat place number 36 fits (omega arith), h.used))

  pub IsImage-register : (image : Image) (r : ℕ) (number : ℤ) → r < 8 → IsImage script image → IsImage script
      (with_register image r number)
  IsImage-register image r number l h = IsImage-word image (4 * r) (cast_unsigned w32 number) h (omega arith)

  pub IsImage-at_place : (image : Image) (place : ℕ) → IsImage script image → IsImage script (at_place image place)
  IsImage-at_place image place h = IsImage-word image 32 place h (omega arith)

  pub IsImage-moved_on : (image : Image) → IsImage script image → IsImage script (moved_on image)
  IsImage-moved_on image h = IsImage-at_place image (place_of image + 1) h

  pub IsImage-with_result : (image : Image) (r0 : ℤ) (r1 : Option ℤ) → IsImage script image → IsImage script
      (with_result image r0 r1)
  IsImage-with_result image r0 None h =
      IsImage-register (moved_on image) 0 r0 (omega arith) (IsImage-moved_on image h)
  IsImage-with_result image r0 (Some r1) h =
      IsImage-register (with_register (moved_on image) 0 r0) 1 r1 (omega arith)
      (IsImage-register (moved_on image) 0 r0 (omega arith) (IsImage-moved_on image h))

  pub in_use-with_result : (image : Image) (r0 : ℤ) → length image.dat ≡ 64 → in_use
      (with_result image r0 None) ≡ in_use image
  in_use-with_result image r0 h =
      let moved = length-with_word image.dat 32 (place_of image + 1) (omega (arith, h)) in
      word_at-with_word_above (moved_on image).dat 0 (cast_unsigned w32 r0) 36 (omega (arith, h, moved)) (omega arith)
      ∙ word_at-with_word_above image.dat 32 (place_of image + 1) 36 (omega (arith, h)) (omega arith)

  -- other bytes of the heap or of the stack, as many as before
  pub IsImage-heap : (image : Image) (heap : List ℕ) → length heap ≡ length image.heap → IsImage script image →
      IsImage script (record image { heap = heap })
  IsImage-heap image heap same h =
      IsImage-same image (record image { heap = heap }) h (record { dat = refl; heap = same; stack = refl }) refl h.used

  pub IsImage-stack : (image : Image) (stack : List ℕ) → length stack ≡ length image.stack → IsImage script image →
      IsImage script (record image { stack = stack })
  IsImage-stack image stack same h =
      IsImage-same image (record image { stack = stack }) h (record { dat = refl; heap = refl; stack = same }) refl
      (omega (arith, same, h.used))

  in_use_at_most : (image : Image) (n : ℕ) → length image.dat ≡ 64 → in_use (with_in_use image n) ≤ n
  in_use_at_most image n h =
      let is : word_at (with_word image.dat 36 (n % 2 ^ 32)) 36 ≡ n % 2 ^ 32 = word_at-with_word image.dat 36
      (n % 2 ^ 32) (omega arith) (omega arith) in
      let same : in_use (with_in_use image n) ≡ word_at (with_word image.dat 36 (n % 2 ^ 32)) 36 = ap
      (λ bytes. word_at bytes 36) (sym (with_word-wrapped image.dat 36 n)) in
      omega (arith, is, same, at_most_wrapped n)

  pub IsImage-with_in_use : (image : Image) (n : ℕ) → n ≤ length image.stack → IsImage script image → IsImage script
      (with_in_use image n)
  IsImage-with_in_use image n l h =
      let fits : 40 ≤ length image.dat = omega (arith, h.dat) in
      IsImage-same image (with_in_use image n) h
      (record { dat = length-with_word image.dat 36 n fits; heap = refl; stack = refl })
      (word_at-with_word_above image.dat 36 n 40 fits (omega arith))
      (omega (arith, in_use_at_most image n h.dat))

  -- ---- frames

  pub IsImage-with_frame : (image : Image) (mask handler : ℕ) → has_frame_room image ≡ true → IsImage script image →
      IsImage script (with_frame image mask handler)
  IsImage-with_frame image mask handler room h =
      let long = length-stack_with_frame image mask h.dat room in
      let pushed : Image = record image { stack = stack_with_frame image mask } in
      IsImage-with_in_use (at_place pushed handler) (in_use image + 40)
      (omega (arith, leb-true (in_use image + 40) (length image.stack) room, long))
      (IsImage-at_place pushed handler (IsImage-stack image (stack_with_frame image mask) long h))

  -- what follows the first 36 bytes stays
  data_later : (image : Image) (k : ℕ) → length image.dat ≡ 64 → in_use image ≤ length image.stack → has_frame
      image ≡ true →
      word_at (data_from_frame image) (36 + k) ≡ word_at image.dat (36 + k)
  unfolding data_from_frame word_at
  data_later image k h used framed =
      let front : length (take 36 (drop (in_use image - 40) image.stack)) ≡ 36 =
      length-take-le 36 (drop (in_use image - 40) image.stack)
      (omega (arith, length-drop (in_use image - 40) image.stack, leb-true 40 (in_use image) framed)) in
      let all = take 36 (drop (in_use image - 40) image.stack) ++ drop 36 image.dat in
      ap (λ bytes. from_le_bytes w32 (take 4 bytes))
      (sym (drop-drop k 36 all) ∙ ap (drop k) (drop_at (take 36 (drop (in_use image - 40) image.stack))
      (drop 36 image.dat) 36 front) ∙ drop-drop k 36 image.dat)

  pub IsImage-without_frame : (image : Image) → has_frame image ≡ true → IsImage script image → IsImage script
      (without_frame image)
  IsImage-without_frame image framed h =
      let popped : Image = record image { dat = data_from_frame image } in
      let long = length-data_from_frame image h.dat h.used framed in
      let same : IsImage script popped = IsImage-same image popped h
      (record { dat = long ∙ sym h.dat; heap = refl; stack = refl })
      (data_later image 4 h.dat h.used framed)
      (omega (arith, data_later image 0 h.dat h.used framed, h.used)) in
      IsImage-with_in_use popped (in_use image - 40) (omega (arith, h.used)) same
