-- How a block has come so far, and how it goes on and ends.
use Rattle.std.proofs.Common.{◌≡◌, ℕ, zero, suc, ◌+◌, ◌<◌, ◌≤◌, List, length, refl, ◌∙◌, ap, arith, add-one, below_more}
use Rattle.w32_base.specs.declared.own.Own.{Own}
use Rattle.w32_base.specs.declared.instr.Instr.{Instr}
use Rattle.vm_spec.specs.Image.{image_of, with_image, SameSizes}
use Rattle.vm_spec.specs.Step.{upcoming, LocalInstruction, local_step, block_of, IsBlock}
use Rattle.vm_spec.specs.Block.{block_length, block_image}
use Rattle.vm_spec.specs.BlockLaws.{IsBlock-iff, IsBlock-image}

-- after n local instructions from the memory `old`
pub record IsDone (code : List Instr) (old new : Own) (n : ℕ) : Type 0 where
  pub value : new ≡ with_image old (block_of n code (image_of old))
  pub local : (k : ℕ) → k < n → upcoming code (block_of k code (image_of old)) ≡ LocalInstruction
  pub len : length new.dat ≡ 64
  pub sizes : SameSizes (image_of old) (image_of new)

-- none are done yet
pub IsDone-none : (code : List Instr) (old : Own) → length old.dat ≡ 64 → IsDone code old old 0
unfolding block_of
IsDone-none code old h = record {
  value = refl;
  local = λ k l. absurd (omega arith);
  len = h;
  sizes = record { dat = refl; heap = refl; stack = refl };
}

-- the image of the memory after n
pub IsDone-image : (code : List Instr) (old new : Own) (n : ℕ) → IsDone code old new n
    → image_of new ≡ block_of n code (image_of old)
IsDone-image code old new n h = ap image_of h.value

-- one more
pub IsDone-more : (code : List Instr) (old now new : Own) (n : ℕ) → IsDone code old now n →
    upcoming code (image_of now) ≡ LocalInstruction → new ≡ with_image now (local_step code (image_of now)) →
    length new.dat ≡ 64 → SameSizes (image_of now) (image_of new) → IsDone code old new (n + 1)
unfolding block_of
IsDone-more code old now new n h local is len sizes =
    let image_is = IsDone-image code old now n h in
    record {
      value =
          rw add-one (is ∙ ap (λ i. with_image now (local_step code i)) image_is ∙
          ap (λ (o : Own). with_image o (local_step code (block_of n code (image_of old)))) h.value);
      local = below_more _ n h.local (rw image_is at local);
      len = len;
      sizes =
          record {
            dat = sizes.dat ∙ h.sizes.dat;
            heap = sizes.heap ∙ h.sizes.heap;
            stack = sizes.stack ∙
                h.sizes.stack;
          };
    }

-- a block whose first instruction is local has one at the least where the next is not local
pub IsDone-least : (code : List Instr) (old now : Own) (n : ℕ) → IsDone code old now n →
    upcoming code (image_of old) ≡ LocalInstruction → (upcoming code (image_of now) ≡ LocalInstruction → ⊥) → 1 ≤ n
unfolding block_of
IsDone-least code old now zero h local not_local =
    let image_is : image_of now ≡ image_of old = IsDone-image code old now zero h in
    absurd (not_local (ap (upcoming code) image_is ∙ local))
IsDone-least code old now (suc n) h local not_local = omega arith

-- after n the block is over where the next is not local, or where there are 256
pub IsDone-block : (code : List Instr) (old now : Own) (n : ℕ) → IsDone code old now n → n ≤ 256 →
    (n < 256 → upcoming code (image_of now) ≡ LocalInstruction → ⊥) → IsBlock code (image_of old) n
IsDone-block code old now n h most not_local = record {
  most = most;
  local = h.local;
  ended = λ l e. not_local l (ap (upcoming code) (IsDone-image code old now n h) ∙ e);
}

-- so it has the block's length, and the memory is the one after it
pub IsDone-length : (code : List Instr) (old now : Own) (n : ℕ) → IsDone code old now n → n ≤ 256 →
    (n < 256 → upcoming code (image_of now) ≡ LocalInstruction → ⊥) → n ≡ block_length code (image_of old)
IsDone-length code old now n h most not_local =
    (IsBlock-iff code (image_of old) n).0 (IsDone-block code old now n h most not_local)

pub IsDone-whole : (code : List Instr) (old now : Own) (n : ℕ) → IsDone code old now n → n ≤ 256 →
    (n < 256 → upcoming code (image_of now) ≡ LocalInstruction → ⊥)
    → now ≡ with_image old (block_image code (image_of old))
IsDone-whole code old now n h most not_local =
    h.value ∙
    ap (λ i. with_image old i) (IsBlock-image code (image_of old) n (IsDone-block code old now n h most not_local))
