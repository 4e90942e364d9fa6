-- What is known of the next instruction where it is a local one, and the sizes after local instructions.
use Rattle.std.specs.Prelude.{◌≡◌, ℕ, zero, suc, ◌≤◌, ◌<◌, true, false, IsTrue, nat_lt, List, length, slice_get, Option}
use Rattle.std.specs.Prelude.{Some, None}
use Rattle.std.specs.List.{All}
use Rattle.std.proofs.Common.{refl, sym, ◌∙◌, ap, arith, inl, inr}
use Rattle.std.proofs.lemmas.Option.{slice_get_within, get_or_from_slice_get}
use Rattle.std.proofs.lemmas.List.Elements.{All-get_or}
use Rattle.std.proofs.lemmas.Bool.{ltb-false, false≢true, cases_Bool, or_parts, cond-true, cond-false}
use Rattle.w32_base.specs.declared.instr.Instr.{Instr}
use Rattle.vm_spec.specs.Image.{Image, SameSizes, in_use, place_of}
use Rattle.vm_spec.specs.Faults.{instr_faults, faults_at, faults}
use Rattle.vm_spec.specs.Step.{LocalInstruction, CallInstruction, ImageFault, is_local, upcoming_at, upcoming}
use Rattle.vm_spec.specs.Step.{after_local, after_local_at, local_step, block_of}
use Rattle.vm_spec.specs.Block.{is_local_next, block_length, block_image}
use Rattle.vm_spec.specs.BlockLaws.{IsBlock-length}
use Rattle.vm_spec.specs.SizeLaws.{writes_register, SameSizes-refl, SameSizes-trans, SameSizes-after_local}

-- the instruction at the next place, which is local and doesn't fault
pub record IsNextLocal (code : List Instr) (image : Image) (i : Instr) : Type 0 where
  pub at : slice_get code (place_of image) ≡ Some i
  pub local : is_local i ≡ true
  pub within : in_use image ≤ length image.stack
  pub carried_out : instr_faults i image ≡ false

some_local : (o : Option Instr) → upcoming_at o ≡ LocalInstruction → (i : Instr) × (o ≡ Some i) × (is_local i ≡ true)
some_local None h = absurd (false≢true (ap is_local_next h))
some_local (Some i) h =
    elim (cases_Bool (is_local i)) [
      | inl e ↦ (i, refl, e)
      | inr e ↦ absurd
          (false≢true (ap is_local_next (sym (cond-false (is_local i) LocalInstruction (CallInstruction i) e) ∙ h)))
    ]

pub next_local : (code : List Instr) (image : Image) → upcoming code image ≡ LocalInstruction →
    (i : Instr) × IsNextLocal code image i
unfolding upcoming
next_local code image h =
    let other = upcoming_at (slice_get code (place_of image)) in
    elim (cases_Bool (faults code image)) [
      | inl e ↦ absurd (false≢true (ap is_local_next (sym (cond-true (faults code image) ImageFault other e) ∙ h)))
      | inr e ↦
          let found = some_local (slice_get code (place_of image))
          (sym (cond-false (faults code image) ImageFault other e) ∙ h) in
          let parts = or_parts (nat_lt (length image.stack) (in_use image))
          (faults_at (slice_get code (place_of image)) image) e in (
            found.0,
            record {
              at = found.1;
              local = found.2;
              within = ltb-false (length image.stack) (in_use image) parts.0;
              carried_out = ap (λ o. faults_at o image) (sym found.1) ∙ parts.1;
            },
          )
    ]

-- one local instruction, a number of them, and a block keep the sizes
local_step-is : (code : List Instr) (image : Image) (i : Instr) → slice_get code (place_of image) ≡ Some i →
    local_step code image ≡ after_local i image
unfolding local_step
local_step-is code image i at = ap (λ o. after_local_at o image) at

pub SameSizes-local_step : (code : List Instr) (image : Image) → length image.dat ≡ 64 →
    All (λ i. IsTrue (writes_register i)) code →
    upcoming code image ≡ LocalInstruction → SameSizes image (local_step code image)
SameSizes-local_step code image h registers local =
    let found = next_local code image local in
    let i : Instr = found.0 in
    let n : IsNextLocal code image i = found.1 in
    let within : place_of image < length code = slice_get_within code (place_of image) i n.at in
    let writes : writes_register i ≡ true =
    rw (sym (get_or_from_slice_get code (place_of image) i i n.at))
    (All-get_or (λ i. IsTrue (writes_register i)) code (place_of image) i within registers) in
    rw (local_step-is code image i n.at) (SameSizes-after_local i image h writes n.carried_out)

pub SameSizes-block_of : (n : ℕ) (code : List Instr) (image : Image) → length image.dat ≡ 64 →
    All (λ i. IsTrue (writes_register i)) code →
    ((k : ℕ) → k < n → upcoming code (block_of k code image) ≡ LocalInstruction) →
    SameSizes image (block_of n code image)
unfolding block_of
SameSizes-block_of zero code image h registers local = SameSizes-refl image
SameSizes-block_of (suc n) code image h registers local =
    let before : SameSizes image (block_of n code image) = SameSizes-block_of n code image h registers
    (λ k l. local k (omega arith)) in
    SameSizes-trans before
    (SameSizes-local_step code (block_of n code image) (before.dat ∙ h) registers (local n (omega arith)))

pub SameSizes-block : (code : List Instr) (image : Image) → length image.dat ≡ 64 →
    All (λ i. IsTrue (writes_register i)) code →
    SameSizes image (block_image code image)
unfolding block_image
SameSizes-block code image h registers =
    SameSizes-block_of (block_length code image) code image h registers (IsBlock-length code image).local
