-- A block has as many instructions as `block_length` says, and no other number.
use Rattle.std.specs.Prelude.{◌≡◌, ◌≢◌, ◌↔◌, ℕ, zero, suc, ◌≤◌, ◌<◌, true, false, List}
use Rattle.std.proofs.Common.{refl, sym, ◌∙◌, ap, arith, inl, inr}
use Rattle.std.proofs.lemmas.Bool.{cases_order, both_ways, cond_both}
use Rattle.w32_base.specs.declared.instr.Instr.{Instr}
use Rattle.vm_spec.specs.Image.{Image}
use Rattle.vm_spec.specs.Step.{Upcoming, LocalInstruction, CallInstruction, ImageFault, upcoming, local_step, block_of}
use Rattle.vm_spec.specs.Step.{IsBlock}
use Rattle.vm_spec.specs.Block.{is_local_next, block_within, block_length, block_image}

-- the first instruction of one more than n stands before the n others
pub block_of-first : (n : ℕ) (code : List Instr) (image : Image) →
    block_of n code (local_step code image) ≡ block_of (suc n) code image
unfolding block_of
block_of-first zero code image = refl
block_of-first (suc n) code image = ap (local_step code) (block_of-first n code image)

-- what is next is a local instruction exactly where the test says so
pub local_next : (u : Upcoming) → is_local_next u ≡ true → u ≡ LocalInstruction
local_next LocalInstruction h = refl
local_next (CallInstruction call) h = search h
local_next ImageFault h = search h

pub not_local_next : (u : Upcoming) → is_local_next u ≡ false → u ≢ LocalInstruction
not_local_next u h e = both_ways (is_local_next u) h (ap is_local_next e)

-- n local instructions are carried out, at most so many, and the next one is none where n is fewer
record IsBlockWithin (bound : ℕ) (code : List Instr) (image : Image) (n : ℕ) : Type 0 where
  most : n ≤ bound
  local : (k : ℕ) → k < n → upcoming code (block_of k code image) ≡ LocalInstruction
  ended : n < bound → upcoming code (block_of n code image) ≢ LocalInstruction

none_local : (most : ℕ) (code : List Instr) (image : Image) → is_local_next (upcoming code image) ≡ false →
    IsBlockWithin (suc most) code image 0
unfolding block_of
none_local most code image h = record {
  most = omega arith;
  local = λ k l. absurd (omega arith);
  ended = λ l. not_local_next (upcoming code image) h;
}

-- the instructions of a block that begins one instruction later, and the one before them
local_before : (n : ℕ) (code : List Instr) (image : Image) → is_local_next (upcoming code image) ≡ true →
    ((k : ℕ) → k < n → upcoming code (block_of k code (local_step code image)) ≡ LocalInstruction) →
    (k : ℕ) → k < suc n → upcoming code (block_of k code image) ≡ LocalInstruction
unfolding block_of
local_before n code image h rest zero l = local_next (upcoming code image) h
local_before n code image h rest (suc k) l =
    ap (upcoming code) (sym (block_of-first k code image)) ∙ rest k (omega arith)

one_local : (most n : ℕ) (code : List Instr) (image : Image) → is_local_next (upcoming code image) ≡ true →
    IsBlockWithin most code (local_step code image) n → IsBlockWithin (suc most) code image (suc n)
one_local most n code image h rest = record {
  most = omega (arith, rest.most);
  local = local_before n code image h rest.local;
  ended = λ l e. rest.ended (omega arith) (ap (upcoming code) (block_of-first n code image) ∙ e);
}

is_block_within : (most : ℕ) (code : List Instr) (image : Image) →
    IsBlockWithin most code image (block_within most code image)
unfolding block_within
is_block_within zero code image = record {
  most = omega arith;
  local = λ k l. absurd (omega arith);
  ended = λ l. absurd (omega arith);
}
is_block_within (suc most) code image =
    cond_both (is_local_next (upcoming code image)) (suc (block_within most code (local_step code image))) 0
    (λ n. IsBlockWithin (suc most) code image n)
    (λ h. one_local most (block_within most code (local_step code image)) code image h
    (is_block_within most code (local_step code image)))
    (none_local most code image)

-- the block has this length
pub IsBlock-length : (code : List Instr) (image : Image) → IsBlock code image (block_length code image)
unfolding block_length
IsBlock-length code image =
    let h = is_block_within 256 code image in
    record { most = h.most; local = h.local; ended = h.ended }

not_shorter : (code : List Instr) (image : Image) (m n : ℕ) → IsBlock code image m → IsBlock code image n → m < n → ⊥
not_shorter code image m n p q l =
    let short : m < 256 = omega (arith, q.most) in
    p.ended short (q.local m l)

-- a block has one length
pub IsBlock-unique : (code : List Instr) (image : Image) (m n : ℕ) → IsBlock code image m → IsBlock code image n →
    m ≡ n
IsBlock-unique code image m n p q =
    elim (cases_order m n) [
      | inl e ↦ e
      | inr other ↦ elim other [
        | inl l ↦ absurd (not_shorter code image m n p q l)
        | inr l ↦ absurd
            (not_shorter code image n m q p l)
      ]
    ]

pub IsBlock-iff : (code : List Instr) (image : Image) (n : ℕ) → IsBlock code image n ↔ (n ≡ block_length code image)
IsBlock-iff code image n = (
  λ h. IsBlock-unique code image n (block_length code image) h (IsBlock-length code image),
  λ e. rw e (IsBlock-length code image),
)

-- the image after a block of n instructions
pub IsBlock-image : (code : List Instr) (image : Image) (n : ℕ) → IsBlock code image n →
    block_of n code image ≡ block_image code image
unfolding block_image
IsBlock-image code image n h =
    ap (λ k. block_of k code image)
    (IsBlock-unique code image n (block_length code image) h (IsBlock-length code image))

-- a block has an instruction exactly where the next is a local one
pub block_length-pos : (code : List Instr) (image : Image) → upcoming code image ≡ LocalInstruction →
    0 < block_length code image
unfolding block_length block_within
block_length-pos code image e = rw e (omega arith)

pub block_length-zero : (code : List Instr) (image : Image) → upcoming code image ≢ LocalInstruction →
    block_length code image ≡ 0
unfolding block_of
block_length-zero code image h =
    let none : IsBlock code image 0 = record {
      most = omega arith;
      local = λ k l. absurd
          (omega arith);
      ended = λ l. h;
    } in
    IsBlock-unique code image (block_length code image) 0 (IsBlock-length code image) none
