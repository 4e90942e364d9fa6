-- The bytes of a cygheap fit.
use Rattle.std.specs.Prelude.{◌≡◌, ℕ, zero, suc, ◌/◌, ◌%◌, ◌^◌, ◌≤◌, ◌<◌, true, nat_eq, List, bit_and, Option, Some}
use Rattle.std.specs.Prelude.{None}
use Rattle.std.specs.Int.{bit_at}
use Rattle.std.proofs.Common.{refl, sym, ◌∙◌, ap, arith}
use Rattle.std.proofs.lemmas.Nat.{and_le_r}
use Rattle.std.proofs.lemmas.Nat.Bits.{bit_at_and}
use Rattle.std.proofs.lemmas.Bool.{lt-ltb, eq-eqb, eqb-true, leb-true}
use Rattle.std.proofs.lemmas.Bool.Decides.{nat_tests}
use Rattle.w32_base.specs.declared.instr.Action.{Action}
use Rattle.posix_spec.specs.Signals.{clean_mask}
use Rattle.layer_spec.specs.Heap.{HeapChild, HeapFields, is_mask, is_saved_mask, IsHeap, heap_bytes}
use Rattle.layer_spec.specs.HeapReads.{byte_at}
use Rattle.layer_spec.specs.HeapBreaks.{is_byte, fits_mask, fits_at}

-- what a mask lacks
pub record MaskBits (m : ℕ) : Type 0 where
  pub below : m < 2 ^ 31
  pub kill : m / 256 % 2 ≡ 0
  pub stop : m / 262144 % 2 ≡ 0

pub mask_bits : (m : ℕ) → is_mask m ≡ true → MaskBits m
mask_bits m h =
    let same : bit_and m 2147221247 ≡ m = eqb-true (clean_mask m) m h in
    record {
      below = omega (arith, and_le_r m 2147221247, same);
      kill = sym (ap (λ x. bit_at x 8) same) ∙ bit_at_and m 2147221247 8 ∙ omega arith;
      stop = sym (ap (λ x. bit_at x 18) same) ∙ bit_at_and m 2147221247 18 ∙ omega arith;
    }

byte_0 : (m : ℕ) → MaskBits m → fits_mask 0 (m % 256) ≡ true
byte_0 m bits = grind (arith, nat_tests)

byte_1 : (m : ℕ) → MaskBits m → fits_mask 1 (m / 256 % 256) ≡ true
byte_1 m bits = let even : m / 256 % 256 % 2 ≡ 0 = omega (arith, bits.kill) in grind (arith, nat_tests)

byte_2 : (m : ℕ) → MaskBits m → fits_mask 2 (m / 65536 % 256) ≡ true
byte_2 m bits = let clear : m / 65536 % 256 / 4 % 2 ≡ 0 = omega (arith, bits.stop) in grind (arith, nat_tests)

byte_3 : (m : ℕ) → MaskBits m → fits_mask 3 (m / 16777216 % 256) ≡ true
byte_3 m bits = let small : m / 16777216 % 256 < 128 = omega (arith, bits.below) in grind (arith, nat_tests)

owed_0 : (n : ℕ) → n ≤ 65535 → is_byte (n % 256) ≡ true
owed_0 n h = let small : n % 256 < 256 = omega arith in lt-ltb (n % 256) 256 small

owed_1 : (n : ℕ) → n ≤ 65535 → is_byte (n / 256 % 256) ≡ true
owed_1 n h = let small : n / 256 % 256 < 256 = omega arith in lt-ltb (n / 256 % 256) 256 small

owed_2 : (n : ℕ) → n ≤ 65535 → nat_eq (n / 65536 % 256) 0 ≡ true
owed_2 n h = let none : n / 65536 % 256 ≡ 0 = omega arith in eq-eqb (n / 65536 % 256) 0 none

owed_3 : (n : ℕ) → n ≤ 65535 → nat_eq (n / 16777216 % 256) 0 ≡ true
owed_3 n h = let none : n / 16777216 % 256 ≡ 0 = omega arith in eq-eqb (n / 16777216 % 256) 0 none

-- the bytes before the actions
abbrev fields_of : (mask owed : ℕ) (saved : Option ℕ) (actions : List Action) (bases : List ℕ)
    (children : List HeapChild) → HeapFields
fields_of mask owed saved actions bases children =
    record { mask = mask; saved = saved; owed = owed; actions = actions; bases = bases; children = children }

head_at : (mask owed : ℕ) (saved : Option ℕ) (actions : List Action) (bases : List ℕ) (children : List HeapChild)
    → (is_mask mask ≡ true) × (is_saved_mask saved ≡ true) × (owed ≤ 65535) → (i : ℕ) → i < 16
    → fits_at (heap_bytes (fields_of mask owed saved actions bases children)) i
    (byte_at (heap_bytes (fields_of mask owed saved actions bases children)) i) ≡ true
unfolding heap_bytes
head_at mask owed None actions bases children ok zero h = refl
head_at mask owed None actions bases children ok (suc zero) h = refl
head_at mask owed None actions bases children ok (suc (suc zero)) h = refl
head_at mask owed None actions bases children ok (suc (suc (suc zero))) h = refl
head_at mask owed None actions bases children ok (suc (suc (suc (suc zero)))) h = byte_0 mask (mask_bits mask ok.0)
head_at mask owed None actions bases children ok
    (suc (suc (suc (suc (suc zero))))) h =
    byte_1 mask (mask_bits mask ok.0)
head_at mask owed None actions bases children ok
    (suc (suc (suc (suc (suc (suc zero)))))) h =
    byte_2 mask (mask_bits mask ok.0)
head_at mask owed None actions bases children ok
    (suc (suc (suc (suc (suc (suc (suc zero))))))) h =
    byte_3 mask (mask_bits mask ok.0)
head_at mask owed None actions bases children ok (suc (suc (suc (suc (suc (suc (suc (suc zero)))))))) h = refl
head_at mask owed None actions bases children ok (suc (suc (suc (suc (suc (suc (suc (suc (suc zero))))))))) h = refl
head_at mask owed None actions bases children ok
    (suc (suc (suc (suc (suc (suc (suc (suc (suc (suc zero)))))))))) h =
    refl
head_at mask owed None actions bases children ok
    (suc (suc (suc (suc (suc (suc (suc (suc (suc (suc (suc zero))))))))))) h =
    refl
head_at mask owed None actions bases children ok
    (suc (suc (suc (suc (suc (suc (suc (suc (suc (suc (suc (suc zero)))))))))))) h =
    owed_0 owed ok.2
head_at mask owed None actions bases children ok
    (suc (suc (suc (suc (suc (suc (suc (suc (suc (suc (suc (suc (suc zero))))))))))))) h =
    owed_1 owed ok.2
head_at mask owed None actions bases children ok
    (suc (suc (suc (suc (suc (suc (suc (suc (suc (suc (suc (suc (suc (suc zero)))))))))))))) h =
    owed_2 owed ok.2
head_at mask owed None actions bases children ok
    (suc (suc (suc (suc (suc (suc (suc (suc (suc (suc (suc (suc (suc (suc (suc zero))))))))))))))) h =
    owed_3 owed ok.2
head_at mask owed None actions bases children ok
    (suc (suc (suc (suc (suc (suc (suc (suc (suc (suc (suc (suc (suc (suc (suc (suc n)))))))))))))))) h =
    absurd (omega arith)
head_at mask owed (Some m) actions bases children ok zero h = refl
head_at mask owed (Some m) actions bases children ok (suc zero) h = refl
head_at mask owed (Some m) actions bases children ok (suc (suc zero)) h = refl
head_at mask owed (Some m) actions bases children ok (suc (suc (suc zero))) h = refl
head_at mask owed (Some m) actions bases children ok (suc (suc (suc (suc zero)))) h = byte_0 mask (mask_bits mask ok.0)
head_at mask owed (Some m) actions bases children ok
    (suc (suc (suc (suc (suc zero))))) h =
    byte_1 mask (mask_bits mask ok.0)
head_at mask owed (Some m) actions bases children ok
    (suc (suc (suc (suc (suc (suc zero)))))) h =
    byte_2 mask (mask_bits mask ok.0)
head_at mask owed (Some m) actions bases children ok
    (suc (suc (suc (suc (suc (suc (suc zero))))))) h =
    byte_3 mask (mask_bits mask ok.0)
head_at mask owed (Some m) actions bases children ok
    (suc (suc (suc (suc (suc (suc (suc (suc zero)))))))) h =
    byte_0 m (mask_bits m ok.1)
head_at mask owed (Some m) actions bases children ok
    (suc (suc (suc (suc (suc (suc (suc (suc (suc zero))))))))) h =
    byte_1 m (mask_bits m ok.1)
head_at mask owed (Some m) actions bases children ok
    (suc (suc (suc (suc (suc (suc (suc (suc (suc (suc zero)))))))))) h =
    byte_2 m (mask_bits m ok.1)
head_at mask owed (Some m) actions bases children ok
    (suc (suc (suc (suc (suc (suc (suc (suc (suc (suc (suc zero))))))))))) h =
    byte_3 m (mask_bits m ok.1)
head_at mask owed (Some m) actions bases children ok
    (suc (suc (suc (suc (suc (suc (suc (suc (suc (suc (suc (suc zero)))))))))))) h =
    owed_0 owed ok.2
head_at mask owed (Some m) actions bases children ok
    (suc (suc (suc (suc (suc (suc (suc (suc (suc (suc (suc (suc (suc zero))))))))))))) h =
    owed_1 owed ok.2
head_at mask owed (Some m) actions bases children ok
    (suc (suc (suc (suc (suc (suc (suc (suc (suc (suc (suc (suc (suc (suc zero)))))))))))))) h =
    owed_2 owed ok.2
head_at mask owed (Some m) actions bases children ok
    (suc (suc (suc (suc (suc (suc (suc (suc (suc (suc (suc (suc (suc (suc (suc zero))))))))))))))) h =
    owed_3 owed ok.2
head_at mask owed (Some m) actions bases children ok
    (suc (suc (suc (suc (suc (suc (suc (suc (suc (suc (suc (suc (suc (suc (suc (suc n)))))))))))))))) h =
    absurd (omega arith)

pub head_fits : (h : HeapFields) → IsHeap h → (i : ℕ) → i < 16 → fits_at (heap_bytes h) i (byte_at (heap_bytes h) i)
    ≡ true
head_fits h legal = head_at h.mask h.owed h.saved h.actions h.bases h.children
    (legal.mask, legal.saved, leb-true h.owed 65535 legal.owed)
