-- Signal sets stay sets of signals, and masks stay without KILL and STOP.
use Rattle.std.specs.Prelude.{◌≡◌, ◌≢◌, ℕ, ◌-◌, ◌*◌, ◌^◌, ◌≤◌, Bool, true, false, not, ◌&&◌, nat_eq, nat_le, bit_and}
use Rattle.std.specs.Prelude.{bit_or}
use Rattle.std.specs.Int.{bit_at}
use Rattle.std.proofs.Common.{refl, sym, ap, ◌∙◌, arith, eqb-true, true≢false, leb-true}
use Rattle.std.proofs.lemmas.Bool.{cond_both}
use Rattle.std.proofs.lemmas.Nat.{and_le_l, and_le_r, or_lt, pow_below}
use Rattle.std.proofs.lemmas.Nat.Bits.{bit_at_and, bit_at_or, bit_at-pow_other, and_pow}
use Rattle.posix_spec.specs.Signals.{is_signal, only, contains, all_signals, outside, taken_by, generate, lost_by}
use Rattle.posix_spec.specs.Signals.{clean_mask, never_masked}
use Rattle.posix_spec.specs.WellFormed.{IsSignalSet, IsMask}

-- ---- both of two tests

pub first_of : (a b : Bool) → (a && b) ≡ true → a ≡ true
first_of true b e = refl
first_of false b e = e

pub second_of : (a b : Bool) → (a && b) ≡ true → b ≡ true
second_of true b e = e
second_of false b e = absurd (true≢false (sym e))

-- ---- sets of signals

pub outside-le : (set other : ℕ) → outside set other ≤ set
outside-le set other = and_le_l set (all_signals - bit_and other all_signals)

pub IsSignalSet-outside : (set other : ℕ) → IsSignalSet (outside set other)
IsSignalSet-outside set other = omega (arith, and_le_r set (all_signals - bit_and other all_signals))

pub IsSignalSet-or : (a b : ℕ) → IsSignalSet a → IsSignalSet b → IsSignalSet (bit_or a b)
IsSignalSet-or a b h k = or_lt 31 a b h k

pub IsSignalSet-and : (a b : ℕ) → IsSignalSet a → IsSignalSet (bit_and a b)
IsSignalSet-and a b h = omega (arith, and_le_l a b)

within : (s : ℕ) → is_signal s ≡ true → (1 ≤ s) × (s ≤ 31)
within s e = (
  leb-true 1 s (first_of (nat_le 1 s) (nat_le s 31) e),
  leb-true s 31
      (second_of (nat_le 1 s) (nat_le s 31) e),
)

pub IsSignalSet-only : (s : ℕ) → IsSignalSet (only s)
IsSignalSet-only s =
    cond_both (is_signal s) (2 ^ (s - 1)) 0 IsSignalSet
    (λ e. pow_below (s - 1) 31 (omega (arith, within s e)))
    (λ e. omega arith)

pub IsSignalSet-generate : (pending s : ℕ) → IsSignalSet (generate pending s)
IsSignalSet-generate pending s =
    IsSignalSet-or (outside pending (taken_by s)) (only s) (IsSignalSet-outside pending (taken_by s))
    (IsSignalSet-only s)

pub IsSignalSet-lost_by : (pending s : ℕ) → IsSignalSet pending → IsSignalSet (lost_by pending s)
IsSignalSet-lost_by pending s h = IsSignalSet-and pending (taken_by s) h

-- ---- masks

opposite : (b : Bool) → not b ≡ false → b ≡ true
opposite true e = refl
opposite false e = absurd (true≢false e)

-- signals 9 and 19 are bits 8 and 18
clear_kill : (m : ℕ) → contains m 9 ≡ false → bit_at m 8 ≡ 0
clear_kill m e =
    omega (arith, eqb-true (bit_and m 256) 0 (opposite (nat_eq (bit_and m 256) 0) e), and_pow m 8)

clear_stop : (m : ℕ) → contains m 19 ≡ false → bit_at m 18 ≡ 0
clear_stop m e =
    omega (arith, eqb-true (bit_and m 262144) 0 (opposite (nat_eq (bit_and m 262144) 0) e), and_pow m 18)

without_nine : (m : ℕ) → bit_at m 8 ≡ 0 → contains m 9 ≡ false
without_nine m e = ap (λ x. not (nat_eq x 0)) (and_pow m 8 ∙ ap (λ b. b * 256) e)

without_nineteen : (m : ℕ) → bit_at m 18 ≡ 0 → contains m 19 ≡ false
without_nineteen m e = ap (λ x. not (nat_eq x 0)) (and_pow m 18 ∙ ap (λ b. b * 262144) e)

mask_of : (m : ℕ) → IsSignalSet m → bit_at m 8 ≡ 0 → bit_at m 18 ≡ 0 → IsMask m
mask_of m h kill stop =
    record { signals = h; without_kill = without_nine m kill; without_stop = without_nineteen m stop }

pub IsMask-zero : IsMask 0
IsMask-zero = record { signals = omega arith; without_kill = refl; without_stop = refl }

pub IsMask-clean_mask : (bits : ℕ) → IsMask (clean_mask bits)
IsMask-clean_mask bits =
    mask_of (clean_mask bits) (IsSignalSet-outside bits never_masked)
    (let b = bit_at_and bits (all_signals - bit_and never_masked all_signals) 8 in omega (arith, b))
    (let b = bit_at_and bits (all_signals - bit_and never_masked all_signals) 18 in omega (arith, b))

pub IsMask-or : (a b : ℕ) → IsMask a → IsMask b → IsMask (bit_or a b)
IsMask-or a b h k =
    mask_of (bit_or a b) (IsSignalSet-or a b h.signals k.signals)
    (omega (arith, bit_at_or a b 8, clear_kill a h.without_kill, clear_kill b k.without_kill))
    (omega (arith, bit_at_or a b 18, clear_stop a h.without_stop, clear_stop b k.without_stop))

pub IsMask-outside : (a b : ℕ) → IsMask a → IsMask (outside a b)
IsMask-outside a b h =
    mask_of (outside a b) (IsSignalSet-outside a b)
    (omega (arith, bit_at_and a (all_signals - bit_and b all_signals) 8, clear_kill a h.without_kill))
    (omega (arith, bit_at_and a (all_signals - bit_and b all_signals) 18, clear_stop a h.without_stop))

pub IsMask-only : (s : ℕ) → s ≢ 9 → s ≢ 19 → IsMask (only s)
IsMask-only s a b =
    cond_both (is_signal s) (2 ^ (s - 1)) 0 IsMask
    (λ e. let l = within s e in mask_of (2 ^ (s - 1))
    (pow_below (s - 1) 31 (omega (arith, l.0, l.1)))
    (bit_at-pow_other (s - 1) 8 (λ e. a (omega (arith, l.0))))
    (bit_at-pow_other (s - 1) 18 (λ e. b (omega (arith, l.0)))))
    (λ e. IsMask-zero)
