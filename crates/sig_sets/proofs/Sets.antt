-- Signals in sets, and the least one of a set.
use Rattle.std.proofs.Common.{◌≡◌, ℕ, zero, suc, ◌+◌, ◌-◌, ◌*◌, ◌^◌, ◌≤◌, ◌<◌, true, false, not, nat_eq, Some, None}
use Rattle.std.proofs.Common.{refl, sym, ◌∙◌, ap, arith, inl, inr, bit_and}
use Rattle.std.proofs.lemmas.Bool.{cases_eq, le-leb, and_from, and_parts, cond-true, cond-false, leb-true, eq-eqb}
use Rattle.std.proofs.lemmas.Bool.{ne_eqb, not_from_true, not_from_false}
use Rattle.std.proofs.lemmas.Nat.Bits.{and_pow, bit_at-trailing_zeros, bit_at_above}
use Rattle.std.proofs.Math.Pow.{pow-lt}
use Rattle.std.proofs.Math.Nat.{one-le-pow}
use Rattle.std.specs.Int.{bit_at, trailing_zeros, w32}
use Rattle.posix_spec.specs.Signals.{is_signal, only, contains, least_from, least}

pub is_signal-from : (s : ℕ) → 1 ≤ s → s ≤ 31 → is_signal s ≡ true
is_signal-from s low high = and_from _ _ (le-leb 1 s low) (le-leb s 31 high)

pub only-is : (s : ℕ) → is_signal s ≡ true → only s ≡ 2 ^ (s - 1)
only-is s h = cond-true (is_signal s) (2 ^ (s - 1)) 0 h

pub only-lt : (s : ℕ) → is_signal s ≡ true → only s < 2 ^ 31
only-lt s h =
    let parts = and_parts _ _ h in
    let high : s ≤ 31 = leb-true s 31 parts.1 in
    let low : 1 ≤ s = leb-true 1 s parts.0 in
    let less : s - 1 < 31 = omega arith in
    rw (only-is s h) (pow-lt less)

contains-at : (set k b : ℕ) → k < 31 → bit_at set k ≡ b → contains set (suc k) ≡ not (nat_eq (b * 2 ^ k) 0)
contains-at set k b l e =
    let less : suc k - 1 ≡ k = omega arith in
    let one : only (suc k) ≡ 2 ^ k = only-is (suc k) (is_signal-from (suc k) (omega arith) (omega arith)) ∙
    ap (λ n. 2 ^ n) less in
    let bit : bit_and set (only (suc k)) ≡ b * 2 ^ k = ap (bit_and set) one ∙ and_pow set k ∙ ap (λ x. x * 2 ^ k) e in
    ap (λ n. not (nat_eq n 0)) bit

-- of the next n signals none, or the lowest
pub least_from-none : (n s set : ℕ) → ((k : ℕ) → s ≤ k → k < s + n → contains set k ≡ false) → least_from n s set ≡ None
least_from-none zero s set h = refl
least_from-none (suc n) s set h =
    cond-false (contains set s) (Some s) (least_from n (s + 1) set) (h s (omega arith) (omega arith))
    ∙ least_from-none n (s + 1) set (λ k l m. h k (omega arith) (omega arith))

pub least_from-some : (n s set t : ℕ) → s ≤ t → t < s + n → contains set t ≡ true
    → ((k : ℕ) → s ≤ k → k < t → contains set k ≡ false) →
    least_from n s set ≡ Some t
least_from-some zero s set t low high is lower = absurd (omega arith)
least_from-some (suc n) s set t low high is lower =
    elim (cases_eq s t) [
      | inl e ↦ rw e (cond-true (contains set t) (Some t) (least_from n (t + 1) set) is)
      | inr other ↦
          cond-false (contains set s) (Some s) (least_from n (s + 1) set) (lower s (omega arith) (omega arith))
          ∙ least_from-some n (s + 1) set t (omega arith) (omega arith) is (λ k l m. lower k (omega arith) m)
    ]

-- the empty set has no least signal, and another has the one of its lowest bit
pub least-empty : least 0 ≡ None
unfolding least
least-empty = least_from-none 31 1 0 (λ k l m. refl)

set_at : (set k : ℕ) → k < 31 → bit_at set k ≡ 1 → contains set (suc k) ≡ true
set_at set k l e =
    let positive : 0 < 1 * 2 ^ k = omega (arith, one-le-pow k 2 (omega arith)) in
    contains-at set k 1 l e ∙ not_from_false (nat_eq (1 * 2 ^ k) 0) (ne_eqb (1 * 2 ^ k) 0 (λ z. omega arith))

clear_at : (set k : ℕ) → k < 31 → bit_at set k ≡ 0 → contains set (suc k) ≡ false
clear_at set k l e =
    contains-at set k 0 l e ∙ not_from_true (nat_eq (0 * 2 ^ k) 0) (eq-eqb (0 * 2 ^ k) 0 (omega arith))

clear_below : (set t : ℕ) → t < 31 → ((i : ℕ) → i < t → bit_at set i ≡ 0) → (k : ℕ) → 1 ≤ k → k < t + 1
    → contains set k ≡ false
clear_below set t l h zero low high = absurd (omega arith)
clear_below set t l h (suc k) low high = clear_at set k (omega arith) (h k (omega arith))

least-at : (set t : ℕ) → t < 31 → bit_at set t ≡ 1 → ((i : ℕ) → i < t → bit_at set i ≡ 0)
    → least_from 31 1 set ≡ Some (t + 1)
least-at set t l one lower =
    let next : suc t ≡ t + 1 = omega arith in
    least_from-some 31 1 set (t + 1) (omega arith) (omega arith) (ap (contains set) (sym next) ∙ set_at set t l one)
    (clear_below set t l lower)

below_31 : (set : ℕ) → set < 2 ^ 31 → (t : ℕ) → t < 32 → bit_at set t ≡ 1 → t < 31
below_31 set fits t l one =
    elim (cases_eq t 31) [
      | inl e ↦ let high : bit_at set 31 ≡ 0 = bit_at_above set 31 31 fits (omega arith) in
          absurd (omega (arith, high, one, rw e at one))
      | inr other ↦ omega arith
    ]

pub least-lowest : (set : ℕ) → 0 < set → set < 2 ^ 31 → least set ≡ Some (trailing_zeros w32 set + 1)
unfolding least
least-lowest set some fits =
    let lowest = bit_at-trailing_zeros w32 set some (omega arith) in
    least-at set (trailing_zeros w32 set)
    (below_31 set fits (trailing_zeros w32 set) lowest.0 lowest.1) lowest.1 lowest.2
