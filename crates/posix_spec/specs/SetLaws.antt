-- Which signals are in a set that is made of others.
use Rattle.std.specs.Prelude.{◌≡◌, ℕ, zero, suc, ◌-◌, ◌*◌, ◌/◌, ◌^◌, ◌<◌, ◌≤◌, min, max, Bool, true, false, ◌&&◌}
use Rattle.std.specs.Prelude.{◌||◌, not, nat_eq, nat_le, if◌then◌else◌, bit_and, bit_or}
use Rattle.std.specs.Int.{bit_at}
use Rattle.std.specs.Int.Bits.{and_zero_r}
use Rattle.std.proofs.Common.{refl, sym, ap, ◌∙◌, arith, eqb-true, true≢false, leb-true, pow-suc, pow_pos}
use Rattle.std.proofs.lemmas.Nat.{and_le_r}
use Rattle.std.proofs.lemmas.Nat.Bits.{bit_at_lowest, bit_at-suc, bit_at_and, bit_at_or, bit_at_ones, and_pow}
use Rattle.std.proofs.lemmas.Nat.Bits.{bit_at-lt}
use Rattle.posix_spec.specs.Signals.{is_signal, only, contains, all_signals, outside}
use Rattle.posix_spec.specs.SignalLaws.{first_of, second_of}

-- ---- a signal's bit

pub signal_low : (s : ℕ) → is_signal s ≡ true → 1 ≤ s
signal_low s e = leb-true 1 s (first_of (nat_le 1 s) (nat_le s 31) e)

pub signal_high : (s : ℕ) → is_signal s ≡ true → s ≤ 31
signal_high s e = leb-true s 31 (second_of (nat_le 1 s) (nat_le s 31) e)

not_zero : (x : ℕ) → 0 < x → (b : Bool) → nat_eq x 0 ≡ b → not b ≡ true
not_zero x some true e = let z = eqb-true x 0 e in absurd (omega arith)
not_zero x some false e = refl

set_bit : (b n : ℕ) → b < 2 → 0 < n → not (nat_eq (b * n) 0) ≡ nat_eq b 1
set_bit zero n small some = let none : 0 * n ≡ 0 = omega arith in ap (λ x. not (nat_eq x 0)) none
set_bit (suc zero) n small some = not_zero (1 * n) (omega arith) (nat_eq (1 * n) 0) refl
set_bit (suc (suc b)) n small some = absurd (omega arith)

pub only-signal : (s : ℕ) (b : Bool) → is_signal s ≡ b → b ≡ true → only s ≡ 2 ^ (s - 1)
only-signal s true e h = ap (λ b. if b then 2 ^ (s - 1) else 0) e
only-signal s false e h = absurd (true≢false (sym h))

-- a signal is in a set where its bit is 1
pub contains-bit : (set s : ℕ) → is_signal s ≡ true → contains set s ≡ nat_eq (bit_at set (s - 1)) 1
contains-bit set s e =
    ap (λ x. not (nat_eq (bit_and set x) 0)) (only-signal s (is_signal s) refl e)
    ∙ ap (λ x. not (nat_eq x 0)) (and_pow set (s - 1))
    ∙ set_bit (bit_at set (s - 1)) (2 ^ (s - 1)) (bit_at-lt set (s - 1)) (pow_pos (s - 1))

contains_none_by : (set s : ℕ) (b : Bool) → is_signal s ≡ b → b ≡ false → contains set s ≡ false
contains_none_by set s true e h = absurd (true≢false h)
contains_none_by set s false e h =
    ap (λ b. not (nat_eq (bit_and set (if b then 2 ^ (s - 1) else 0)) 0)) e ∙ ap (λ x. not (nat_eq x 0))
    (and_zero_r set)

-- a number that is no signal is in none
pub contains-none : (set s : ℕ) → is_signal s ≡ false → contains set s ≡ false
contains-none set s e = contains_none_by set s (is_signal s) refl e

complement : (k n i : ℕ) → n < 2 ^ k → i < k → bit_at (2 ^ k - 1 - n) i ≡ 1 - bit_at n i
complement zero n i fits within = absurd (omega arith)
complement (suc k) n zero fits within =
    omega (arith, bit_at_lowest (2 ^ suc k - 1 - n), bit_at_lowest n, pow-suc 2 k)
complement (suc k) n (suc i) fits within =
    let half : (2 ^ suc k - 1 - n) / 2 ≡ 2 ^ k - 1 - n / 2 = omega (arith, pow-suc 2 k) in
    bit_at-suc (2 ^ suc k - 1 - n) i ∙ ap (λ x. bit_at x i) half
    ∙ complement k (n / 2) i (omega (arith, pow-suc 2 k)) (omega arith) ∙ ap (λ d. 1 - d) (sym (bit_at-suc n i))

-- ---- sets that are made of others

-- two bits, each 0 or 1
least_bit : (a b : ℕ) → a < 2 → b < 2 → nat_eq (min a b) 1 ≡ (nat_eq a 1 && nat_eq b 1)
least_bit zero b x y = let none : min 0 b ≡ 0 = omega arith in ap (λ n. nat_eq n 1) none
least_bit (suc zero) b x y = let same : min 1 b ≡ b = omega arith in ap (λ n. nat_eq n 1) same
least_bit (suc (suc a)) b x y = absurd (omega arith)

greatest_bit : (a b : ℕ) → a < 2 → b < 2 → nat_eq (max a b) 1 ≡ (nat_eq a 1 || nat_eq b 1)
greatest_bit zero b x y = let same : max 0 b ≡ b = omega arith in ap (λ n. nat_eq n 1) same
greatest_bit (suc zero) b x y = let one : max 1 b ≡ 1 = omega arith in ap (λ n. nat_eq n 1) one
greatest_bit (suc (suc a)) b x y = absurd (omega arith)

other_bit : (a : ℕ) → a < 2 → nat_eq (1 - a) 1 ≡ not (nat_eq a 1)
other_bit zero x = refl
other_bit (suc zero) x = refl
other_bit (suc (suc a)) x = absurd (omega arith)

no_signal_in : (b : Bool) → b ≡ false → false ≡ (b && false)
no_signal_in true e = refl
no_signal_in false e = refl

module _ (a b s : ℕ) where
  and_signal : (is : Bool) → is_signal s ≡ is → contains (bit_and a b) s ≡ (contains a s && contains b s)
  and_signal true e =
      contains-bit (bit_and a b) s e ∙ ap (λ n. nat_eq n 1) (bit_at_and a b (s - 1))
      ∙ least_bit (bit_at a (s - 1)) (bit_at b (s - 1)) (bit_at-lt a (s - 1)) (bit_at-lt b (s - 1))
      ∙ (λ i. sym (contains-bit a s e) i && sym (contains-bit b s e) i)
  and_signal false e = contains-none (bit_and a b) s e ∙ (λ i. sym (contains-none a s e) i && contains b s)

  pub contains-and : contains (bit_and a b) s ≡ (contains a s && contains b s)
  contains-and = and_signal (is_signal s) refl

  or_signal : (is : Bool) → is_signal s ≡ is → contains (bit_or a b) s ≡ (contains a s || contains b s)
  or_signal true e =
      contains-bit (bit_or a b) s e ∙ ap (λ n. nat_eq n 1) (bit_at_or a b (s - 1))
      ∙ greatest_bit (bit_at a (s - 1)) (bit_at b (s - 1)) (bit_at-lt a (s - 1)) (bit_at-lt b (s - 1))
      ∙ (λ i. sym (contains-bit a s e) i || sym (contains-bit b s e) i)
  or_signal false e =
      contains-none (bit_or a b) s e ∙ (λ i. sym (contains-none a s e) i || sym (contains-none b s e) i)

  pub contains-or : contains (bit_or a b) s ≡ (contains a s || contains b s)
  contains-or = or_signal (is_signal s) refl

and_true : (b : Bool) → (b && true) ≡ b
and_true true = refl
and_true false = refl

in_all : (b : Bool) (s : ℕ) → is_signal s ≡ true → (b && contains all_signals s) ≡ b
in_all b s e =
    let low = signal_low s e in let high = signal_high s e in
    ap (λ x. b && x) (contains-bit all_signals s e ∙ ap (λ n. nat_eq n 1) (bit_at_ones 31 (s - 1) (omega arith)))
    ∙ and_true b

not_in_all : (b s : ℕ) → is_signal s ≡ true → contains (all_signals - bit_and b all_signals) s ≡ not (contains b s)
not_in_all b s e =
    let small : bit_and b all_signals < 2 ^ 31 = omega (arith, and_le_r b all_signals) in
    let low = signal_low s e in let high = signal_high s e in
    contains-bit (all_signals - bit_and b all_signals) s e
    ∙ ap (λ n. nat_eq n 1) (complement 31 (bit_and b all_signals) (s - 1) small (omega arith))
    ∙ other_bit (bit_at (bit_and b all_signals) (s - 1)) (bit_at-lt (bit_and b all_signals) (s - 1))
    ∙ ap not (sym (contains-bit (bit_and b all_signals) s e) ∙ contains-and b all_signals s ∙ in_all (contains b s) s e)

module _ (a b s : ℕ) where
  outside_signal : (is : Bool) → is_signal s ≡ is → contains (outside a b) s ≡ (contains a s && not (contains b s))
  outside_signal true e =
      contains-and a (all_signals - bit_and b all_signals) s ∙ ap (λ x. contains a s && x) (not_in_all b s e)
  outside_signal false e =
      contains-none (outside a b) s e ∙ (λ i. sym (contains-none a s e) i && not (contains b s))

  pub contains-outside : contains (outside a b) s ≡ (contains a s && not (contains b s))
  contains-outside = outside_signal (is_signal s) refl
