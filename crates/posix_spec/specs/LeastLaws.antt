-- The set of one signal, sets with the same signals, and the least signal of a set.
use Rattle.std.specs.Prelude.{◌≡◌, ℕ, zero, suc, ◌+◌, ◌-◌, ◌^◌, ◌<◌, ◌≤◌, Bool, true, false, ◌&&◌, nat_eq, nat_lt}
use Rattle.std.specs.Prelude.{nat_le, if◌then◌else◌, Option, Some, None}
use Rattle.std.specs.Option.{unwrap_or}
use Rattle.std.specs.Int.{bit_at}
use Rattle.std.proofs.Common.{refl, sym, ap, subst, ◌∙◌, arith, eqb-true, false-eqb, eq-eqb, true≢false, le-leb}
use Rattle.std.proofs.Common.{ltb-true, ltb-false}
use Rattle.std.proofs.lemmas.Nat.Bits.{bit_at-pow_same, bit_at-pow_other, bit_at-lt, same_from_bits_below}
use Rattle.posix_spec.specs.Signals.{is_signal, only, contains, least_from, least}
use Rattle.posix_spec.specs.WellFormed.{IsSignalSet}
use Rattle.posix_spec.specs.DeathLaws.{contains_signal}
use Rattle.posix_spec.specs.SetLaws.{contains-bit, only-signal, signal_low, signal_high}
use Rattle.posix_spec.specs.CallLaws.{none_some}

-- ---- the set of one signal

only_by : (s t : ℕ) → is_signal s ≡ true → is_signal t ≡ true → (b : Bool) → nat_eq t s ≡ b → contains (only s) t ≡ b
only_by s t e f true same =
    let at : t ≡ s = eqb-true t s same in
    contains-bit (only s) t f ∙ ap (λ x. nat_eq (bit_at x (t - 1)) 1) (only-signal s (is_signal s) refl e)
    ∙ ap (λ x. nat_eq x 1) (ap (λ x. bit_at (2 ^ (s - 1)) (x - 1)) at ∙ bit_at-pow_same (s - 1))
only_by s t e f false other =
    let low = signal_low s e in let lower = signal_low t f in
    contains-bit (only s) t f ∙ ap (λ x. nat_eq (bit_at x (t - 1)) 1) (only-signal s (is_signal s) refl e)
    ∙ ap (λ x. nat_eq x 1) (bit_at-pow_other (s - 1) (t - 1) (λ same.
    let at : t ≡ s = omega arith in true≢false (sym (eq-eqb t s at) ∙ other)))

pub contains-only : (s t : ℕ) → is_signal s ≡ true → is_signal t ≡ true → contains (only s) t ≡ nat_eq t s
contains-only s t e f = only_by s t e f (nat_eq t s) refl

-- ---- sets with the same signals

bit_of : (b : ℕ) → b < 2 → (c : ℕ) → c < 2 → nat_eq b 1 ≡ nat_eq c 1 → b ≡ c
bit_of zero x zero y e = refl
bit_of zero x (suc zero) y e = absurd (true≢false (sym e))
bit_of zero x (suc (suc c)) y e = absurd (omega arith)
bit_of (suc zero) x zero y e = absurd (true≢false e)
bit_of (suc zero) x (suc zero) y e = refl
bit_of (suc zero) x (suc (suc c)) y e = absurd (omega arith)
bit_of (suc (suc b)) x c y e = absurd (omega arith)

both : (a b : Bool) → a ≡ true → b ≡ true → (a && b) ≡ true
both true b p q = q
both false b p q = p

signal_of_bit : (i : ℕ) → i < 31 → is_signal (i + 1) ≡ true
signal_of_bit i small = both (nat_le 1 (i + 1)) (nat_le (i + 1) 31) (le-leb 1 (i + 1) (omega arith))
    (le-leb (i + 1) 31 (omega arith))

pub same_signals : (a b : ℕ) → IsSignalSet a → IsSignalSet b →
    ((s : ℕ) → is_signal s ≡ true → contains a s ≡ contains b s) → a ≡ b
same_signals a b h k same =
    same_from_bits_below 31 a b h k (λ i small.
    let signal = signal_of_bit i small in
    let place : i + 1 - 1 ≡ i = omega arith in
    bit_of (bit_at a i) (bit_at-lt a i) (bit_at b i) (bit_at-lt b i)
    (ap (λ j. nat_eq (bit_at a j) 1) (sym place) ∙ sym (contains-bit a (i + 1) signal)
    ∙ same (i + 1) signal
    ∙ contains-bit b (i + 1) signal ∙ ap (λ j. nat_eq (bit_at b j) 1) place))

-- ---- the least signal

-- the least of the signals from one on, up to another
pub record IsLeastFrom (set low s : ℕ) : Type 0 where
  pub from : low ≤ s
  pub is_in : contains set s ≡ true
  pub none_before : (t : ℕ) → low ≤ t → t < s → contains set t ≡ false

before : (low set s : ℕ) → contains set low ≡ false → IsLeastFrom set (low + 1) s → (t : ℕ) → low ≤ t → t < s →
    (b : Bool) → nat_eq t low ≡ b → contains set t ≡ false
before low set s none rest t above below true same = ap (contains set) (eqb-true t low same) ∙ none
before low set s none rest t above below false other =
    let apart = false-eqb t low (sym other) in rest.none_before t (omega arith) below

least_from-is : (n low set s : ℕ) → least_from n low set ≡ Some s → IsLeastFrom set low s
least_from-is zero low set s e = absurd (none_some s e)
least_from-is (suc n) low set s e =
    elim (contains set low) as (λ b. contains set low ≡ b →
    (if b then Some low else least_from n (low + 1) set) ≡ Some s → IsLeastFrom set low s) [
      | true ↦ λ here is.
          let same : low ≡ s = ap (λ o. unwrap_or o low) is in
          subst (IsLeastFrom set low) same
          (record { from = omega arith; is_in = here; none_before = λ t above below. absurd (omega arith) })
      | false ↦ λ none later.
          let rest = least_from-is n (low + 1) set s later in
          record {
            from = omega (arith, rest.from);
            is_in = rest.is_in;
            none_before = λ t above below. before low set s none rest t above below (nat_eq t low) refl;
          }
    ] refl e

at_or_after : (low set t : ℕ) → contains set low ≡ false → low ≤ t → (low + 1 ≤ t → contains set t ≡ false) →
    (b : Bool) → nat_eq t low ≡ b → contains set t ≡ false
at_or_after low set t none above later true same = ap (contains set) (eqb-true t low same) ∙ none
at_or_after low set t none above later false other =
    let apart = false-eqb t low (sym other) in later (omega arith)

least_from-none : (n low set : ℕ) → least_from n low set ≡ None → (t : ℕ) → low ≤ t → t < low + n → contains set
    t ≡ false
least_from-none zero low set e t above below = absurd (omega arith)
least_from-none (suc n) low set e t above below =
    elim (contains set low) as (λ b. contains set low ≡ b →
    (if b then Some low else least_from n (low + 1) set) ≡ None → contains set t ≡ false) [
      | true ↦ λ here some. absurd (none_some low (sym some))
      | false ↦ λ none later.
          at_or_after low set t none above (λ more. least_from-none n (low + 1) set later t more (omega arith))
          (nat_eq t low) refl
    ] refl e

-- the least signal of a set
pub least-is : (set s : ℕ) → least set ≡ Some s → IsLeastFrom set 1 s
unfolding least
least-is set s e = least_from-is 31 1 set s e

pub least-signal : (set s : ℕ) → least set ≡ Some s → is_signal s ≡ true
least-signal set s e = contains_signal set s (least-is set s e).is_in

-- a set without a least signal has none
pub least-none : (set : ℕ) → least set ≡ None → (s : ℕ) → contains set s ≡ false
unfolding least
least-none set e s = nothing (contains set s) refl
  where
    nothing : (b : Bool) → contains set s ≡ b → b ≡ false
    nothing true is =
        let signal = contains_signal set s is in
        sym is ∙ least_from-none 31 1 set e s (signal_low s signal) (let high = signal_high s signal in omega arith)
    nothing false is = refl

least_here : (set s : ℕ) → contains set s ≡ true → ((t : ℕ) → t < s → contains set t ≡ false) → (o : Option ℕ) → least
    set ≡ o → o ≡ Some s
least_here set s is_in none None e = absurd (true≢false (sym is_in ∙ least-none set e s))
least_here set s is_in none (Some t) e = ap Some (same_least (nat_lt t s) (nat_lt s t) refl refl)
  where
    found : IsLeastFrom set 1 t
    found = least-is set t e

    same_least : (a b : Bool) → nat_lt t s ≡ a → nat_lt s t ≡ b → t ≡ s
    same_least true b low high = absurd (true≢false (sym found.is_in ∙ none t (ltb-true t s low)))
    same_least false true low high =
        absurd (true≢false (sym is_in ∙ found.none_before s (signal_low s (contains_signal set s is_in))
        (ltb-true s t high)))
    same_least false false low high =
        let x = ltb-false t s low in let y = ltb-false s t high in omega arith

-- a signal of the set that none is less than is the least
pub least-from : (set s : ℕ) → contains set s ≡ true → ((t : ℕ) → t < s → contains set t ≡ false) → least set ≡ Some s
least-from set s is_in none = least_here set s is_in none (least set) refl
