-- A mask without KILL and STOP is the one that its bits name, so the look finds the signals that may act.
use Rattle.std.specs.Prelude.{◌≡◌, ◌≢◌, ℕ, zero, suc, ◌+◌, ◌-◌, Bool, true, false, ◌&&◌, ◌||◌, not, if◌then◌else◌}
use Rattle.std.specs.Prelude.{◌^◌, ◌≤◌, nat_eq, Some}
use Rattle.std.proofs.Common.{refl, sym, ap, ◌∙◌, inl, inr, arith}
use Rattle.std.proofs.lemmas.Bool.{cases_eq}
use Rattle.std.proofs.lemmas.Nat.Bits.{bit_at-pow_other}
use Rattle.posix_spec.specs.SetLaws.{signal_low, contains-bit, contains-none, contains-or, contains-outside}
use Rattle.posix_spec.specs.Signals.{is_signal, contains, outside, least_from, least, clean_mask, never_masked}
use Rattle.posix_spec.specs.WellFormed.{IsMask}

-- a signal that is neither KILL nor STOP isn't among them
other_signal : (bit s : ℕ) → (b : Bool) → is_signal s ≡ b → (1 ≤ s → s - 1 ≢ bit) → contains (2 ^ bit) s ≡ false
other_signal bit s true e other =
    contains-bit (2 ^ bit) s e ∙ ap (λ n. nat_eq n 1) (bit_at-pow_other bit (s - 1) (other (signal_low s e)))
other_signal bit s false e other = contains-none (2 ^ bit) s e

never-other : (s : ℕ) → s ≢ 9 → s ≢ 19 → contains never_masked s ≡ false
never-other s kill stop =
    contains-or (2 ^ 8) (2 ^ 18) s
    ∙ (λ i. other_signal 8 s (is_signal s) refl (λ low e. kill (omega (arith, low, e))) i
    || other_signal 18 s (is_signal s) refl (λ low e. stop (omega (arith, low, e))) i)

-- a set without these signals
without : (x y : Bool) → (y ≡ false) → (x && not y) ≡ x
without true y e = rw e refl
without false y e = refl

neither : (x y : Bool) → x ≡ false → (x && not y) ≡ x
neither x y e = rw e refl

clean-contains : (m s : ℕ) → IsMask m → contains (clean_mask m) s ≡ contains m s
clean-contains m s h = contains-outside m never_masked s ∙ by_signal
  where
    by_signal : (contains m s && not (contains never_masked s)) ≡ contains m s
    by_signal = elim (cases_eq s 9) [
      | inl kill ↦ neither (contains m s) (contains never_masked s) (ap (contains m) kill ∙ h.without_kill)
      | inr no_kill ↦ elim (cases_eq s 19) [
        | inl stop ↦ neither (contains m s) (contains never_masked s) (ap (contains m) stop ∙ h.without_stop)
        | inr no_stop ↦ without (contains m s) (contains never_masked s) (never-other s no_kill no_stop)
      ]
    ]

-- sets with the same signals have the same least one
same-least_from : (a b n s : ℕ) → ((k : ℕ) → contains a k ≡ contains b k) → least_from n s a ≡ least_from n s b
same-least_from a b zero s same = refl
same-least_from a b (suc n) s same =
    ap (λ c. if c then Some s else least_from n (s + 1) a) (same s)
    ∙ ap (λ o. if contains b s then Some s else o) (same-least_from a b n (s + 1) same)

-- the same signals may act outside the mask that the bits name
pub least-clean : (pending m : ℕ) → IsMask m → least (outside pending (clean_mask m)) ≡ least (outside pending m)
unfolding least
least-clean pending m h =
    same-least_from (outside pending (clean_mask m)) (outside pending m) 31 1 (λ k.
    contains-outside pending (clean_mask m) k ∙ (ap (λ b. contains pending k && not b) (clean-contains m k h)
    ∙ sym (contains-outside pending m k)))
