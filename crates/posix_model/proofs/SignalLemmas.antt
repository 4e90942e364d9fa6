-- Lemmas of signal sets.
use Rattle.std.proofs.Common.{◌≡◌, ℕ, ◌<◌, ◌≤◌, sym, ◌∙◌, Option, Some, None, IfSome}
use Rattle.std.proofs.lemmas.Nat.{and_mask}
use Rattle.std.proofs.Math.Nat.{mod-eq_of_lt}
use Rattle.posix_spec.specs.Signals.{outside, least}
use Rattle.posix_spec.specs.LeastLaws.{least-signal}
use Rattle.posix_spec.specs.SetLaws.{signal_low, signal_high}

pub outside_none : (set : ℕ) → set < 2147483648 → outside set 0 ≡ set
outside_none set h = and_mask set 31 ∙ mod-eq_of_lt h

pub least_range : (set : ℕ) (o : Option ℕ) → o ≡ least set → IfSome o (λ s. (1 ≤ s) × (s ≤ 31))
least_range set None e = tt
least_range set (Some s) e = let is = least-signal set s (sym e) in (signal_low s is, signal_high s is)
