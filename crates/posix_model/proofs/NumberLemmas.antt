-- Lemmas of numbers.
use Rattle.std.proofs.Common.{◌≡◌, ℕ, ℤ, pos, negsuc, true, ap, eqb-true}
use Rattle.posix_spec.specs.Numbers.{is_number}

pub number_is : (v : ℤ) (n : ℕ) → is_number v n ≡ true → v ≡ pos n
number_is (pos a) n e = ap pos (eqb-true a n e)
number_is (negsuc a) n e = cc
