-- Numbers that were compared.
use Rattle.std.proofs.Common.{◌≡◌, ◌≢◌, ℕ, Bool, true, false, not, nat_eq, Option, Some, None, IsSome, refl, ap}
use Rattle.std.proofs.lemmas.Bool.{eqb-true}
use Rattle.std.specs.Option.{option_eq}
use Rattle.win32_spec.specs.LookupLaws.{same}

-- a number that was compared
is-number : (o : Option ℕ) (w : ℕ) → option_eq nat_eq o (Some w) ≡ true → o ≡ Some w
is-number None w e = absurd (cc)
is-number (Some v) w e = ap (λ n. Some n) (eqb-true v w e)

is-other : (o : Option ℕ) (w : ℕ) → option_eq nat_eq o (Some w) ≡ false → o ≢ Some w
is-other o w e f =
    let s = same w w refl in
    let g : option_eq nat_eq o (Some w) ≡ true = rw f s in absurd (cc)

pub is-alike : (o : Option ℕ) (w : ℕ) → not (option_eq nat_eq o (Some w)) ≡ false → o ≡ Some w
is-alike o w e = is-number o w (by_test (option_eq nat_eq o (Some w)) e)
  where
    by_test : (b : Bool) → not b ≡ false → b ≡ true
    by_test true f = refl
    by_test false f = absurd (cc)

pub is-unlike : (o : Option ℕ) (w : ℕ) → not (option_eq nat_eq o (Some w)) ≡ true → o ≢ Some w
is-unlike o w e = is-other o w (by_test (option_eq nat_eq o (Some w)) e)
  where
    by_test : (b : Bool) → not b ≡ true → b ≡ false
    by_test true f = absurd (cc)
    by_test false f = refl

pub some_there : {X : Type 0} {o : Option X} {x : X} → o ≡ Some x → IsSome o
some_there e = rw e refl
