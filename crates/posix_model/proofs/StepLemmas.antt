-- Lemmas of steps that ask for a value or a test.
use Rattle.std.proofs.Common.{◌≡◌, Bool, true, false, cond, Option, Some, None, sym, ◌∙◌, ap, subst}
use Rattle.std.proofs.lemmas.Option.{same_Some}
use Rattle.posix_spec.specs.Numbers.{for_value}

module _ {A B : Type 0} (o : Option A) (next : A → Option B) where
  pub value_some : (x : A) → o ≡ Some x → for_value o next ≡ next x
  value_some x e = ap (λ v. for_value v next) e

  pub value_none : o ≡ None → for_value o next ≡ None
  value_none e = ap (λ v. for_value v next) e

module _ {B : Type 0} (b : Bool) (x : B) where
  pub test_true : b ≡ true → cond b (Some x) None ≡ Some x
  test_true e = ap (λ t. cond t (Some x) None) e

  pub test_false : b ≡ false → cond b (Some x) None ≡ None
  test_false e = ap (λ t. cond t (Some x) None) e

-- what holds of the one value that is there
pub same_there : {A : Type 0} (P : A → Type 0) (o : Option A) (x y : A) → o ≡ Some x → o ≡ Some y → P x → P y
same_there P o x y e f h = subst P (same_Some x y (sym e ∙ f)) h
