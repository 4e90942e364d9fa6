-- Lemmas of the calls that tell a process of itself.
use Rattle.std.proofs.Common.{◌≡◌, ℕ, ℤ, pos, true, false, cond, Some, None, ◌∙◌, ap}
use Rattle.w32_base.specs.declared.event.Field.{Field}
use Rattle.w32_base.specs.declared.instr.Instr.{Instr}
use Rattle.posix_spec.specs.Numbers.{is_number, is_optional_number}
use Rattle.posix_spec.specs.State.{Record, PosixState}
use Rattle.posix_spec.specs.Conditions.{answered}
use Rattle.posix_spec.specs.OwnSteps.{told, get_step}
use Rattle.posix_model.proofs.NumberLemmas.{number_is}

module _ (s : PosixState) (p : ℕ) (f : Field) (v : ℤ) (r : Record) (i : Instr) where
  pub get_some : (n : ℕ) → told s p r f i ≡ Some n → is_number v n ≡ true → get_step s p f v r i ≡ Some (answered s p
      (pos n))
  get_some n told_is same =
      ap (λ o. cond (is_optional_number v o) (Some (answered s p v)) None) told_is
      ∙ ap (λ b. cond b (Some (answered s p v)) None) same
      ∙ ap (λ z. Some (answered s p z)) (number_is v n same)

  pub get_none : told s p r f i ≡ None → get_step s p f v r i ≡ None
  get_none told_is = ap (λ o. cond (is_optional_number v o) (Some (answered s p v)) None) told_is

  pub get_other : (n : ℕ) → told s p r f i ≡ Some n → is_number v n ≡ false → get_step s p f v r i ≡ None
  get_other n told_is other =
      ap (λ o. cond (is_optional_number v o) (Some (answered s p v)) None) told_is
      ∙ ap (λ b. cond b (Some (answered s p v)) None) other
