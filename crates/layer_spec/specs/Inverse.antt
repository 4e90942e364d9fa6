-- When a word and the record that it tells are each other's inverse.
use Rattle.std.specs.Prelude.{◌≡◌, ℕ, ◌↔◌, Bool, true, false, ◌&&◌, nat_eq, if◌then◌else◌, Option, Some, None}
use Rattle.std.proofs.Common.{refl, subst}
use Rattle.std.proofs.lemmas.Bool.{and_parts, and_from, eqb-true, eq-eqb}

-- A legal record's word tells that record; a word that tells a record is that record's, which is legal; and a word
-- tells none exactly where it is no legal record's.
pub record AreInverse {A : Type 0} (IsLegal : A → Type 0) (encode : A → ℕ) (decode : ℕ → Option A) : Type 0 where
  pub there : (a : A) → IsLegal a → decode (encode a) ≡ Some a
  pub back : (w : ℕ) (a : A) → decode w ≡ Some a → IsLegal a × (encode a ≡ w)
  pub none : (w : ℕ) → (decode w ≡ None) ↔ ((a : A) → IsLegal a → encode a ≡ w → ⊥)

-- the third follows from the first two
pub inverse_from : {A : Type 0} (IsLegal : A → Type 0) (encode : A → ℕ) (decode : ℕ → Option A)
    → ((a : A) → IsLegal a → decode (encode a) ≡ Some a)
    → ((w : ℕ) (a : A) → decode w ≡ Some a → IsLegal a × (encode a ≡ w))
    → AreInverse IsLegal encode decode
inverse_from {A} IsLegal encode decode there back = record {
  there = there;
  back = back;
  none = λ w. (none_is w, is_none w (decode w) (λ a e. back w a e));
}
  where
    none_is : (w : ℕ) → decode w ≡ None → (a : A) → IsLegal a → encode a ≡ w → ⊥
    none_is w n a legal e = let s : decode w ≡ Some a = subst (λ (v : ℕ). decode v ≡ Some a) e (there a legal) in cc

    is_none : (w : ℕ) (o : Option A) → ((a : A) → o ≡ Some a → IsLegal a × (encode a ≡ w))
        → ((a : A) → IsLegal a → encode a ≡ w → ⊥) → o ≡ None
    is_none w None told nothing = refl
    is_none w (Some a) told nothing = absurd (nothing a (told a refl).0 (told a refl).1)

-- what a test with none else answers
pub when_some : {A : Type 0} (b : Bool) (x y : A) → (if b then Some x else None) ≡ Some y → (b ≡ true) × (x ≡ y)
when_some true x y h = (refl, cc)
when_some false x y h = cc

-- a record that is tested and whose word is compared
pub told_at : {A : Type 0} (is_legal : A → Bool) (encode : A → ℕ) (w : ℕ) (a : A) → is_legal a ≡ true → encode a ≡ w
    → (if is_legal a && nat_eq (encode a) w then Some a else None) ≡ Some a
told_at is_legal encode w a legal e =
    rw (and_from (is_legal a) (nat_eq (encode a) w) legal (eq-eqb (encode a) w e)) refl

pub told_from : {A : Type 0} (is_legal : A → Bool) (encode : A → ℕ) (w : ℕ) (x a : A)
    → (if is_legal x && nat_eq (encode x) w then Some x else None) ≡ Some a → (is_legal a ≡ true) × (encode a ≡ w)
told_from {A} is_legal encode w x a h =
    let found = when_some (is_legal x && nat_eq (encode x) w) x a h in
    let both = and_parts (is_legal x) (nat_eq (encode x) w) found.0 in
    subst (λ (y : A). (is_legal y ≡ true) × (encode y ≡ w)) found.1 (both.0, eqb-true (encode x) w both.1)
