-- The canonical form of a number is its decimal form.
use Rattle.std.proofs.Common.{length, get_or, drop, ◌≡◌, ℕ, suc, ◌+◌, ◌-◌, ◌*◌, ◌/◌, ◌%◌, ◌^◌, ◌<◌, ◌≤◌, Bool}
use Rattle.std.proofs.Common.{true, false, ◌&&◌, ◌||◌, not, nat_eq, nat_le, List, [], ◌∷◌, ◌++◌, Some, None}
use Rattle.std.proofs.Common.{refl, sym, ap, ◌∙◌, append_assoc, arith, inl, inr, ◌⊎◌}
use Rattle.std.specs.Prelude.{ℤ, pos, negsuc}
use Rattle.std.specs.Fmt.{decimal, signed_decimal}
use Rattle.std.specs.List.{list_all}
use Rattle.std.proofs.lemmas.Bool.{and_parts, leb-true, le-ltb, cases_lt, lt-ltb, not-true, eqb-false, ne_eqb}
use Rattle.std.proofs.lemmas.List.{append-nil}
use Rattle.std.proofs.lemmas.Fmt.{decimal_digit, decimal_step}
use Rattle.script_spec.specs.Numbers.{is_digit, is_empty, is_canonical, value_from, value_of}
use Rattle.script_spec.specs.Fields.{signed_fault}
use Rattle.cyg_script.specs.Values.{in_64_bits, positive_fault}

pub grows : (n : ℕ) (ds : List ℕ) → n ≤ value_from n ds
grows n [] = omega arith
grows n (d ∷ ds) = let h : n * 10 + (d - 48) ≤ value_from (n * 10 + (d - 48)) ds = grows (n * 10 + (d - 48)) ds in
    omega (arith, h)

-- a number that takes more than 64 bits does so with more digits
pub too_large : (m : ℕ) (ds : List ℕ) → None ≡ in_64_bits m → None ≡ in_64_bits (value_from m ds)
too_large m ds e =
    elim (cases_lt m (2 ^ 64)) [
      | inl less ↦ absurd (let f : None ≡ Some m = e ∙ rw (lt-ltb m (2 ^ 64) less) refl in cc)
      | inr more ↦
          let h : m ≤ value_from m ds = grows m ds in
          let big : 2 ^ 64 ≤ value_from m ds = omega (arith, h, more) in
          rw (le-ltb (value_from m ds) (2 ^ 64) big) refl
    ]

-- what takes at most 64 bits is below 2 ^ 64
pub fits_below : (m n : ℕ) → Some n ≡ in_64_bits m → (m ≡ n) × (m < 2 ^ 64)
fits_below m n e =
    elim (cases_lt m (2 ^ 64)) [
      | inl less ↦ (let f : Some n ≡ Some m = e ∙ rw (lt-ltb m (2 ^ 64) less) refl in cc, less)
      | inr more ↦ absurd (let f : Some n ≡ None = e ∙ rw (le-ltb m (2 ^ 64) more) refl in cc)
    ]

pub none_above : (m : ℕ) → None ≡ in_64_bits m → 2 ^ 64 ≤ m
none_above m e =
    elim (cases_lt m (2 ^ 64)) [
      | inl less ↦ absurd (let f : None ≡ Some m = e ∙ rw (lt-ltb m (2 ^ 64) less) refl in cc)
      | inr more ↦ more
    ]

digit_within : (b : ℕ) → is_digit b ≡ true → (48 ≤ b) × (b ≤ 57)
digit_within b e = let h = and_parts (nat_le 48 b) (nat_le b 57) e in (leb-true 48 b h.0, leb-true b 57 h.1)

step_back : (n b : ℕ) → 0 < n → n * 10 + (b - 48) < 2 ^ 64 → (48 ≤ b) × (b ≤ 57) → decimal (n * 10 + (b - 48))
    ≡ decimal n ++ b ∷ []
step_back n b p lt h =
    let m : ℕ = n * 10 + (b - 48) in
    let front : m / 10 ≡ n = omega arith in
    let last : 48 + m % 10 ≡ b = omega arith in
    decimal_step m (omega arith) lt ∙ rw (front, last) refl

digits_are : (n : ℕ) (ds : List ℕ) → 0 < n → list_all is_digit ds ≡ true → value_from n ds < 2 ^ 64
    → decimal (value_from n ds) ≡ decimal n ++ ds
digits_are n [] p e lt = sym (append-nil (decimal n))
digits_are n (b ∷ bs) p e lt =
    let parts = and_parts (is_digit b) (list_all is_digit bs) e in
    let within : (48 ≤ b) × (b ≤ 57) = digit_within b parts.0 in
    let g : n * 10 + (b - 48) ≤ value_from (n * 10 + (b - 48)) bs = grows (n * 10 + (b - 48)) bs in
    digits_are (n * 10 + (b - 48)) bs (omega arith) parts.1 lt
    ∙ ap (λ (t : List ℕ). t ++ bs) (step_back n b p (omega (arith, g, lt)) within)
    ∙ append_assoc (decimal n) (b ∷ []) bs

one_digit : (b : ℕ) → is_digit b ≡ true → decimal (0 * 10 + (b - 48)) ≡ b ∷ []
one_digit b e =
    let within : (48 ≤ b) × (b ≤ 57) = digit_within b e in
    let small : 0 * 10 + (b - 48) < 10 = omega arith in
    let back : 48 + (0 * 10 + (b - 48)) ≡ b = omega arith in
    decimal_digit (0 * 10 + (b - 48)) small ∙ ap (λ (c : ℕ). c ∷ []) back

more_digits : (b : ℕ) (bs : List ℕ) → is_digit b ≡ true → list_all is_digit bs ≡ true → (b ≡ 48 → ⊥)
    → value_of (b ∷ bs) < 2 ^ 64 → b ∷ bs ≡ decimal (value_of (b ∷ bs))
more_digits b bs d e ne lt =
    let within : (48 ≤ b) × (b ≤ 57) = digit_within b d in
    let some : 0 < 0 * 10 + (b - 48) = omega (arith, ne, within) in
    sym (digits_are (0 * 10 + (b - 48)) bs some e lt ∙ ap (λ (t : List ℕ). t ++ bs) (one_digit b d))

no_zero : (b : ℕ) (bs : List ℕ) → (is_empty bs || not (nat_eq b 48)) ≡ true → (bs ≡ []) ⊎ (b ≡ 48 → ⊥)
no_zero b [] e = inl refl
no_zero b (c ∷ bs) e = inr (eqb-false b 48 (not-true (nat_eq b 48) e))

-- the canonical form of a number of 64 bits is its decimal form
pub canonical_decimal : (w : List ℕ) → is_canonical w ≡ true → value_of w < 2 ^ 64 → w ≡ decimal (value_of w)
canonical_decimal [] e lt = absurd cc
canonical_decimal (b ∷ bs) e lt =
    let parts = and_parts (list_all is_digit (b ∷ bs)) (is_empty bs || not (nat_eq b 48)) e in
    let digits = and_parts (is_digit b) (list_all is_digit bs) parts.0 in
    elim (no_zero b bs parts.1) [
      | inl alone ↦ rw alone (sym (one_digit b digits.0))
      | inr ne ↦ more_digits b bs digits.0 digits.1 ne lt
    ]

pub first_large : (n : ℕ) (ds : List ℕ) → 1 ≤ length ds → None ≡ in_64_bits (n * 10 + (get_or ds 0 0 - 48)) → None
    ≡ in_64_bits (value_from n ds)
first_large n [] h e = absurd (omega arith)
first_large n (d ∷ ds) h e = too_large (n * 10 + (d - 48)) ds e

-- what a word with a canonical form of 64 bits spells
pub spelled : (w : List ℕ) (n : ℕ) → is_canonical w ≡ true → Some n ≡ in_64_bits (value_of w) → w ≡ decimal n
spelled w n e h = let f = fits_below (value_of w) n h in canonical_decimal w e f.1 ∙ ap decimal f.0

pub minus_spelled : (w : List ℕ) (n : ℕ) (z : ℤ) → is_canonical w ≡ true → Some n ≡ in_64_bits (value_of w) → 1 ≤ n
    → z ≡ negsuc (n - 1) → 45 ∷ w ≡ signed_decimal z
minus_spelled w n z e h some is =
    let back : suc (n - 1) ≡ n = omega arith in
    rw (is, back) (ap (λ (ds : List ℕ). 45 ∷ ds) (spelled w n e h))

pub plus_spelled : (w : List ℕ) (n : ℕ) (z : ℤ) → is_canonical w ≡ true → Some n ≡ in_64_bits (value_of w) → z
    ≡ pos n → w ≡ signed_decimal z
plus_spelled w n z e h is = rw is (spelled w n e h)

and_true : (t : Bool) → (t && true) ≡ t
and_true true = refl
and_true false = refl

-- a word that doesn't begin with a minus sign
pub unsigned_fault : (w : List ℕ) → 1 ≤ length w → (get_or w 0 0 ≡ 45 → ⊥) → positive_fault w ≡ signed_fault w
unsigned_fault [] some ne = absurd (omega arith)
unsigned_fault (b ∷ bs) some ne = rw (ne_eqb b 45 ne, and_true (is_canonical (b ∷ bs))) refl

-- and one that does
pub minus_fault : (w : List ℕ) → 1 ≤ length w → get_or w 0 0 ≡ 45 → signed_fault (45 ∷ drop 1 w) ≡ signed_fault w
minus_fault [] some e = absurd (omega arith)
minus_fault (b ∷ bs) some e = let h : b ≡ 45 = e in rw h refl
