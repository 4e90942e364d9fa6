-- A word without a fault is the text of what it spells.
use Rattle.std.proofs.Common.{◌≡◌, ℕ, suc, ◌+◌, ◌-◌, ◌*◌, ◌/◌, ◌%◌, ◌^◌, ◌<◌, ◌≤◌, Bool, true, false, ◌&&◌, ◌||◌, not}
use Rattle.std.proofs.Common.{nat_eq, nat_le, nat_lt, List, [], ◌∷◌, ◌++◌, Some, None, refl, sym, ap, ◌∙◌}
use Rattle.std.proofs.Common.{append_assoc, arith, inl, inr, ◌⊎◌}
use Rattle.std.specs.Prelude.{if◌then◌else◌}
use Rattle.std.specs.Fmt.{decimal, signed_decimal}
use Rattle.std.specs.List.{list_all}
use Rattle.std.proofs.lemmas.Bool.{and_parts, or_cases, or_parts, cases_Bool, leb-true, le-leb, lt-ltb, le-ltb}
use Rattle.std.proofs.lemmas.Bool.{ltb-false, not-true, not-false, eqb-true, eqb-false}
use Rattle.std.proofs.lemmas.List.{append-nil}
use Rattle.std.proofs.lemmas.Fmt.{decimal_digit, decimal_step}
use Rattle.w32_base.specs.Name.{is_name}
use Rattle.script_spec.specs.declared.fault.Kind.{Kind}
use Rattle.script_spec.specs.declared.fault.Kind.TheVariants.{Words, BadNumber, Range, BadName}
use Rattle.script_spec.specs.Faults.{fault_if}
use Rattle.script_spec.specs.Numbers.{is_digit, is_empty, is_canonical, value_from, value_of, without_sign, has_sign}
use Rattle.script_spec.specs.Numbers.{is_signed_canonical, is_in_32_bits, is_hexadecimal, is_key_byte, is_register}
use Rattle.script_spec.specs.Numbers.{begins_with_r}
use Rattle.script_spec.specs.Fields.{number_fault, signed_fault, value_fault, name_fault}
use Rattle.script_spec.specs.InstrText.{register_text, operand_text}
use Rattle.script_spec.specs.Print.{hexadecimal_digit, key_text}
use Rattle.script_spec.specs.Validity.{is_32_bits, is_valid_operand}
use Rattle.script_spec.specs.Spelled.{register_in, signed_in, operand_in, digit_in, key_in}

grows : (n : ℕ) (ds : List ℕ) → n ≤ value_from n ds
grows n [] = omega arith
grows n (d ∷ ds) = let h : n * 10 + (d - 48) ≤ value_from (n * 10 + (d - 48)) ds = grows (n * 10 + (d - 48)) ds in
    omega (arith, h)

digit_within : (b : ℕ) → is_digit b ≡ true → (48 ≤ b) × (b ≤ 57)
digit_within b e = let h = and_parts (nat_le 48 b) (nat_le b 57) e in (leb-true 48 b h.0, leb-true b 57 h.1)

step_back : (n b : ℕ) → 0 < n → n * 10 + (b - 48) < 2 ^ 64 → (48 ≤ b) × (b ≤ 57) → decimal (n * 10 + (b - 48))
    ≡ decimal n ++ b ∷ []
step_back n b p lt h =
    let m : ℕ = n * 10 + (b - 48) in
    let front : m / 10 ≡ n = omega arith in
    let last : 48 + m % 10 ≡ b = omega arith in
    decimal_step m (omega arith) lt ∙ rw (front, last) refl

digits_are : (n : ℕ) (ds : List ℕ) → 0 < n → list_all is_digit ds ≡ true → value_from n ds < 2 ^ 64
    → decimal (value_from n ds) ≡ decimal n ++ ds
digits_are n [] p e lt = sym (append-nil (decimal n))
digits_are n (b ∷ bs) p e lt =
    let parts = and_parts (is_digit b) (list_all is_digit bs) e in
    let within : (48 ≤ b) × (b ≤ 57) = digit_within b parts.0 in
    let g : n * 10 + (b - 48) ≤ value_from (n * 10 + (b - 48)) bs = grows (n * 10 + (b - 48)) bs in
    digits_are (n * 10 + (b - 48)) bs (omega arith) parts.1 lt
    ∙ ap (λ (t : List ℕ). t ++ bs) (step_back n b p (omega (arith, g, lt)) within)
    ∙ append_assoc (decimal n) (b ∷ []) bs

one_digit : (b : ℕ) → is_digit b ≡ true → decimal (0 * 10 + (b - 48)) ≡ b ∷ []
one_digit b e =
    let within : (48 ≤ b) × (b ≤ 57) = digit_within b e in
    let small : 0 * 10 + (b - 48) < 10 = omega arith in
    let back : 48 + (0 * 10 + (b - 48)) ≡ b = omega arith in
    decimal_digit (0 * 10 + (b - 48)) small ∙ ap (λ (c : ℕ). c ∷ []) back

more_digits : (b : ℕ) (bs : List ℕ) → is_digit b ≡ true → list_all is_digit bs ≡ true → (b ≡ 48 → ⊥)
    → value_of (b ∷ bs) < 2 ^ 64 → b ∷ bs ≡ decimal (value_of (b ∷ bs))
more_digits b bs d e ne lt =
    let within : (48 ≤ b) × (b ≤ 57) = digit_within b d in
    let some : 0 < 0 * 10 + (b - 48) = omega (arith, ne, within) in
    sym (digits_are (0 * 10 + (b - 48)) bs some e lt ∙ ap (λ (t : List ℕ). t ++ bs) (one_digit b d))

no_zero : (b : ℕ) (bs : List ℕ) → (is_empty bs || not (nat_eq b 48)) ≡ true → (bs ≡ []) ⊎ (b ≡ 48 → ⊥)
no_zero b [] e = inl refl
no_zero b (c ∷ bs) e = inr (eqb-false b 48 (not-true (nat_eq b 48) e))

-- the canonical form of a number of 64 bits is its decimal form
pub canonical_decimal : (w : List ℕ) → is_canonical w ≡ true → value_of w < 2 ^ 64 → w ≡ decimal (value_of w)
canonical_decimal [] e lt = absurd cc
canonical_decimal (b ∷ bs) e lt =
    let parts = and_parts (list_all is_digit (b ∷ bs)) (is_empty bs || not (nat_eq b 48)) e in
    let digits = and_parts (is_digit b) (list_all is_digit bs) parts.0 in
    elim (no_zero b bs parts.1) [
      | inl alone ↦ rw alone (sym (one_digit b digits.0))
      | inr ne ↦ more_digits b bs digits.0 digits.1 ne lt
    ]

-- where none of three tests finds a fault
no_test : (a b c : Bool) → (if a then Some Words else (if not b then Some BadNumber else fault_if c Range)) ≡ None
    → (a ≡ false) × (b ≡ true) × (c ≡ false)
no_test true b c h = absurd cc
no_test false false c h = absurd cc
no_test false true true h = absurd cc
no_test false true false h = (refl, refl, refl)

pub no_fault_if : (b : Bool) (k : Kind) → fault_if b k ≡ None → b ≡ false
no_fault_if true k h = absurd cc
no_fault_if false k h = refl

-- a number within bounds
pub record IsNumber (low high : ℕ) (w : List ℕ) : Type 0 where
  pub text : decimal (value_of w) ≡ w
  pub from : low ≤ value_of w
  pub to : value_of w ≤ high

pub number_spelled : (low high : ℕ) (w : List ℕ) → high < 2 ^ 64 → number_fault low high w ≡ None → IsNumber low high w
number_spelled low high w small h =
    let t = no_test (is_empty w) (is_canonical w) (nat_lt (value_of w) low || nat_lt high (value_of w)) h in
    let p = or_parts (nat_lt (value_of w) low) (nat_lt high (value_of w)) t.2 in
    let from : low ≤ value_of w = ltb-false (value_of w) low p.0 in
    let to : value_of w ≤ high = ltb-false high (value_of w) p.1 in
    record { text = sym (canonical_decimal w t.1 (omega arith)); from = from; to = to }

-- a number that may be negative
pub record IsSigned (w : List ℕ) : Type 0 where
  pub text : signed_decimal (signed_in w) ≡ w
  pub valid : is_32_bits (signed_in w) ≡ true

signed_parts : (w : List ℕ) → signed_fault w ≡ None
    → (is_canonical (without_sign w) ≡ true)
    × (not (has_sign w && nat_eq (value_of (without_sign w)) 0) ≡ true) × (is_in_32_bits w ≡ true)
signed_parts w h =
    let t = no_test (is_empty w) (is_signed_canonical w) (not (is_in_32_bits w)) h in
    let p = and_parts (is_canonical (without_sign w)) (not (has_sign w && nat_eq (value_of (without_sign w)) 0)) t.1 in
    (p.0, p.1, not-false (is_in_32_bits w) t.2)

pub signed_spelled : (w : List ℕ) → signed_fault w ≡ None → IsSigned w
signed_spelled [] h = absurd cc
signed_spelled (b ∷ bs) h =
    let p = signed_parts (b ∷ bs) h in
    elim (cases_Bool (nat_eq b 45)) [
      | inl t ↦
          let is : b ≡ 45 = eqb-true b 45 t in
          let canonical : is_canonical bs ≡ true = rw t at p.0 in
          let some : not (nat_eq (value_of bs) 0) ≡ true = rw t at p.1 in
          let few : value_of bs ≤ 2147483648 = leb-true (value_of bs) 2147483648 (rw t at p.2) in
          let positive : value_of bs ≡ 0 → ⊥ = eqb-false (value_of bs) 0 (not-true (nat_eq (value_of bs) 0) some) in
          let back : suc (value_of bs - 1) ≡ value_of bs = omega (arith, positive) in
          let text : decimal (value_of bs) ≡ bs = sym (canonical_decimal bs canonical (omega arith)) in
          record {
            text = rw t (rw (back, text, is) refl);
            valid = rw t (le-leb (value_of bs - 1) 2147483647 (omega (arith, few)));
          }
      | inr t ↦
          let canonical : is_canonical (b ∷ bs) ≡ true = rw t at p.0 in
          let few : value_of (b ∷ bs) ≤ 2147483647 = leb-true (value_of (b ∷ bs)) 2147483647 (rw t at p.2) in
          record {
            text = rw t (sym (canonical_decimal (b ∷ bs) canonical (omega (arith, few))));
            valid = rw t (le-leb (value_of (b ∷ bs)) 2147483647 few);
          }
    ]

-- a register
pub record IsRegister (w : List ℕ) : Type 0 where
  pub text : register_text (register_in w) ≡ w
  pub valid : nat_lt (register_in w) 8 ≡ true

pub register_spelled : (w : List ℕ) → is_register w ≡ true → IsRegister w
register_spelled [] h = absurd cc
register_spelled (a ∷ []) h = absurd cc
register_spelled (a ∷ b ∷ []) h =
    let p = and_parts (nat_eq a 114 && nat_le 48 b) (nat_le b 55) h in
    let q = and_parts (nat_eq a 114) (nat_le 48 b) p.0 in
    let is : a ≡ 114 = eqb-true a 114 q.0 in
    let low : 48 ≤ b = leb-true 48 b q.1 in
    let high : b ≤ 55 = leb-true b 55 p.1 in
    let back : 48 + (b - 48) ≡ b = omega (arith, low) in
    record { text = rw (back, is) refl; valid = lt-ltb (b - 48) 8 (omega (arith, low, high)) }
register_spelled (a ∷ b ∷ c ∷ w) h = absurd cc

-- an operand
pub record IsOperand (w : List ℕ) : Type 0 where
  pub text : operand_text (operand_in w) ≡ w
  pub valid : is_valid_operand (operand_in w) ≡ true

pub operand_spelled : (w : List ℕ) → value_fault w ≡ None → IsOperand w
operand_spelled w h =
    elim (cases_Bool (begins_with_r w)) [
      | inl t ↦
          let r =
          register_spelled w (not-false (is_register w) (no_fault_if (not (is_register w)) Words (rw t at h))) in
          record { text = rw t r.text; valid = rw t r.valid }
      | inr t ↦ let s = signed_spelled w (rw t at h) in record { text = rw t s.text; valid = rw t s.valid }
    ]

pub name_spelled : (w : List ℕ) → name_fault w ≡ None → is_name w ≡ true
name_spelled [] h = absurd cc
name_spelled (c ∷ cs) h = not-false (is_name (c ∷ cs)) (no_fault_if (not (is_name (c ∷ cs))) BadName h)

-- a key
record IsDigit (d : ℕ) : Type 0 where
  text : hexadecimal_digit (digit_in d) ≡ d
  small : digit_in d < 16

digit_spelled : (d : ℕ) → is_hexadecimal d ≡ true → IsDigit d
digit_spelled d h =
    elim (or_cases (is_digit d) (nat_le 97 d && nat_le d 102) h) [
      | inl e ↦
          let p = and_parts (nat_le 48 d) (nat_le d 57) e in
          let low : 48 ≤ d = leb-true 48 d p.0 in
          let high : d ≤ 57 = leb-true d 57 p.1 in
          let back : 48 + (d - 48) ≡ d = omega (arith, low) in
          record {
            text = rw (lt-ltb d 58 (omega (arith, high))) (rw (lt-ltb (d - 48) 10 (omega (arith, low, high))) back);
            small = rw (lt-ltb d 58 (omega (arith, high))) (omega (arith, low, high));
          }
      | inr e ↦
          let p = and_parts (nat_le 97 d) (nat_le d 102) e in
          let low : 97 ≤ d = leb-true 97 d p.0 in
          let high : d ≤ 102 = leb-true d 102 p.1 in
          let back : 87 + (d - 87) ≡ d = omega (arith, low) in
          record {
            text = rw (le-ltb d 58 (omega (arith, low))) (rw (le-ltb (d - 87) 10 (omega (arith, low))) back);
            small = rw (le-ltb d 58 (omega (arith, low))) (omega (arith, low, high));
          }
    ]

pub record IsKey (w : List ℕ) : Type 0 where
  pub text : key_text (key_in w) ≡ w
  pub valid : key_in w ≤ 255

pub key_spelled : (w : List ℕ) → is_key_byte w ≡ true → IsKey w
key_spelled [] h = absurd cc
key_spelled (a ∷ []) h = absurd cc
key_spelled (a ∷ b ∷ []) h =
    let p = and_parts (is_hexadecimal a) (is_hexadecimal b) h in
    let x = digit_spelled a p.0 in
    let y = digit_spelled b p.1 in
    let u : digit_in a < 16 = x.small in
    let v : digit_in b < 16 = y.small in
    let front : (digit_in a * 16 + digit_in b) / 16 ≡ digit_in a = omega (arith, u, v) in
    let last : (digit_in a * 16 + digit_in b) % 16 ≡ digit_in b = omega (arith, u, v) in
    record { text = rw (front, last, x.text, y.text) refl; valid = omega (arith, u, v) }
key_spelled (a ∷ b ∷ c ∷ w) h = absurd cc
