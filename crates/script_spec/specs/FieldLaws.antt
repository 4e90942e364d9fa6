-- The texts of numbers, registers, operands, names and keys in their ranges have no fault.
use Rattle.std.proofs.Common.{◌≡◌, ℕ, suc, ◌+◌, ◌-◌, ◌*◌, ◌/◌, ◌%◌, ◌^◌, ◌≤◌, ◌<◌, Bool, true, false, ◌&&◌, ◌||◌, not}
use Rattle.std.proofs.Common.{nat_eq, nat_le, nat_lt, List, [], ◌∷◌, ◌++◌, Some, None, refl, ◌∙◌}
use Rattle.std.proofs.Common.{inl, inr, arith}
use Rattle.std.specs.Prelude.{ℤ, pos, negsuc, if◌then◌else◌}
use Rattle.std.specs.Fmt.{decimal, signed_decimal}
use Rattle.std.specs.List.{list_all}
use Rattle.std.proofs.lemmas.Bool.{and_parts, and_from, or_left, or_right, or_from, not_from_true, not_from_false}
use Rattle.std.proofs.lemmas.Bool.{leb-true, le-leb, lt-ltb, le-ltb, ltb-true, cases_lt, ne_eqb}
use Rattle.std.proofs.lemmas.Fmt.{decimal_by_steps}
use Rattle.std.proofs.lemmas.List.Folds.{list_all-append}
use Rattle.w32_base.specs.Name.{is_name}
use Rattle.w32_base.specs.declared.instr.Operand.{Operand}
use Rattle.w32_base.specs.declared.instr.Operand.TheVariants as operand
use Rattle.script_spec.specs.declared.fault.Kind.TheVariants.{Words, BadNumber, Range}
use Rattle.script_spec.specs.Faults.{fault_if}
use Rattle.script_spec.specs.Numbers.{is_digit, is_empty, is_canonical, value_from, value_of, without_sign, has_sign}
use Rattle.script_spec.specs.Numbers.{is_signed_canonical, is_in_32_bits, is_hexadecimal, is_key_byte, is_register}
use Rattle.script_spec.specs.Fields.{number_fault, signed_fault, value_fault, name_fault}
use Rattle.script_spec.specs.InstrText.{register_text, operand_text}
use Rattle.script_spec.specs.Print.{hexadecimal_digit, key_text}
use Rattle.script_spec.specs.Validity.{is_32_bits, is_valid_operand}
use Rattle.script_spec.specs.OneWordLaws.{signed_no_r}

-- a number's first digit isn't 0
abbrev is_led : List ℕ → Bool
is_led [] = false
is_led (d ∷ ds) = not (nat_eq d 48)

record Numeral (n : ℕ) (ds : List ℕ) : Type 0 where
  canonical : is_canonical ds ≡ true
  value : value_of ds ≡ n
  led : 0 < n → is_led ds ≡ true

value-push : (n : ℕ) (ds : List ℕ) (d : ℕ) → value_from n (ds ++ d ∷ []) ≡ value_from n ds * 10 + (d - 48)
value-push n [] d = refl
value-push n (c ∷ ds) d = value-push (n * 10 + (c - 48)) ds d

digit : (k : ℕ) → k < 10 → is_digit (48 + k) ≡ true
digit k lt = and_from (nat_le 48 (48 + k)) (nat_le (48 + k) 57) (le-leb 48 (48 + k) (omega arith))
    (le-leb (48 + k) 57 (omega arith))

canonical-push : (ds : List ℕ) (d : ℕ) → is_canonical ds ≡ true → is_led ds ≡ true → is_digit d ≡ true
    → is_canonical (ds ++ d ∷ []) ≡ true
canonical-push [] d h l e = absurd cc
canonical-push (c ∷ ds) d h l e =
    let p = and_parts (list_all is_digit (c ∷ ds)) (is_empty ds || not (nat_eq c 48)) h in
    and_from (list_all is_digit (c ∷ (ds ++ d ∷ []))) (is_empty (ds ++ d ∷ []) || not (nat_eq c 48))
    (list_all-append is_digit (c ∷ ds) (d ∷ [])
    ∙ and_from (list_all is_digit (c ∷ ds)) (is_digit d && true) p.0 (and_from (is_digit d) true e refl))
    (or_right (is_empty (ds ++ d ∷ [])) (not (nat_eq c 48)) l)

led-push : (ds : List ℕ) (d : ℕ) → is_led ds ≡ true → is_led (ds ++ d ∷ []) ≡ true
led-push [] d h = absurd cc
led-push (c ∷ ds) d h = h

one_digit : (k : ℕ) → k < 10 → Numeral k ((48 + k) ∷ [])
one_digit k lt = record {
  canonical = and_from (is_digit (48 + k) && true) true (and_from (is_digit (48 + k)) true (digit k lt) refl) refl;
  value = omega arith;
  led = λ some. not_from_false (nat_eq (48 + k) 48) (ne_eqb (48 + k) 48 (λ e. omega (arith, e, some)));
}

digit_more : (n : ℕ) (ds : List ℕ) → 10 ≤ n → Numeral (n / 10) ds → Numeral n (ds ++ (48 + n % 10) ∷ [])
digit_more n ds ten ih =
    let led = ih.led (omega arith) in
    let value : value_of (ds ++ (48 + n % 10) ∷ []) ≡ value_of ds * 10 + ((48 + n % 10) - 48) =
    value-push 0 ds (48 + n % 10) in
    let front : value_of ds ≡ n / 10 = ih.value in
    record {
      canonical = canonical-push ds (48 + n % 10) ih.canonical led (digit (n % 10) (omega arith));
      value = value ∙ rw front (omega arith);
      led = λ some. led-push ds (48 + n % 10) led;
    }

numeral : (n : ℕ) → n < 2 ^ 64 → Numeral n (decimal n)
numeral n lt = decimal_by_steps Numeral one_digit digit_more n lt

-- the decimal form of a number is canonical, and spells the number
pub decimal-canonical : (n : ℕ) → n < 2 ^ 64 → is_canonical (decimal n) ≡ true
decimal-canonical n lt = (numeral n lt).canonical

pub value_of-decimal : (n : ℕ) → n < 2 ^ 64 → value_of (decimal n) ≡ n
value_of-decimal n lt = (numeral n lt).value

some_digits : (w : List ℕ) → is_canonical w ≡ true → is_empty w ≡ false
some_digits [] h = absurd cc
some_digits (d ∷ ds) h = refl

three_tests : (a b c : Bool) → a ≡ false → b ≡ true → c ≡ false
    → (if a then Some Words else (if not b then Some BadNumber else fault_if c Range)) ≡ None
three_tests a b c h k l = rw (h, k, l) refl

pub number_good : (low high n : ℕ) → low ≤ n → n ≤ high → n < 2 ^ 64 → number_fault low high (decimal n) ≡ None
number_good low high n from to lt =
    let v = value_of-decimal n lt in
    three_tests (is_empty (decimal n)) (is_canonical (decimal n))
    (nat_lt (value_of (decimal n)) low || nat_lt high (value_of (decimal n)))
    (some_digits (decimal n) (decimal-canonical n lt)) (decimal-canonical n lt)
    (rw v (or_from (nat_lt n low) (nat_lt high n) (le-ltb n low from) (le-ltb high n to)))

-- digits have no sign
no_sign : (d : ℕ) → is_digit d ≡ true → nat_eq d 45 ≡ false
no_sign d h =
    let low : 48 ≤ d = leb-true 48 d (and_parts (nat_le 48 d) (nat_le d 57) h).0 in
    ne_eqb d 45 (λ e. omega (arith, low, e))

unsigned : (w : List ℕ) → is_canonical w ≡ true → (without_sign w ≡ w) × (has_sign w ≡ false)
unsigned [] h = absurd cc
unsigned (d ∷ ds) h =
    let p = and_parts (list_all is_digit (d ∷ ds)) (is_empty ds || not (nat_eq d 48)) h in
    let e = no_sign d (and_parts (is_digit d) (list_all is_digit ds) p.0).0 in
    (rw e refl, e)

pub decimal-unsigned : (n : ℕ) → n < 2 ^ 64 → has_sign (decimal n) ≡ false
decimal-unsigned n lt = (unsigned (decimal n) (decimal-canonical n lt)).1

pub signed_good : (z : ℤ) → is_32_bits z ≡ true → signed_fault (signed_decimal z) ≡ None
signed_good (pos n) h =
    let few : n ≤ 2147483647 = leb-true n 2147483647 h in
    let w : List ℕ = decimal n in
    let lt : n < 2 ^ 64 = omega arith in
    let c = decimal-canonical n lt in
    let u = unsigned w c in
    let v = value_of-decimal n lt in
    three_tests (is_empty w) (is_signed_canonical w) (not (is_in_32_bits w)) (some_digits w c)
    (rw (u.0, u.1) (and_from (is_canonical w) true c refl))
    (rw (u.0, u.1, v) (not_from_true (nat_le n 2147483647) h))
signed_good (negsuc n) h =
    let few : n ≤ 2147483647 = leb-true n 2147483647 h in
    let w : List ℕ = decimal (suc n) in
    let lt : suc n < 2 ^ 64 = omega arith in
    let c = decimal-canonical (suc n) lt in
    let v = value_of-decimal (suc n) lt in
    three_tests false (is_signed_canonical (45 ∷ w)) (not (is_in_32_bits (45 ∷ w))) refl
    (and_from (is_canonical w) (not (nat_eq (value_of w) 0)) c
    (rw v (not_from_false (nat_eq (suc n) 0) (ne_eqb (suc n) 0 (λ e. omega (arith, e))))))
    (rw v (not_from_true (nat_le (suc n) 2147483648) (le-leb (suc n) 2147483648 (omega arith))))

pub register_good : (r : ℕ) → nat_lt r 8 ≡ true → is_register (register_text r) ≡ true
register_good r h =
    let few : r < 8 = ltb-true r 8 h in
    and_from (nat_le 48 (48 + r)) (nat_le (48 + r) 55) (le-leb 48 (48 + r) (omega arith))
    (le-leb (48 + r) 55 (omega arith))

pub operand_good : (v : Operand) → is_valid_operand v ≡ true → value_fault (operand_text v) ≡ None
operand_good (operand.Register r) h = rw (register_good r h) refl
operand_good (operand.Number z) h = rw (signed_no_r z h) (signed_good z h)

pub name_good : (n : List ℕ) → is_name n ≡ true → name_fault n ≡ None
name_good [] h = absurd cc
name_good (c ∷ cs) h = rw h refl

hexadecimal_good : (d : ℕ) → d < 16 → is_hexadecimal (hexadecimal_digit d) ≡ true
hexadecimal_good d lt =
    elim (cases_lt d 10) [
      | inl less ↦ rw (lt-ltb d 10 less)
          (or_left (is_digit (48 + d)) (nat_le 97 (48 + d) && nat_le (48 + d) 102) (digit d less))
      | inr more ↦ rw (le-ltb d 10 more)
          (or_right (is_digit (87 + d)) (nat_le 97 (87 + d) && nat_le (87 + d) 102)
          (and_from (nat_le 97 (87 + d)) (nat_le (87 + d) 102) (le-leb 97 (87 + d) (omega arith))
          (le-leb (87 + d) 102 (omega arith))))
    ]

pub key_good : (b : ℕ) → b ≤ 255 → is_key_byte (key_text b) ≡ true
key_good b few =
    and_from (is_hexadecimal (hexadecimal_digit (b / 16))) (is_hexadecimal (hexadecimal_digit (b % 16)))
    (hexadecimal_good (b / 16) (omega arith)) (hexadecimal_good (b % 16) (omega arith))
