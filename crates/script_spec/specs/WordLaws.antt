-- The words of a valid script's lines are short and of graphic bytes.
use Rattle.std.proofs.Common.{◌≡◌, ℕ, suc, ◌+◌, ◌/◌, ◌%◌, ◌^◌, ◌≤◌, ◌<◌, Bool, true, ◌&&◌}
use Rattle.std.proofs.Common.{nat_le, nat_lt, List, [], ◌∷◌, length, refl, ◌∙◌, arith, inl}
use Rattle.std.proofs.Common.{inr, lit<, lit≤}
use Rattle.std.specs.Prelude.{ℤ, pos, negsuc}
use Rattle.std.specs.Fmt.{decimal, signed_decimal}
use Rattle.std.specs.List.{list_all}
use Rattle.std.proofs.lemmas.Bool.{and_parts, and_from, or_left, or_cases, leb-true, le-leb, ltb-true, lt-ltb, le-ltb}
use Rattle.std.proofs.lemmas.Bool.{cases_lt}
use Rattle.std.proofs.lemmas.Fmt.{decimal_by_steps, length-decimal-le}
use Rattle.std.proofs.lemmas.List.Folds.{list_all-append}
use Rattle.w32_base.specs.Name.{is_name, is_name_char, is_lower}
use Rattle.w32_base.specs.declared.instr.Operand.{Operand}
use Rattle.w32_base.specs.declared.instr.Operand.TheVariants as operand
use Rattle.script_spec.specs.InstrText.{register_text, operand_text}
use Rattle.script_spec.specs.Print.{hexadecimal_digit, key_text}
use Rattle.script_spec.specs.Validity.{is_32_bits, is_valid_operand}

-- a byte that shows and isn't a space
abbrev pub is_graphic : ℕ → Bool
is_graphic b = nat_le 33 b && nat_le b 126

-- at most 20 such bytes
abbrev pub is_word : List ℕ → Bool
is_word w = list_all is_graphic w && nat_le (length w) 20

graphic : (b : ℕ) → 33 ≤ b → b ≤ 126 → is_graphic b ≡ true
graphic b low high = and_from (nat_le 33 b) (nat_le b 126) (le-leb 33 b low) (le-leb b 126 high)

word : (w : List ℕ) → list_all is_graphic w ≡ true → length w ≤ 20 → is_word w ≡ true
word w h few = and_from (list_all is_graphic w) (nat_le (length w) 20) h (le-leb (length w) 20 few)

graphic_digits : (n : ℕ) → n < 2 ^ 64 → list_all is_graphic (decimal n) ≡ true
graphic_digits n lt =
    decimal_by_steps (λ k ds. list_all is_graphic ds ≡ true)
    (λ k one. and_from (is_graphic (48 + k)) true (graphic (48 + k) (omega arith) (omega arith)) refl)
    (λ k ds ten ih. list_all-append is_graphic ds ((48 + k % 10) ∷ []) ∙
    and_from (list_all is_graphic ds) (is_graphic (48 + k % 10) && true) ih
    (and_from (is_graphic (48 + k % 10)) true (graphic (48 + k % 10) (omega arith) (omega arith)) refl))
    n lt

pub decimal_word : (n : ℕ) → n < 2 ^ 64 → is_word (decimal n) ≡ true
decimal_word n lt = let wide : n < 10 ^ 20 =
    omega arith in word (decimal n) (graphic_digits n lt) (length-decimal-le 20 n (lit< tt) wide lt)

pub signed_word : (z : ℤ) → is_32_bits z ≡ true → is_word (signed_decimal z) ≡ true
signed_word (pos n) h = let few : n ≤ 2147483647 = leb-true n 2147483647 h in decimal_word n (omega arith)
signed_word (negsuc n) h =
    let few : n ≤ 2147483647 = leb-true n 2147483647 h in
    let short : length (decimal (suc n)) ≤ 10 = length-decimal-le 10 (suc n) (lit< tt) (omega arith) (omega arith) in
    word (45 ∷ decimal (suc n)) (graphic_digits (suc n) (omega arith)) (omega arith)

name_char : (b : ℕ) → is_name_char b ≡ true → is_graphic b ≡ true
name_char b h =
    elim (or_cases (is_lower b) (nat_le 48 b && nat_le b 57) h) [
      | inl e ↦ let p = and_parts (nat_le 97 b) (nat_le b 122) e in
          let low : 97 ≤ b = leb-true 97 b p.0 in let high : b ≤ 122 =
          leb-true b 122 p.1 in graphic b (omega arith) (omega arith)
      | inr e ↦ let p = and_parts (nat_le 48 b) (nat_le b 57) e in
          let low : 48 ≤ b = leb-true 48 b p.0 in let high : b ≤ 57 =
          leb-true b 57 p.1 in graphic b (omega arith) (omega arith)
    ]

-- what passes one test passes another
pub list_all-implies : {X : Type 0} (p q : X → Bool) → ((x : X) → p x ≡ true → q x ≡ true) → (xs : List X)
    → list_all p xs ≡ true → list_all q xs ≡ true
list_all-implies p q f [] h = refl
list_all-implies p q f (x ∷ xs) h = let parts =
    and_parts (p x) (list_all p xs) h in
    and_from (q x) (list_all q xs) (f x parts.0) (list_all-implies p q f xs parts.1)

pub name_word : (n : List ℕ) → is_name n ≡ true → is_word n ≡ true
name_word [] h = absurd cc
name_word (b ∷ bs) h =
    let parts = and_parts (is_lower b && nat_le (length bs) 15) (list_all is_name_char bs) h in
    let head = and_parts (is_lower b) (nat_le (length bs) 15) parts.0 in
    let few : length bs ≤ 15 = leb-true (length bs) 15 head.1 in
    word (b ∷ bs)
    (and_from (is_graphic b) (list_all is_graphic bs)
    (name_char b (or_left (is_lower b) (nat_le 48 b && nat_le b 57) head.0))
    (list_all-implies is_name_char is_graphic name_char bs parts.1)) (omega arith)

pub register_word : (r : ℕ) → nat_lt r 8 ≡ true → is_word (register_text r) ≡ true
register_word r h = let few : r < 8 = ltb-true r 8 h in
    word (register_text r) (and_from (is_graphic (48 + r)) true (graphic (48 + r) (omega arith) (omega arith)) refl)
    (lit≤ tt)

pub operand_word : (v : Operand) → is_valid_operand v ≡ true → is_word (operand_text v) ≡ true
operand_word (operand.Register r) h = register_word r h
operand_word (operand.Number n) h = signed_word n h

graphic_hexadecimal : (d : ℕ) → d < 16 → is_graphic (hexadecimal_digit d) ≡ true
graphic_hexadecimal d lt =
    elim (cases_lt d 10) [
      | inl less ↦ rw (lt-ltb d 10 less) (graphic (48 + d) (omega arith) (omega arith))
      | inr more ↦ rw (le-ltb d 10 more) (graphic (87 + d) (omega arith) (omega arith))
    ]

pub key_word : (b : ℕ) → b ≤ 255 → is_word (key_text b) ≡ true
key_word b few =
    word (key_text b)
    (and_from (is_graphic (hexadecimal_digit (b / 16))) (is_graphic (hexadecimal_digit (b % 16)) && true)
    (graphic_hexadecimal (b / 16) (omega arith))
    (and_from (is_graphic (hexadecimal_digit (b % 16))) true (graphic_hexadecimal (b % 16) (omega arith)) refl))
    (lit≤ tt)
