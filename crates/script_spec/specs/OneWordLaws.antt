-- A word is the text of one value.
use Rattle.std.proofs.Common.{◌≡◌, ℕ, ◌+◌, ◌/◌, ◌%◌, ◌^◌, ◌≤◌, ◌<◌, true, false}
use Rattle.std.proofs.Common.{List, [], ◌∷◌, ◌++◌, refl, sym, ap, ◌∙◌, append_assoc, arith, inl, inr}
use Rattle.std.specs.Prelude.{ℤ, pos, negsuc}
use Rattle.std.specs.Fmt.{decimal, signed_decimal}
use Rattle.std.proofs.lemmas.Bool.{leb-true, lt-ltb, le-ltb, cases_lt, ne_eqb}
use Rattle.std.proofs.lemmas.Fmt.{decimal_by_steps, decimal_injective, signed_decimal_injective}
use Rattle.std.proofs.lemmas.List.{append-nil}
use Rattle.w32_base.specs.declared.instr.Operand.{Operand}
use Rattle.w32_base.specs.declared.instr.Operand.TheVariants as operand
use Rattle.script_spec.specs.InstrText.{register_text, operand_text}
use Rattle.script_spec.specs.Numbers.{begins_with_r}
use Rattle.script_spec.specs.Print.{hexadecimal_digit, key_text}
use Rattle.script_spec.specs.Validity.{is_32_bits, is_valid_operand}

pub same_number : (m n : ℕ) → m ≤ 500000 → n ≤ 500000 → decimal m ≡ decimal n → m ≡ n
same_number m n h k e = decimal_injective m n (omega arith) (omega arith) e

pub same_signed : (y z : ℤ) → is_32_bits y ≡ true → is_32_bits z ≡ true → signed_decimal y ≡ signed_decimal z → y ≡ z
same_signed (pos m) (pos n) h k e = let a : m ≤ 2147483647 = leb-true m 2147483647 h in let b : n ≤ 2147483647 =
    leb-true n 2147483647 k in signed_decimal_injective (pos m) (pos n) (omega arith) (omega arith) e
same_signed (pos m) (negsuc n) h k e = let a : m ≤ 2147483647 = leb-true m 2147483647 h in let b : n ≤ 2147483647 =
    leb-true n 2147483647 k in signed_decimal_injective (pos m) (negsuc n) (omega arith) (omega arith) e
same_signed (negsuc m) (pos n) h k e = let a : m ≤ 2147483647 = leb-true m 2147483647 h in let b : n ≤ 2147483647 =
    leb-true n 2147483647 k in signed_decimal_injective (negsuc m) (pos n) (omega arith) (omega arith) e
same_signed (negsuc m) (negsuc n) h k e = let a : m ≤ 2147483647 = leb-true m 2147483647 h in let b : n ≤ 2147483647 =
    leb-true n 2147483647 k in signed_decimal_injective (negsuc m) (negsuc n) (omega arith) (omega arith) e

decimal_no_r : (n : ℕ) → n < 2 ^ 64 → begins_with_r (decimal n) ≡ false
decimal_no_r n lt =
    ap begins_with_r (sym (append-nil (decimal n)))
    ∙ decimal_by_steps (λ k ds. (t : List ℕ) → begins_with_r (ds ++ t) ≡ false)
    (λ k one t. ne_eqb (48 + k) 114 (λ e. omega arith))
    (λ k ds ten ih t. ap begins_with_r (append_assoc ds ((48 + k % 10) ∷ []) t) ∙ ih ((48 + k % 10) ∷ t))
    n lt []

pub signed_no_r : (z : ℤ) → is_32_bits z ≡ true → begins_with_r (signed_decimal z) ≡ false
signed_no_r (pos n) h = let a : n ≤ 2147483647 = leb-true n 2147483647 h in decimal_no_r n (omega arith)
signed_no_r (negsuc n) h = refl

pub same_register : (r s : ℕ) → register_text r ≡ register_text s → r ≡ s
same_register r s e = let h : 48 + r ≡ 48 + s = cc in omega (arith, h)

pub same_operand : (u v : Operand) → is_valid_operand u ≡ true → is_valid_operand v ≡ true
    → operand_text u ≡ operand_text v → u ≡ v
same_operand (operand.Register r) (operand.Register s) h k e = ap operand.Register (same_register r s e)
same_operand (operand.Register r) (operand.Number z) h k e =
    absurd (let f : true ≡ begins_with_r (signed_decimal z) = ap begins_with_r e in let g = signed_no_r z k in cc)
same_operand (operand.Number z) (operand.Register r) h k e =
    absurd (let f : begins_with_r (signed_decimal z) ≡ true = ap begins_with_r e in let g = signed_no_r z h in cc)
same_operand (operand.Number y) (operand.Number z) h k e = ap operand.Number (same_signed y z h k e)

same_digit : (d e : ℕ) → d < 16 → e < 16 → hexadecimal_digit d ≡ hexadecimal_digit e → d ≡ e
same_digit d e ld le h =
    elim (cases_lt d 10) [
      | inl a ↦ elim (cases_lt e 10) [
        | inl b ↦ let k : 48 + d ≡ 48 + e = sym (rw (lt-ltb d 10 a) refl) ∙ h ∙
            rw (lt-ltb e 10 b) refl in omega (arith, k)
        | inr b ↦ let k : 48 + d ≡ 87 + e = sym (rw (lt-ltb d 10 a) refl) ∙ h ∙
            rw (le-ltb e 10 b) refl in omega (arith, k)
      ]
      | inr a ↦ elim (cases_lt e 10) [
        | inl b ↦ let k : 87 + d ≡ 48 + e = sym (rw (le-ltb d 10 a) refl) ∙ h ∙
            rw (lt-ltb e 10 b) refl in omega (arith, k)
        | inr b ↦ let k : 87 + d ≡ 87 + e = sym (rw (le-ltb d 10 a) refl) ∙ h ∙
            rw (le-ltb e 10 b) refl in omega (arith, k)
      ]
    ]

pub same_key : (b c : ℕ) → b ≤ 255 → c ≤ 255 → key_text b ≡ key_text c → b ≡ c
same_key b c hb hc e =
    let high : hexadecimal_digit (b / 16) ≡ hexadecimal_digit (c / 16) = cc in
    let low : hexadecimal_digit (b % 16) ≡ hexadecimal_digit (c % 16) = cc in
    let h : b / 16 ≡ c / 16 = same_digit (b / 16) (c / 16) (omega arith) (omega arith) high in
    let l : b % 16 ≡ c % 16 = same_digit (b % 16) (c % 16) (omega arith) (omega arith) low in
    omega (arith, h, l)
