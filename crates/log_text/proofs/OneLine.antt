-- Texts without a line's end.
use Rattle.std.proofs.Common.{◌≡◌, ℕ, suc, ◌+◌, ◌%◌, ◌<◌, ◌≤◌, ◌^◌, ℤ, ◌≤ℤ◌, pos, negsuc, true, not}
use Rattle.std.proofs.Common.{nat_eq, nat_le}
use Rattle.std.proofs.Common.{List, [], ◌∷◌, ◌++◌, ◌&&◌, ◌≢◌, All, length, refl, sym, ap, ◌∙◌, arith}
use Rattle.std.specs.List.{list_all}
use Rattle.std.specs.Fmt.{decimal, signed_decimal}
use Rattle.std.proofs.lemmas.Bool.Decides.{nat_tests}
use Rattle.std.proofs.lemmas.Int.{ints}
use Rattle.std.proofs.lemmas.Fmt.{decimal_by_steps}
use Rattle.std.proofs.lemmas.List.Folds.{list_all-append}
use Rattle.std.proofs.lemmas.List.Elements.{All-nil, All-cons}
use Rattle.cyg_io.specs.Sink.{EndsOneLine}
use Rattle.w32_base.specs.Name.{is_name, is_name_char, is_lower}
use Rattle.log_spec.specs.Texts.{line}
use Rattle.log_spec.specs.EventsText.{is_one_line}
use Rattle.log_spec.specs.EventsReadLaws.{parts, together}

-- two such texts, one after the other
pub one_line-append : (xs ys : List ℕ) → is_one_line xs ≡ true → is_one_line ys ≡ true → is_one_line (xs ++ ys) ≡ true
one_line-append xs ys h k =
    list_all-append (λ byte. not (nat_eq byte 10)) xs ys ∙ together (is_one_line xs) (is_one_line ys) h k

pub decimal_one_line : (n : ℕ) → n < 2 ^ 64 → is_one_line (decimal n) ≡ true
decimal_one_line n h =
    decimal_by_steps (λ _ text. is_one_line text ≡ true)
    (λ d _. grind (arith, nat_tests))
    (λ d text _ before. one_line-append text ((48 + d % 10) ∷ []) before (grind (arith, nat_tests)))
    n h

pub signed_one_line : (z : ℤ) → negsuc 2147483647 ≤ℤ z → z ≤ℤ pos 4294967295 → is_one_line (signed_decimal z) ≡ true
signed_one_line (pos n) low high = decimal_one_line n (omega (arith, ints))
signed_one_line (negsuc n) low high = decimal_one_line (suc n) (omega (arith, ints))

letter_is_no_end : (c : ℕ) → is_name_char c ≡ true → not (nat_eq c 10) ≡ true
letter_is_no_end c h = grind (arith, nat_tests)

lower_is_no_end : (c : ℕ) → is_lower c ≡ true → not (nat_eq c 10) ≡ true
lower_is_no_end c h = grind (arith, nat_tests)

letters_one_line : (name : List ℕ) → list_all is_name_char name ≡ true → is_one_line name ≡ true
letters_one_line [] h = refl
letters_one_line (c ∷ cs) h =
    let two = parts (is_name_char c) (list_all is_name_char cs) h in
    together (not (nat_eq c 10)) (is_one_line cs) (letter_is_no_end c two.0) (letters_one_line cs two.1)

pub name_one_line : (name : List ℕ) → is_name name ≡ true → is_one_line name ≡ true
name_one_line [] h = refl
name_one_line (c ∷ cs) h =
    let two = parts (is_lower c && nat_le (length cs) 15) (list_all is_name_char cs) h in
    let lower = (parts (is_lower c) (nat_le (length cs) 15) two.0).0 in
    together (not (nat_eq c 10)) (is_one_line cs) (lower_is_no_end c lower) (letters_one_line cs two.1)

pub name_is_short : (name : List ℕ) → is_name name ≡ true → length name ≤ 16
name_is_short [] h = omega arith
name_is_short (c ∷ cs) h =
    let two = parts (is_lower c && nat_le (length cs) 15) (list_all is_name_char cs) h in
    let short = (parts (is_lower c) (nat_le (length cs) 15) two.0).1 in
    let few : length cs ≤ 15 = grind (arith, nat_tests) in
    omega arith

pub pair_one_line : (x y : ℕ) → 48 ≤ x → 48 ≤ y → is_one_line (x ∷ y ∷ []) ≡ true
pair_one_line x y h k = grind (arith, nat_tests)

-- no byte of such a text is a line's end
end_found : (b : ℕ) → not (nat_eq b 10) ≡ true → b ≡ 10 → ⊥
end_found b h e = let found : nat_eq b 10 ≡ true = rw e refl in cc (sym (ap not found) ∙ h)

pub no_ends : (body : List ℕ) → is_one_line body ≡ true → All (λ b. b ≢ 10) body
no_ends [] h = All-nil (λ b. b ≢ 10)
no_ends (b ∷ body) h =
    let two = parts (not (nat_eq b 10)) (is_one_line body) h in
    All-cons (λ x. x ≢ 10) b body (end_found b two.0) (no_ends body two.1)

-- so with its end it ends one line
pub ends_one_line : (body : List ℕ) → is_one_line body ≡ true → EndsOneLine (line body)
ends_one_line body h = (body, refl, no_ends body h)
