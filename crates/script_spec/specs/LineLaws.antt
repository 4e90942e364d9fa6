-- A line of short words of graphic bytes is plain and not skipped.
use Rattle.std.proofs.Common.{◌≡◌, ℕ, suc, ◌+◌, ◌*◌, ◌≤◌, Bool, true, false, ◌&&◌, not, nat_eq, nat_le, List, []}
use Rattle.std.proofs.Common.{◌∷◌, length, map, refl, ◌∙◌, arith, length-append}
use Rattle.std.specs.List.{list_all}
use Rattle.std.proofs.lemmas.Bool.{and_parts, and_from, leb-true, le-leb, ne_eqb, not-true}
use Rattle.std.proofs.lemmas.List.Folds.{list_all-append}
use Rattle.script_spec.specs.Lines.{Line, spaced, is_skipped, not_skipped}
use Rattle.script_spec.specs.LineFaults.{is_printable}
use Rattle.script_spec.specs.Grammar.{is_plain}
use Rattle.script_spec.specs.TextLaws.{is_other, ended}
use Rattle.script_spec.specs.WordLaws.{is_graphic, is_word, list_all-implies}
use Rattle.script_spec.specs.InstrLaws.{are_words, is_headed}

-- a line of 1 to 6 such words that doesn't begin with #
abbrev pub is_good : List (List ℕ) → Bool
is_good ws = are_words ws && is_headed ws

printable : (b : ℕ) → is_graphic b ≡ true → is_printable b ≡ true
printable b h =
    let p = and_parts (nat_le 33 b) (nat_le b 126) h in
    let low : 33 ≤ b = leb-true 33 b p.0 in
    and_from (nat_le 32 b) (nat_le b 126) (le-leb 32 b (omega arith)) p.1

no_end : (b : ℕ) → is_printable b ≡ true → is_other 10 b ≡ true
no_end b h =
    let p = and_parts (nat_le 32 b) (nat_le b 126) h in
    let low : 32 ≤ b = leb-true 32 b p.0 in
    rw (ne_eqb b 10 (λ e. omega (arith, low, e))) refl

no_space : (b : ℕ) → is_graphic b ≡ true → is_other 32 b ≡ true
no_space b h =
    let p = and_parts (nat_le 33 b) (nat_le b 126) h in
    let low : 33 ≤ b = leb-true 33 b p.0 in
    rw (ne_eqb b 32 (λ e. omega (arith, low, e))) refl

word_printable : (w : List ℕ) → is_word w ≡ true → list_all is_printable w ≡ true
word_printable w h =
    list_all-implies is_graphic is_printable printable w (and_parts (list_all is_graphic w) (nat_le (length w) 20) h).0

pub spaced_printable : (ws : List (List ℕ)) → are_words ws ≡ true → list_all is_printable (spaced ws) ≡ true
spaced_printable [] h = refl
spaced_printable (w ∷ []) h = word_printable w (and_parts (is_word w) true h).0
spaced_printable (w ∷ v ∷ ws) h =
    let p = and_parts (is_word w) (are_words (v ∷ ws)) h in
    list_all-append is_printable w (32 ∷ spaced (v ∷ ws))
    ∙ and_from (list_all is_printable w) (list_all is_printable (spaced (v ∷ ws))) (word_printable w p.0)
    (spaced_printable (v ∷ ws) p.1)

pub length-spaced : (ws : List (List ℕ)) → are_words ws ≡ true → length (spaced ws) ≤ 21 * length ws
length-spaced [] h = omega arith
length-spaced (w ∷ []) h =
    let p = and_parts (is_word w) true h in
    let few : length w ≤ 20 = leb-true (length w) 20 (and_parts (list_all is_graphic w) (nat_le (length w) 20) p.0).1 in
    omega (arith, few)
length-spaced (w ∷ v ∷ ws) h =
    let p = and_parts (is_word w) (are_words (v ∷ ws)) h in
    let few : length w ≤ 20 = leb-true (length w) 20 (and_parts (list_all is_graphic w) (nat_le (length w) 20) p.0).1 in
    let more : length (spaced (v ∷ ws)) ≤ 21 * length (v ∷ ws) = length-spaced (v ∷ ws) p.1 in
    let whole : length (spaced (w ∷ v ∷ ws)) ≡ length w + suc (length (spaced (v ∷ ws))) =
    length-append w (32 ∷ spaced (v ∷ ws)) in
    let all : length (w ∷ v ∷ ws) ≡ suc (length (v ∷ ws)) = refl in
    omega (arith, few, more, whole, all)

pub headed_length : (ws : List (List ℕ)) → is_headed ws ≡ true → length ws ≤ 6
headed_length [] h = absurd cc
headed_length ([] ∷ ws) h = absurd cc
headed_length ((b ∷ bs) ∷ ws) h =
    let few : length ws ≤ 5 =
    leb-true (length ws) 5 (and_parts (not (nat_eq b 35)) (nat_le (length ws) 5) h).1 in omega (arith, few)

pub good_shown : (ws : List (List ℕ)) → is_good ws ≡ true → is_skipped (spaced ws) ≡ false
good_shown [] h = absurd cc
good_shown ([] ∷ ws) h = absurd (let k = (and_parts (are_words ([] ∷ ws)) false h).1 in cc)
good_shown ((b ∷ bs) ∷ []) h =
    not-true (nat_eq b 35)
    (and_parts (not (nat_eq b 35)) (nat_le 0 5)
    (and_parts (are_words ((b ∷ bs) ∷ [])) (is_headed ((b ∷ bs) ∷ [])) h).1).0
good_shown ((b ∷ bs) ∷ v ∷ ws) h =
    not-true (nat_eq b 35)
    (and_parts (not (nat_eq b 35)) (nat_le (length (v ∷ ws)) 5)
    (and_parts (are_words ((b ∷ bs) ∷ v ∷ ws)) (is_headed ((b ∷ bs) ∷ v ∷ ws)) h).1).0

pub good_plain : (ws : List (List ℕ)) → is_good ws ≡ true → is_plain (ended (spaced ws)) ≡ true
good_plain ws h =
    let p = and_parts (are_words ws) (is_headed ws) h in
    let few : length ws ≤ 6 = headed_length ws p.1 in
    let long : length (spaced ws) ≤ 21 * length ws = length-spaced ws p.0 in
    and_from (list_all is_printable (spaced ws)) (nat_le (length (spaced ws)) 200) (spaced_printable ws p.0)
    (le-leb (length (spaced ws)) 200 (omega (arith, few, long)))

pub good_line : (ws : List (List ℕ)) → is_good ws ≡ true → list_all (is_other 10) (spaced ws) ≡ true
good_line ws h =
    list_all-implies is_printable (is_other 10) no_end (spaced ws)
    (spaced_printable ws (and_parts (are_words ws) (is_headed ws) h).0)

pub good_words : (ws : List (List ℕ)) → are_words ws ≡ true → list_all (list_all (is_other 32)) ws ≡ true
good_words ws h =
    list_all-implies is_word (list_all (is_other 32))
    (λ w e.
    list_all-implies is_graphic (is_other 32) no_space w
    (and_parts (list_all is_graphic w) (nat_le (length w) 20) e).0) ws h

abbrev pub end_line : List (List ℕ) → Line
end_line ws = ended (spaced ws)

pub all_plain : (lines : List (List (List ℕ))) → list_all is_good lines ≡ true
    → list_all is_plain (map end_line lines) ≡ true
all_plain [] h = refl
all_plain (ws ∷ lines) h =
    let p = and_parts (is_good ws) (list_all is_good lines) h in
    and_from (is_plain (end_line ws)) (list_all is_plain (map end_line lines)) (good_plain ws p.0) (all_plain lines p.1)

pub all_shown : (lines : List (List (List ℕ))) → list_all is_good lines ≡ true
    → not_skipped (map end_line lines) ≡ map spaced lines
all_shown [] h = refl
all_shown (ws ∷ lines) h =
    let p = and_parts (is_good ws) (list_all is_good lines) h in
    rw (good_shown ws p.0, all_shown lines p.1) refl
