-- The lines of a text that is made of lines, and the words of a line that is made of words.
use Rattle.std.proofs.Common.{◌≡◌, ℕ, Bool, true, false, not, nat_eq, List, [], ◌∷◌, ◌++◌}
use Rattle.std.proofs.Common.{map, refl, ap, ◌∙◌, append_assoc, inl, inr}
use Rattle.std.specs.List.{list_all}
use Rattle.std.proofs.lemmas.Bool.{and_parts, not-true, eq-eqb, cases_Bool}
use Rattle.script_spec.specs.Lines.{pieces, with_byte, Line, as_lines, lines_of, words_of, spaced}
use Rattle.script_spec.specs.Print.{words_text}

-- a byte that isn't the separator
abbrev pub is_other : ℕ → ℕ → Bool
is_other separator b = not (nat_eq b separator)

-- a piece, and the separator after it
pub pieces-append : (separator : ℕ) (p rest : List ℕ) → list_all (is_other separator) p ≡ true
    → pieces separator (p ++ separator ∷ rest) ≡ p ∷ pieces separator rest
pieces-append separator [] rest h = rw (eq-eqb separator separator refl) refl
pieces-append separator (b ∷ bs) rest h =
    let parts = and_parts (is_other separator b) (list_all (is_other separator) bs) h in
    let other : nat_eq b separator ≡ false = not-true (nat_eq b separator) parts.0 in
    rw (other, pieces-append separator bs rest parts.1) refl

-- a last piece
pub pieces-last : (separator : ℕ) (p : List ℕ) → list_all (is_other separator) p ≡ true → pieces separator p ≡ p ∷ []
pieces-last separator [] h = refl
pieces-last separator (b ∷ bs) h =
    let parts = and_parts (is_other separator b) (list_all (is_other separator) bs) h in
    let other : nat_eq b separator ≡ false = not-true (nat_eq b separator) parts.0 in
    rw (other, pieces-last separator bs parts.1) refl

-- words without a space are the words of the line that they make
pub words_of-spaced : (w : List ℕ) (ws : List (List ℕ)) → list_all (list_all (is_other 32)) (w ∷ ws) ≡ true
    → words_of (spaced (w ∷ ws)) ≡ w ∷ ws
words_of-spaced w [] h = pieces-last 32 w (and_parts (list_all (is_other 32) w) true h).0
words_of-spaced w (v ∷ ws) h =
    let parts = and_parts (list_all (is_other 32) w) (list_all (list_all (is_other 32)) (v ∷ ws)) h in
    pieces-append 32 w (spaced (v ∷ ws)) parts.0 ∙ ap (λ (r : List (List ℕ)). w ∷ r) (words_of-spaced v ws parts.1)

-- a line that LF ends
abbrev pub ended : List ℕ → Line
ended bytes = record { bytes = bytes; is_ended = true }

some_pieces : (p : List ℕ) (ps : List (List ℕ)) → (ps ≡ [] → ⊥) → as_lines (p ∷ ps) ≡ ended p ∷ as_lines ps
some_pieces p [] h = absurd (h refl)
some_pieces p (q ∷ ps) h = refl

with_byte_some : (b : ℕ) (ps : List (List ℕ)) → with_byte b ps ≡ [] → ⊥
with_byte_some b [] e = cc
with_byte_some b (p ∷ ps) e = cc

-- there is one piece at least
pub pieces_some : (separator : ℕ) (bs : List ℕ) → pieces separator bs ≡ [] → ⊥
pieces_some separator [] e = cc
pieces_some separator (b ∷ bs) e =
    elim (cases_Bool (nat_eq b separator)) [
      | inl t ↦ let h : ◌≡◌ {A = List (List ℕ)} ([] ∷ pieces separator bs) [] = rw t at e in cc
      | inr t ↦ with_byte_some b (pieces separator bs) (rw t at e)
    ]

-- the first line of a text
pub lines_of-line : (p rest : List ℕ) → list_all (is_other 10) p ≡ true
    → lines_of (p ++ 10 ∷ rest) ≡ ended p ∷ lines_of rest
lines_of-line p rest h = ap as_lines (pieces-append 10 p rest h) ∙ some_pieces p (pieces 10 rest) (pieces_some 10 rest)

-- the lines of a text of lines
pub lines_of-words_text : (lines : List (List (List ℕ)))
    → list_all (λ (ws : List (List ℕ)). list_all (is_other 10) (spaced ws)) lines ≡ true
    → lines_of (words_text lines) ≡ map (λ (ws : List (List ℕ)). ended (spaced ws)) lines
lines_of-words_text [] h = refl
lines_of-words_text (ws ∷ lines) h =
    let parts =
    and_parts (list_all (is_other 10) (spaced ws))
    (list_all (λ (vs : List (List ℕ)). list_all (is_other 10) (spaced vs)) lines) h in
    ap lines_of (append_assoc (spaced ws) (10 ∷ []) (words_text lines))
    ∙ lines_of-line (spaced ws) (words_text lines) parts.0
    ∙ ap (λ (ls : List Line). ended (spaced ws) ∷ ls) (lines_of-words_text lines parts.1)
