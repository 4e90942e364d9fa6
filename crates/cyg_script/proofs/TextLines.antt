-- The first line of a text, and the text after it.
use Rattle.std.proofs.Common.{◌≡◌, ℕ, suc, ◌+◌, ◌<◌, true, false, nat_eq, List, [], ◌∷◌, length, refl, ap, ◌∙◌}
use Rattle.std.proofs.Common.{arith, inl, inr}
use Rattle.std.proofs.lemmas.Bool.{cases_Bool}
use Rattle.script_spec.specs.Lines.{pieces, with_byte, Line, as_lines, lines_of}
use Rattle.script_spec.specs.TextLaws.{pieces_some}

-- the bytes of pieces, and one more for each
abbrev weight_of : List (List ℕ) → ℕ
weight_of [] = 0
weight_of (p ∷ ps) = suc (length p) + weight_of ps

with_byte-weight : (b : ℕ) (ps : List (List ℕ)) → (ps ≡ [] → ⊥) → weight_of (with_byte b ps) ≡ suc (weight_of ps)
with_byte-weight b [] h = absurd (h refl)
with_byte-weight b (p ∷ ps) h = omega arith

pieces-weight : (separator : ℕ) (bs : List ℕ) → weight_of (pieces separator bs) ≡ suc (length bs)
pieces-weight separator [] = omega arith
pieces-weight separator (b ∷ bs) =
    elim (cases_Bool (nat_eq b separator)) [
      | inl e ↦ rw e (let k = pieces-weight separator bs in omega (arith, k))
      | inr e ↦
          rw e (let k = pieces-weight separator bs in
          with_byte-weight b (pieces separator bs) (pieces_some separator bs) ∙ ap suc k)
    ]

pub rest_shorter : (separator : ℕ) (text p rest : List ℕ) → pieces separator text ≡ p ∷ pieces separator rest
    → length rest < length text
rest_shorter separator text p rest e =
    let a = pieces-weight separator text in
    let b = pieces-weight separator rest in
    let c : weight_of (pieces separator text) ≡ suc (length p) + weight_of (pieces separator rest) = ap weight_of e in
    omega (arith, a, b, c)

some_pieces : (p : List ℕ) (ps : List (List ℕ)) → (ps ≡ [] → ⊥)
    → as_lines (p ∷ ps) ≡ (let l : Line = record { bytes = p; is_ended = true } in l) ∷ as_lines ps
some_pieces p [] h = absurd (h refl)
some_pieces p (q ∷ ps) h = refl

pub ended_line : (text p rest : List ℕ) → pieces 10 text ≡ p ∷ pieces 10 rest
    → lines_of text ≡ (let l : Line = record { bytes = p; is_ended = true } in l) ∷ lines_of rest
ended_line text p rest e = ap as_lines e ∙ some_pieces p (pieces 10 rest) (pieces_some 10 rest)

last_line : (p : List ℕ) → 0 < length p
    → as_lines (p ∷ []) ≡ (let l : Line = record { bytes = p; is_ended = false } in l) ∷ []
last_line [] h = absurd (omega arith)
last_line (b ∷ bs) h = refl

pub unended_line : (text p : List ℕ) → pieces 10 text ≡ p ∷ [] → 0 < length text
    → lines_of text ≡ (let l : Line = record { bytes = p; is_ended = false } in l) ∷ []
unended_line text p e h =
    let a = pieces-weight 10 text in
    let c : weight_of (pieces 10 text) ≡ suc (length p) + 0 = ap weight_of e in
    let some : 0 < length p = omega (arith, a, c, h) in
    ap as_lines e ∙ last_line p some

pub ruleset cut_lines = (rest_shorter, ended_line, unended_line)
