-- Pieces are cut at the first separator.
use Rattle.std.proofs.Common.{◌≡◌, ℕ, suc, ◌+◌, ◌-◌, ◌<◌, ◌≤◌, Bool, not, nat_eq, List, [], ◌∷◌}
use Rattle.std.proofs.Common.{length, Option, Some, None, take, drop, refl, ap, sym, subst, ◌∙◌, arith, inl, inr}
use Rattle.std.proofs.lemmas.Bool.{cases_Bool, cases_lt, lt-ltb, le-ltb}
use Rattle.std.proofs.lemmas.List.{length-drop}
use Rattle.std.proofs.Math.Seq.{take-length}
use Rattle.std.proofs.lemmas.Option.{same_Some}
use Rattle.std.specs.List.{prefix_len, position}
use Rattle.cyg_script.specs.Words.{one_of, pieces_after, words_after}
use Rattle.script_spec.specs.Lines.{pieces, with_byte}

abbrev pub other : ℕ → ℕ → Bool
other separator b = not (nat_eq b separator)

-- how many bytes stand before the first separator
abbrev pub before : ℕ → List ℕ → ℕ
before separator bs = prefix_len (other separator) bs

pub cut_at : (separator : ℕ) (bs : List ℕ) → before separator bs < length bs
    → pieces separator bs ≡ take (before separator bs) bs ∷ pieces separator (drop (before separator bs + 1) bs)
cut_at separator [] h = absurd (omega arith)
cut_at separator (b ∷ bs) h =
    elim (cases_Bool (nat_eq b separator)) [
      | inl e ↦ rw e refl
      | inr e ↦
          let here : before separator (b ∷ bs) ≡ suc (before separator bs) = rw e (omega arith) in
          let less : before separator bs < length bs = omega (arith, here, h) in
          rw (here, e, cut_at separator bs less) (let k : suc (before separator bs) + 1
          ≡ suc (before separator bs + 1) = omega arith in rw k refl)
    ]

pub cut_nowhere : (separator : ℕ) (bs : List ℕ) → length bs ≤ before separator bs → pieces separator bs ≡ bs ∷ []
cut_nowhere separator [] h = refl
cut_nowhere separator (b ∷ bs) h =
    elim (cases_Bool (nat_eq b separator)) [
      | inl e ↦ let here : before separator (b ∷ bs) ≡ 0 = rw e refl in absurd (omega (arith, here, h))
      | inr e ↦
          let here : before separator (b ∷ bs) ≡ suc (before separator bs) = rw e (omega arith) in
          let less : length bs ≤ before separator bs = omega (arith, here, h) in
          rw (e, cut_nowhere separator bs less) refl
    ]

rest_whole : (k : ℕ) (bs : List ℕ) → take (length bs - k) (drop k bs) ≡ drop k bs
rest_whole k bs = ap (λ (n : ℕ). take n (drop k bs)) (sym (length-drop k bs)) ∙ take-length (drop k bs)

pub cut_some : (separator : ℕ) (bs : List ℕ) (at : ℕ) → Some at ≡ position (λ b. nat_eq b separator) bs
    → pieces separator bs ≡ take at bs ∷ pieces separator (take (length bs - (at + 1)) (drop (at + 1) bs))
cut_some separator bs at h = rw (rest_whole (at + 1) bs) (
    elim (cases_lt (before separator bs) (length bs)) [
      | inl less ↦
          let e : at ≡ before separator bs = same_Some at (before separator bs)
          (h ∙ rw (lt-ltb (before separator bs) (length bs) less) refl) in
          subst (λ (k : ℕ). pieces separator bs ≡ take k bs ∷ pieces separator (drop (k + 1) bs)) (sym e)
          (cut_at separator bs less)
      | inr more ↦ absurd (let e : Some at ≡ None = h ∙ rw (le-ltb (before separator bs) (length bs) more) refl in cc)
    ])

pub cut_none : (separator : ℕ) (bs : List ℕ) → None ≡ position (λ b. nat_eq b separator) bs → pieces separator bs
    ≡ bs ∷ []
cut_none separator bs h =
    elim (cases_lt (before separator bs) (length bs)) [
      | inl less ↦ absurd (let e : None ≡ Some (before separator bs) = h
          ∙ rw (lt-ltb (before separator bs) (length bs) less) refl in cc)
      | inr more ↦ cut_nowhere separator bs more
    ]

with_byte_some : (b : ℕ) (ps : List (List ℕ)) → with_byte b ps ≡ [] → ⊥
with_byte_some b [] e = cc
with_byte_some b (p ∷ ps) e = cc

-- there is one piece at least
pub pieces_some : (separator : ℕ) (bs : List ℕ) → pieces separator bs ≡ [] → ⊥
pieces_some separator [] e = cc
pieces_some separator (b ∷ bs) e =
    elim (cases_Bool (nat_eq b separator)) [
      | inl t ↦ let h : ◌≡◌ {A = List (List ℕ)} ([] ∷ pieces separator bs) [] = rw t at e in cc
      | inr t ↦ with_byte_some b (pieces separator bs) (rw t at e)
    ]

one_but_more : (w : List ℕ) (ps : List (List ℕ)) → (ps ≡ [] → ⊥) → None ≡ one_of (w ∷ ps)
one_but_more w [] h = absurd (h refl)
one_but_more w (p ∷ ps) h = refl

-- a word with others after it isn't one word
pub one_with_more : (w : List ℕ) (separator : ℕ) (bs : List ℕ) → None ≡ one_of (w ∷ pieces separator bs)
one_with_more w separator bs = one_but_more w (pieces separator bs) (pieces_some separator bs)

-- what stands after a space has other words than one where a space is in it
pub one_none : (rest : Option (List ℕ)) (bs w more : List ℕ) (after : Option (List ℕ)) → rest ≡ Some bs
    → pieces 32 bs ≡ w ∷ pieces_after 32 after → after ≡ Some more → None ≡ one_of (words_after rest)
one_none rest bs w more after e h f = rw (e, h, f) (one_with_more w 32 more)

pub not_none : (rest : Option (List ℕ)) (bs : List ℕ) → rest ≡ Some bs → words_after rest ≡ [] → ⊥
not_none rest bs e h = pieces_some 32 bs (rw e at h)
