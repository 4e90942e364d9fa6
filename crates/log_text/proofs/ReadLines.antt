-- Bytes are cut at the first separator.
use Rattle.std.proofs.Common.{◌≡◌, ℕ, zero, suc, ◌+◌, ◌-◌, ◌<◌, ◌≤◌, Bool, true, false, not, nat_eq, List, [], ◌∷◌}
use Rattle.std.proofs.Common.{◌++◌}
use Rattle.std.proofs.Common.{length, Some, None, take, drop, refl, ap, sym, subst, ◌∙◌, arith, inl, inr}
use Rattle.std.proofs.Common.{append_assoc}
use Rattle.std.proofs.lemmas.Bool.{cases_Bool, cases_lt, lt-ltb, le-ltb, eqb-true}
use Rattle.std.proofs.lemmas.List.{length-drop}
use Rattle.std.proofs.Math.Seq.{take-length}
use Rattle.std.proofs.lemmas.Option.{same_Some}
use Rattle.std.specs.List.{prefix_len, position, list_all}
use Rattle.log_spec.specs.Texts.{line}
use Rattle.log_spec.specs.EventsText.{is_one_line}
use Rattle.log_spec.specs.EventsRead.{word_at, words_in}
use Rattle.log_spec.specs.EventsReadLaws.{together}
use Rattle.log_spec.specs.EventsTextLaws.{first_part, only_part}

abbrev pub other : ℕ → ℕ → Bool
other separator b = not (nat_eq b separator)

-- how many bytes stand before the first separator
abbrev pub before : ℕ → List ℕ → ℕ
before separator bs = prefix_len (other separator) bs

-- the bytes are a part without a separator, one separator and the rest
pub record IsCut (separator : ℕ) (bs part rest : List ℕ) : Type 0 where
  pub bytes : bs ≡ part ++ separator ∷ rest
  pub none : list_all (other separator) part ≡ true

more_cut : (separator b : ℕ) (bs part rest : List ℕ) → nat_eq b separator ≡ false → IsCut separator bs part rest
    → IsCut separator (b ∷ bs) (b ∷ part) rest
more_cut separator b bs part rest e cut = record {
  bytes = ap (λ (l : List ℕ). b ∷ l) cut.bytes;
  none = together (not (nat_eq b separator)) (list_all (other separator) part) (ap not e) cut.none;
}

cut_at : (separator : ℕ) (bs : List ℕ) → before separator bs < length bs
    → IsCut separator bs (take (before separator bs) bs) (drop (before separator bs + 1) bs)
cut_at separator [] h = absurd (omega arith)
cut_at separator (b ∷ bs) h =
    elim (cases_Bool (nat_eq b separator)) [
      | inl e ↦
          let here : before separator (b ∷ bs) ≡ 0 = rw e refl in
          let same : b ≡ separator = eqb-true b separator e in
          let found : IsCut separator (b ∷ bs) [] bs =
          record { bytes = ap (λ (x : ℕ). x ∷ bs) same; none = refl } in
          subst (λ (k : ℕ). IsCut separator (b ∷ bs) (take k (b ∷ bs)) (drop (k + 1) (b ∷ bs))) (sym here) found
      | inr e ↦
          let here : before separator (b ∷ bs) ≡ suc (before separator bs) = rw e (omega arith) in
          let less : before separator bs < length bs = omega (arith, here, h) in
          let next : suc (before separator bs) + 1 ≡ suc (before separator bs + 1) = omega arith in
          let found : IsCut separator (b ∷ bs) (b ∷ take (before separator bs) bs) (drop (before separator bs + 1) bs) =
          more_cut separator b bs _ _ e (cut_at separator bs less) in
          subst (λ (k : ℕ). IsCut separator (b ∷ bs) (take k (b ∷ bs)) (drop (k + 1) (b ∷ bs))) (sym here)
          (subst (λ (k : ℕ). IsCut separator (b ∷ bs) (b ∷ take (before separator bs) bs) (drop k (b ∷ bs))) (sym next)
          found)
    ]

cut_nowhere : (separator : ℕ) (bs : List ℕ) → length bs ≤ before separator bs → list_all (other separator) bs ≡ true
cut_nowhere separator [] h = refl
cut_nowhere separator (b ∷ bs) h =
    elim (cases_Bool (nat_eq b separator)) [
      | inl e ↦ let here : before separator (b ∷ bs) ≡ 0 = rw e refl in absurd (omega (arith, here, h))
      | inr e ↦
          let here : before separator (b ∷ bs) ≡ suc (before separator bs) = rw e (omega arith) in
          let less : length bs ≤ before separator bs = omega (arith, here, h) in
          together (not (nat_eq b separator)) (list_all (other separator) bs) (ap not e) (cut_nowhere separator bs less)
    ]

rest_whole : (k : ℕ) (bs : List ℕ) → take (length bs - k) (drop k bs) ≡ drop k bs
rest_whole k bs = ap (λ (n : ℕ). take n (drop k bs)) (sym (length-drop k bs)) ∙ take-length (drop k bs)

pub cut_some : (separator : ℕ) (bs : List ℕ) (at : ℕ) → Some at ≡ position (λ b. nat_eq b separator) bs
    → IsCut separator bs (take at bs) (take (length bs - (at + 1)) (drop (at + 1) bs))
cut_some separator bs at h = subst (IsCut separator bs (take at bs)) (sym (rest_whole (at + 1) bs)) (
    elim (cases_lt (before separator bs) (length bs)) [
      | inl less ↦
          let e : at ≡ before separator bs = same_Some at (before separator bs)
          (h ∙ rw (lt-ltb (before separator bs) (length bs) less) refl) in
          subst (λ (k : ℕ). IsCut separator bs (take k bs) (drop (k + 1) bs)) (sym e) (cut_at separator bs less)
      | inr more ↦ absurd (let e : Some at ≡ None = h ∙ rw (le-ltb (before separator bs) (length bs) more) refl in cc)
    ])

pub cut_none : (separator : ℕ) (bs : List ℕ) → None ≡ position (λ b. nat_eq b separator) bs
    → list_all (other separator) bs ≡ true
cut_none separator bs h =
    elim (cases_lt (before separator bs) (length bs)) [
      | inl less ↦ absurd (let e : None ≡ Some (before separator bs) = h
          ∙ rw (lt-ltb (before separator bs) (length bs) less) refl in cc)
      | inr more ↦ cut_nowhere separator bs more
    ]

-- the words of a line that is cut at its first space, and of one without a space
cut_words : (bs part rest : List ℕ) → IsCut 32 bs part rest → words_in bs ≡ part ∷ words_in rest
cut_words bs part rest cut = ap words_in cut.bytes ∙ first_part 32 part rest cut.none

pub cut_word : (bs part rest : List ℕ) → IsCut 32 bs part rest → word_at (words_in bs) 0 ≡ part
cut_word bs part rest cut = ap (λ (words : List (List ℕ)). word_at words 0) (cut_words bs part rest cut)

pub cut_rest : (bs part rest : List ℕ) → IsCut 32 bs part rest → (k : ℕ)
    → word_at (words_in bs) (suc k) ≡ word_at (words_in rest) k
cut_rest bs part rest cut k = ap (λ (words : List (List ℕ)). word_at words (suc k)) (cut_words bs part rest cut)

pub only_word : (bs : List ℕ) → list_all (other 32) bs ≡ true → word_at (words_in bs) 0 ≡ bs
only_word bs h = ap (λ (words : List (List ℕ)). word_at words 0) (only_part 32 bs h)

none_in : (k : ℕ) → [] ≡ word_at (words_in []) k
none_in zero = refl
none_in (suc k) = refl

pub no_rest : (bs : List ℕ) → list_all (other 32) bs ≡ true → (k : ℕ)
    → word_at (words_in bs) (suc k) ≡ word_at (words_in []) k
no_rest bs h k = ap (λ (words : List (List ℕ)). word_at words (suc k)) (only_part 32 bs h) ∙ none_in k

-- bytes that are cut at the first line's end
pub cut_line : (bs part rest : List ℕ) → IsCut 10 bs part rest
    → (bs ≡ line part ++ rest) × (is_one_line part ≡ true)
cut_line bs part rest cut = (cut.bytes ∙ sym (append_assoc part (10 ∷ []) rest), cut.none)
