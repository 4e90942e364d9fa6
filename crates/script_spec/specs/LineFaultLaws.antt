-- The least fault of a line: of its bytes, then of its place, then of its words.
use Rattle.std.proofs.Common.{◌≡◌, ℕ, Bool, true, false, nat_eq, nat_le, List, [], ◌∷◌}
use Rattle.std.proofs.Common.{Option, Some, None, refl, inl, inr}
use Rattle.std.specs.Prelude.{if◌then◌else◌, codes}
use Rattle.std.proofs.lemmas.Bool.{cases_Bool, and_parts, and_from, eq-eqb, eqb-true}
use Rattle.w32_base.specs.Names.{is_same}
use Rattle.script_spec.specs.declared.fault.Kind.{Kind}
use Rattle.script_spec.specs.declared.fault.Kind.TheVariants.{NoHeader}
use Rattle.script_spec.specs.declared.fault.FirstWord.{FirstWord}
use Rattle.script_spec.specs.declared.fault.Sort.{Sort}
use Rattle.script_spec.specs.declared.fault.Sort.TheVariants as sort
use Rattle.script_spec.specs.Faults.{kind_number, least}
use Rattle.script_spec.specs.FirstWords.{first_word, sort_of, sort_of_words}
use Rattle.script_spec.specs.Places.{place_fault}
use Rattle.script_spec.specs.LineFaults.{written_fault, begun_fault, is_header, words_fault}

pub is_same-self : (xs : List ℕ) → is_same xs xs ≡ true
is_same-self [] = refl
is_same-self (x ∷ xs) = and_from (nat_eq x x) (is_same xs xs) (eq-eqb x x refl) (is_same-self xs)

pub is_same-true : (xs ys : List ℕ) → is_same xs ys ≡ true → xs ≡ ys
is_same-true [] [] h = refl
is_same-true [] (y ∷ ys) h = absurd cc
is_same-true (x ∷ xs) [] h = absurd cc
is_same-true (x ∷ xs) (y ∷ ys) h =
    let p = and_parts (nat_eq x y) (is_same xs ys) h in
    let e : x ≡ y = eqb-true x y p.0 in
    let f : xs ≡ ys = is_same-true xs ys p.1 in
    cc

chosen : (b : Bool) (k o : Kind) → (if b then Some k else Some o) ≡ None → ⊥
chosen true k o h = cc
chosen false k o h = cc

-- two things without a fault
pub least-none : (x y : Option Kind) → least x y ≡ None → (x ≡ None) × (y ≡ None)
least-none None y h = (refl, h)
least-none (Some k) None h = absurd cc
least-none (Some k) (Some o) h = absurd (chosen (nat_le (kind_number k) (kind_number o)) k o h)

-- the first line that isn't skipped
pub header_true : (ws : List (List ℕ)) → words_fault [] ws ≡ None → is_header ws ≡ true
header_true ws h =
    elim (cases_Bool (is_header ws)) [
      | inl t ↦ t
      | inr t ↦ absurd (let e : Some NoHeader ≡ None = rw t at h in cc)
    ]

pub header_words : (ws : List (List ℕ)) → is_header ws ≡ true → ws ≡ codes "cygscript" ∷ codes "1" ∷ []
header_words [] h = absurd cc
header_words (w ∷ []) h = absurd cc
header_words (w ∷ v ∷ []) h =
    let p = and_parts (is_same (codes "cygscript") w) (is_same (codes "1") v) h in
    let e = is_same-true (codes "cygscript") w p.0 in
    let f = is_same-true (codes "1") v p.1 in
    rw (← e, ← f) refl
header_words (w ∷ v ∷ u ∷ ws) h = absurd cc

pub header_sort : (ws : List (List ℕ)) → words_fault [] ws ≡ None → sort_of_words ws ≡ Some sort.Header
header_sort ws h = rw (header_words ws (header_true ws h)) refl

-- a line without a fault after another one
pub record IsBegun (one : List (List ℕ)) (before : List (List (List ℕ))) (ws : List (List ℕ)) : Type 0 where
  pub last : Sort
  pub word : FirstWord
  pub first : List ℕ
  pub others : List (List ℕ)
  pub words : ws ≡ first ∷ others
  pub known : first_word first ≡ Some word
  pub after : sort_of_words one ≡ Some last
  pub follows : place_fault last (sort_of word) ≡ None
  pub written : written_fault (one ∷ before) word others ≡ None

begun : (one : List (List ℕ)) (before : List (List (List ℕ))) (w : List ℕ) (ws : List (List ℕ)) (s : Option Sort)
    (f : Option FirstWord) → sort_of_words one ≡ s → first_word w ≡ f → begun_fault (one ∷ before) s f ws ≡ None
    → IsBegun one before (w ∷ ws)
begun one before w ws s None e g h = absurd cc
begun one before w ws None (Some word) e g h = absurd cc
begun one before w ws (Some last) (Some word) e g h =
    let p = least-none (place_fault last (sort_of word)) (written_fault (one ∷ before) word ws) h in
    record {
      last = last;
      word = word;
      first = w;
      others = ws;
      words = refl;
      known = g;
      after = e;
      follows = p.0;
      written = p.1;
    }

pub begins : (one : List (List ℕ)) (before : List (List (List ℕ))) (ws : List (List ℕ))
    → words_fault (one ∷ before) ws ≡ None → IsBegun one before ws
begins one before [] h = absurd cc
begins one before (w ∷ ws) h = begun one before w ws (sort_of_words one) (first_word w) refl refl h

pub begun_sort : {one : List (List ℕ)} {before : List (List (List ℕ))} {ws : List (List ℕ)} (b : IsBegun one before ws)
    → sort_of_words ws ≡ Some (sort_of b.word)
begun_sort b = rw b.words (rw b.known refl)
