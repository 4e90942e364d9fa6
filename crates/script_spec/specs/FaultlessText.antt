-- A text without a fault has plain lines, of which those that aren't skipped follow each other without a fault.
use Rattle.std.proofs.Common.{◌≡◌, ℕ, suc, ◌≤◌, Bool, true, false, ◌&&◌, not, nat_eq, nat_le, nat_lt, List, [], ◌∷◌}
use Rattle.std.proofs.Common.{◌++◌, map, length, Option, Some, None, refl, sym, ap, ◌∙◌, inl, inr}
use Rattle.std.specs.Prelude.{option_map, if◌then◌else◌}
use Rattle.std.specs.List.{list_all}
use Rattle.std.proofs.lemmas.Bool.{cases_Bool, and_from, not_from_false, ltb-false, le-leb, eqb-true}
use Rattle.script_spec.specs.declared.fault.Kind.{Kind}
use Rattle.script_spec.specs.declared.fault.Kind.TheVariants.{Large, Target}
use Rattle.script_spec.specs.declared.fault.Sort.TheVariants as sort
use Rattle.script_spec.specs.Lines.{with_byte, Line, lines_of, words_of, spaced, is_skipped, not_skipped}
use Rattle.script_spec.specs.Places.{has_sort, instructions_before, end_fault}
use Rattle.script_spec.specs.FirstWords.{sort_of_words, either}
use Rattle.script_spec.specs.LineFaults.{is_printable, bytes_fault, words_fault, line_fault}
use Rattle.script_spec.specs.FirstFault.{place_of, is_past, fault_of}
use Rattle.script_spec.specs.Grammar.{is_plain}
use Rattle.script_spec.specs.TextLaws.{pieces_some}
use Rattle.script_spec.specs.Front.{words_read, line_if, past_read, past_end, is_ending, and_read, rest_fault}
use Rattle.script_spec.specs.FrontLaws.{rest-start, rest-end, rest-past, rest-fault, rest-next}
use Rattle.script_spec.specs.LineFaultLaws.{least-none}
use Rattle.script_spec.specs.Follow.{are_below, Follow}

-- a line is its words with spaces between
joined : (p : List ℕ) (ps : List (List ℕ)) → (ps ≡ [] → ⊥) → spaced (p ∷ ps) ≡ p ++ (32 ∷ spaced ps)
joined p [] h = absurd (h refl)
joined p (q ∷ ps) h = refl

with_front : (b : ℕ) (ps : List (List ℕ)) → (ps ≡ [] → ⊥) → spaced (with_byte b ps) ≡ b ∷ spaced ps
with_front b [] h = absurd (h refl)
with_front b (p ∷ []) h = refl
with_front b (p ∷ q ∷ ps) h = refl

pub spaced-words_of : (bytes : List ℕ) → spaced (words_of bytes) ≡ bytes
spaced-words_of [] = refl
spaced-words_of (b ∷ bs) =
    elim (cases_Bool (nat_eq b 32)) [
      | inl t ↦
          let is : b ≡ 32 = eqb-true b 32 t in
          rw t (joined [] (words_of bs) (pieces_some 32 bs) ∙ rw is (ap (λ (r : List ℕ). 32 ∷ r) (spaced-words_of bs)))
      | inr t ↦
          rw t (with_front b (words_of bs) (pieces_some 32 bs) ∙ ap (λ (r : List ℕ). b ∷ r) (spaced-words_of bs))
    ]

-- a line without a fault of its bytes
no_bytes_fault : (a b c : Bool) (k l m : Kind)
    → (if not a then Some k else (if not b then Some l else (if c then Some m else None))) ≡ None
    → (a ≡ true) × (b ≡ true) × (c ≡ false)
no_bytes_fault false b c k l m h = absurd cc
no_bytes_fault true false c k l m h = absurd cc
no_bytes_fault true true true k l m h = absurd cc
no_bytes_fault true true false k l m h = (refl, refl, refl)

plain_line : (l : Line) → bytes_fault l ≡ None → is_plain l ≡ true
plain_line l h =
    let p = no_bytes_fault l.is_ended (list_all is_printable l.bytes) (nat_lt 200 (length l.bytes)) _ _ _ h in
    and_from (l.is_ended && list_all is_printable l.bytes) (nat_le (length l.bytes) 200)
    (and_from l.is_ended (list_all is_printable l.bytes) p.0 p.1)
    (le-leb (length l.bytes) 200 (ltb-false 200 (length l.bytes) p.2))

-- no instruction names a place past the program
no_line : (b : Bool) (n : ℕ) → line_if b n ≡ None → b ≡ false
no_line true n h = absurd cc
no_line false n h = refl

neither : (x y : Option ℕ) → either x y ≡ None → (x ≡ None) × (y ≡ None)
neither None y h = (refl, h)
neither (Some x) y h = absurd cc

read_below : (n : ℕ) (read : List (ℕ × List (List ℕ))) → past_read n read ≡ None → are_below n (words_read read) ≡ true
read_below n [] h = refl
read_below n (r ∷ read) h =
    elim (cases_Bool (has_sort sort.Instruction (sort_of_words r.1))) [
      | inl t ↦
          let p = neither (past_read n read) (line_if (is_past n (place_of r.1)) r.0) (rw t at h) in
          rw t
          (and_from (not (is_past n (place_of r.1))) (are_below n (words_read read))
          (not_from_false (is_past n (place_of r.1)) (no_line (is_past n (place_of r.1)) r.0 p.1))
          (read_below n read p.0))
      | inr t ↦ rw t refl
    ]

none_unless : {A : Type 0} (o : Option A) → ((a : A) → o ≡ Some a → ⊥) → o ≡ None
none_unless None h = refl
none_unless (Some a) h = absurd (h a refl)

-- the rest of a text without a fault
pub rest-faultless : (read : List (ℕ × List (List ℕ))) (n : ℕ) (ls : List Line) → rest_fault read n ls ≡ None
    → (list_all is_plain ls ≡ true) × Follow (words_read read) (map words_of (not_skipped ls))
rest-faultless read n [] h = (
  refl,
  none_unless (end_fault (words_read read))
      (λ kind e.
      let f : Some (n, kind) ≡ None =
      sym (ap (option_map (λ (k : Kind). (n, k))) e) ∙ sym (rest-end read n) ∙ h in cc),
)
rest-faultless read n (l ∷ ls) h =
    let ends : is_ending l ≡ true → past_end read ≡ None = λ x.
    none_unless (past_end read)
    (λ m e. let f : Some (m, Target) ≡ None = sym (rest-past read n l ls m x e) ∙ h in cc) in
    let fault : line_fault (words_read read) l ≡ None =
    none_unless (line_fault (words_read read) l)
    (λ kind e. let f : Some (n, kind) ≡ None = sym (rest-fault read n l ls kind ends e) ∙ h in cc) in
    let next : rest_fault (and_read read n l) (suc n) ls ≡ None = sym (rest-next read n l ls ends fault) ∙ h in
    let others = rest-faultless (and_read read n l) (suc n) ls next in
    let parts =
    least-none (bytes_fault l)
    (if is_skipped l.bytes then None else words_fault (words_read read) (words_of l.bytes)) fault in
    let plain = and_from (is_plain l) (list_all is_plain ls) (plain_line l parts.0) others.0 in
    elim (cases_Bool (is_skipped l.bytes)) [
      | inl t ↦ (plain, rw t (rw t at others.1))
      | inr t ↦ (
        plain,
        rw t (
          rw t at parts.1,
          λ x. read_below (instructions_before (words_read read)) read (ends (rw t x)),
          rw t at others.1,
        ),
      )
    ]

spaced_lines : (lines : List (List ℕ)) → lines ≡ map spaced (map words_of lines)
spaced_lines [] = refl
spaced_lines (l ∷ lines) = rw (spaced-words_of l) (ap (λ (ls : List (List ℕ)). l ∷ ls) (spaced_lines lines))

-- a text without a fault
pub record IsFaultless (text : List ℕ) (lines : List (List (List ℕ))) : Type 0 where
  pub size : length text ≤ 1048576
  pub plain : list_all is_plain (lines_of text) ≡ true
  pub written : not_skipped (lines_of text) ≡ map spaced lines
  pub follow : Follow [] lines

small : (text : List ℕ) → fault_of text ≡ None → nat_lt 1048576 (length text) ≡ false
small text h =
    elim (cases_Bool (nat_lt 1048576 (length text))) [
      | inl t ↦ absurd (let e : Some (0, Large) ≡ None = rw t at h in cc)
      | inr t ↦ t
    ]

pub text-faultless : (text : List ℕ) → fault_of text ≡ None
    → IsFaultless text (map words_of (not_skipped (lines_of text)))
text-faultless text h =
    let few = small text h in
    let r = rest-faultless [] 1 (lines_of text) (sym (rest-start text few) ∙ h) in
    record {
      size = ltb-false 1048576 (length text) few;
      plain = r.0;
      written = spaced_lines (not_skipped (lines_of text));
      follow = r.1;
    }
