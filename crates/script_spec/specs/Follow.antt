-- Lines, as their words, that follow others without a fault; and a text of such lines has no fault.
use Rattle.std.proofs.Common.{◌≡◌, ℕ, suc, Bool, true, false, ◌&&◌, ◌||◌, not, nat_le, List, [], ◌∷◌, map, length}
use Rattle.std.proofs.Common.{Option, Some, None, refl, ap, ◌∙◌, inl, inr}
use Rattle.std.specs.Prelude.{if◌then◌else◌}
use Rattle.std.specs.List.{list_all}
use Rattle.std.proofs.lemmas.Bool.{cases_Bool, and_parts, not-true, leb-true, le-ltb}
use Rattle.script_spec.specs.declared.fault.Kind.{Kind}
use Rattle.script_spec.specs.declared.fault.Kind.TheVariants.{TooMany}
use Rattle.script_spec.specs.declared.fault.FirstWord.{FirstWord}
use Rattle.script_spec.specs.declared.fault.Sort.{Sort}
use Rattle.script_spec.specs.declared.fault.Sort.TheVariants as sort
use Rattle.script_spec.specs.Lines.{Line, words_of, spaced, is_skipped, not_skipped}
use Rattle.script_spec.specs.Faults.{fault_if, least}
use Rattle.script_spec.specs.FirstWords.{first_word, sort_of, sort_of_words}
use Rattle.script_spec.specs.Forms.{forms, forms_fault}
use Rattle.script_spec.specs.Places.{has_sort, place_fault, instructions_before, end_fault, slots_of}
use Rattle.script_spec.specs.LineFaults.{is_printable, bytes_fault, pages_fault, twice_fault, is_full, written_fault}
use Rattle.script_spec.specs.LineFaults.{words_fault, line_fault}
use Rattle.script_spec.specs.FirstFault.{place_of, is_past}
use Rattle.script_spec.specs.Grammar.{is_plain}
use Rattle.script_spec.specs.TextLaws.{words_of-spaced}
use Rattle.script_spec.specs.InstrLaws.{are_words, is_headed}
use Rattle.script_spec.specs.LineLaws.{is_good, good_words}
use Rattle.script_spec.specs.Front.{words_read, past_read, rest_fault}
use Rattle.script_spec.specs.FrontLaws.{rest-end, rest-next}
use Rattle.script_spec.specs.OneLineLaws.{line_fault-skipped}

-- a line that ends a program
abbrev pub is_end : Option Sort → Bool
is_end s = has_sort sort.Program s || has_sort sort.Schedule s

-- the instructions straight before name places below n
abbrev pub are_below : ℕ → List (List (List ℕ)) → Bool
are_below n [] = true
are_below n (ws ∷ before) = if has_sort sort.Instruction (sort_of_words ws)
    then not (is_past n (place_of ws)) && are_below n before else true

-- these lines follow those before without a fault, and the text may end after them
abbrev pub Follow : List (List (List ℕ)) → List (List (List ℕ)) → Type 0
Follow before [] = end_fault before ≡ None
Follow before (ws ∷ lines) = (words_fault before ws ≡ None)
    × (is_end (sort_of_words ws) ≡ true → are_below (instructions_before before) before ≡ true)
    × Follow (ws ∷ before) lines

-- the sort of the last line before
abbrev pub last_sort : List (List (List ℕ)) → Option Sort
last_sort [] = None
last_sort (ws ∷ before) = sort_of_words ws

pub no_fault-least : (x y : Option Kind) → x ≡ None → y ≡ None → least x y ≡ None
no_fault-least x y h k = rw (h, k) refl

pub written-none : (slots : ℕ) (before : List (List (List ℕ))) (word : FirstWord) (ws : List (List ℕ))
    → slots_of before ≡ slots → forms_fault (forms slots word) ws ≡ None → pages_fault word ws ≡ None
    → twice_fault (sort_of word) before ws ≡ None → is_full (sort_of word) before ≡ false
    → written_fault before word ws ≡ None
written-none slots before word ws s f p t m =
    let full : Option Kind = fault_if (is_full (sort_of word) before) TooMany in
    let twice : Option Kind = twice_fault (sort_of word) before ws in
    no_fault-least (forms_fault (forms (slots_of before) word) ws) (least (pages_fault word ws) (least twice full))
    (ap (λ (n : ℕ). forms_fault (forms n word) ws) s ∙ f)
    (no_fault-least (pages_fault word ws) (least twice full) p (no_fault-least twice full t (rw m refl)))

pub words-none : (before : List (List (List ℕ))) (last : Sort) (w : List ℕ) (ws : List (List ℕ)) (word : FirstWord)
    → last_sort before ≡ Some last → first_word w ≡ Some word → place_fault last (sort_of word) ≡ None
    → written_fault before word ws ≡ None → words_fault before (w ∷ ws) ≡ None
words-none [] last w ws word l f p h = absurd cc
words-none (one ∷ before) last w ws word l f p h =
    rw (l, f) (no_fault-least (place_fault last (sort_of word)) (written_fault (one ∷ before) word ws) p h)

below_read : (n : ℕ) (read : List (ℕ × List (List ℕ))) → are_below n (words_read read) ≡ true → past_read n read ≡ None
below_read n [] h = refl
below_read n (r ∷ read) h =
    elim (cases_Bool (has_sort sort.Instruction (sort_of_words r.1))) [
      | inl t ↦
          let p = and_parts (not (is_past n (place_of r.1))) (are_below n (words_read read)) (rw t at h) in
          rw (t, below_read n read p.1, not-true (is_past n (place_of r.1)) p.0) refl
      | inr t ↦ rw t refl
    ]

plain_bytes : (l : Line) → is_plain l ≡ true → bytes_fault l ≡ None
plain_bytes l h =
    let p = and_parts (l.is_ended && list_all is_printable l.bytes) (nat_le (length l.bytes) 200) h in
    let q = and_parts l.is_ended (list_all is_printable l.bytes) p.0 in
    rw (q.0, q.1, le-ltb 200 (length l.bytes) (leb-true (length l.bytes) 200 p.1)) refl

pub good_words_of : (ws : List (List ℕ)) → is_good ws ≡ true → words_of (spaced ws) ≡ ws
good_words_of [] h = absurd cc
good_words_of (w ∷ ws) h =
    words_of-spaced w ws (good_words (w ∷ ws) (and_parts (are_words (w ∷ ws)) (is_headed (w ∷ ws)) h).0)

line_none : (before : List (List (List ℕ))) (l : Line) → is_skipped l.bytes ≡ false → bytes_fault l ≡ None
    → words_fault before (words_of l.bytes) ≡ None → line_fault before l ≡ None
line_none before l s b w =
    no_fault-least (bytes_fault l) (if is_skipped l.bytes then None else words_fault before (words_of l.bytes)) b
    (rw s w)

skipped_line : (read : List (ℕ × List (List ℕ))) (n : ℕ) (l : Line) (ls : List Line) → is_skipped l.bytes ≡ true
    → is_plain l ≡ true → rest_fault read n (l ∷ ls) ≡ rest_fault read (suc n) ls
skipped_line read n l ls t p =
    rest-next read n l ls (λ x. absurd (let y : false ≡ true = rw t at x in cc))
    (line_fault-skipped (words_read read) l t ∙ plain_bytes l p) ∙ rw t refl

-- a line that isn't skipped
kept_line : (read : List (ℕ × List (List ℕ))) (n : ℕ) (l : Line) (ls : List Line) (ws : List (List ℕ))
    → is_skipped l.bytes ≡ false → is_plain l ≡ true → l.bytes ≡ spaced ws → is_good ws ≡ true
    → words_fault (words_read read) ws ≡ None
    → (is_end (sort_of_words ws) ≡ true
    → are_below (instructions_before (words_read read)) (words_read read) ≡ true)
    → rest_fault read n (l ∷ ls) ≡ rest_fault ((n, ws) ∷ read) (suc n) ls
kept_line read n l ls ws t p e g f b =
    let is : words_of l.bytes ≡ ws = ap words_of e ∙ good_words_of ws g in
    rest-next read n l ls
    (λ x. below_read (instructions_before (words_read read)) read
    (b (rw (t, is) at x)))
    (line_none (words_read read) l t (plain_bytes l p) (rw is f))
    ∙ rw (t, is) refl

-- a text of plain lines, of which those that aren't skipped follow without a fault, has no fault
pub rest-none : (read : List (ℕ × List (List ℕ))) (n : ℕ) (ls : List Line) (lines : List (List (List ℕ)))
    → list_all is_plain ls ≡ true → not_skipped ls ≡ map spaced lines → list_all is_good lines ≡ true
    → Follow (words_read read) lines → rest_fault read n ls ≡ None
rest-none read n [] [] p e g f = rest-end read n ∙ rw f refl
rest-none read n [] (ws ∷ lines) p e g f = absurd cc
rest-none read n (l ∷ ls) [] p e g f =
    let q = and_parts (is_plain l) (list_all is_plain ls) p in
    elim (cases_Bool (is_skipped l.bytes)) [
      | inl t ↦ skipped_line read n l ls t q.0 ∙ rest-none read (suc n) ls [] q.1 (rw t at e) g f
      | inr t ↦ absurd (let y : ◌≡◌ {A = List (List ℕ)} (l.bytes ∷ not_skipped ls) [] = rw t at e in cc)
    ]
rest-none read n (l ∷ ls) (ws ∷ lines) p e g f =
    let q = and_parts (is_plain l) (list_all is_plain ls) p in
    let h = and_parts (is_good ws) (list_all is_good lines) g in
    elim (cases_Bool (is_skipped l.bytes)) [
      | inl t ↦ skipped_line read n l ls t q.0 ∙ rest-none read (suc n) ls (ws ∷ lines) q.1 (rw t at e) g f
      | inr t ↦
          let y : ◌≡◌ {A = List (List ℕ)} (l.bytes ∷ not_skipped ls) (spaced ws ∷ map spaced lines) = rw t at e in
          let first : l.bytes ≡ spaced ws = cc in
          let others : not_skipped ls ≡ map spaced lines = cc in
          kept_line read n l ls ws t q.0 first h.0 f.0 f.1
          ∙ rest-none ((n, ws) ∷ read) (suc n) ls lines q.1 others h.1 f.2
    ]
