-- The first fault of a text: of the least line, and on it the least kind.
use Rattle.std.specs.Prelude.{◌≡◌, ℕ, suc, Bool, true, false, ◌&&◌, ◌||◌, nat_le, nat_lt, List, [], ◌∷◌, length}
use Rattle.std.specs.Prelude.{Option, Some, None, option_map, option_and_then, if◌then◌else◌}
use Rattle.script_spec.specs.declared.fault.Kind.{Kind}
use Rattle.script_spec.specs.declared.fault.Kind.TheVariants.{Large, Target}
use Rattle.script_spec.specs.declared.fault.Sort.{Sort}
use Rattle.script_spec.specs.declared.fault.Sort.TheVariants as sort
use Rattle.script_spec.specs.Lines.{Line, lines_of, words_of, is_skipped}
use Rattle.script_spec.specs.FirstWords.{first_word, sort_of_words, either}
use Rattle.script_spec.specs.Forms.{forms, kept_form, place_as}
use Rattle.script_spec.specs.Places.{end_fault, has_sort}
use Rattle.script_spec.specs.LineFaults.{line_fault}

-- what is said of a line: its number, its sort where it isn't skipped and its first word is known, its least fault but
-- Target, and the place that it names
pub record Judged : Type 0 where
  pub number : ℕ
  pub sort : Option Sort
  pub fault : Option Kind
  pub place : Option ℕ

-- the place that a line of these words names
abbrev pub place_of : List (List ℕ) → Option ℕ
place_of [] = None
place_of (w ∷ ws) = option_and_then (λ word. place_as ws (kept_form (forms 0 word) ws)) (first_word w)

abbrev pub judge : List (List (List ℕ)) → ℕ → Line → Judged
judge before n line = record {
  number = n;
  sort = if is_skipped line.bytes then None else sort_of_words (words_of line.bytes);
  fault = line_fault before line;
  place = if is_skipped line.bytes then None else place_of (words_of line.bytes);
}

-- the lines before the next one
abbrev pub and_line : List (List (List ℕ)) → Line → List (List (List ℕ))
and_line before line = if is_skipped line.bytes then before else words_of line.bytes ∷ before

-- each line after the lines before, the first of them with the number n, and at last the end of the text
abbrev pub judged : List (List (List ℕ)) → ℕ → List Line → List Judged
judged before n [] = (record { number = n; sort = None; fault = end_fault before; place = None }) ∷ []
judged before n (l ∷ ls) = judge before n l ∷ judged (and_line before l) (suc n) ls

-- a line ends the program before it
abbrev pub ends_program : Judged → Bool
ends_program j = has_sort sort.Program j.sort || has_sort sort.Schedule j.sort

-- the lines of a program after its own first one, where a line ends it
abbrev pub and_then_line : Judged → Option (List Judged) → Option (List Judged)
and_then_line j = option_map (λ (js : List Judged). j ∷ js)

abbrev pub body_of : List Judged → Option (List Judged)
body_of [] = None
body_of (j ∷ js) = if ends_program j then Some [] else and_then_line j (body_of js)

abbrev pub instructions_of : List Judged → ℕ
instructions_of [] = 0
instructions_of (j ∷ js) = if has_sort sort.Instruction j.sort then suc (instructions_of js) else instructions_of js

abbrev pub is_none : {A : Type 0} → Option A → Bool
is_none None = true
is_none (Some x) = false

abbrev pub are_faultless : List Judged → Bool
are_faultless [] = true
are_faultless (j ∷ js) = is_none j.fault && are_faultless js

-- the first of some lines that names a place not below n
abbrev pub is_past : ℕ → Option ℕ → Bool
is_past n None = false
is_past n (Some place) = nat_le n place

abbrev pub first_past : ℕ → List Judged → Option (ℕ × Kind)
first_past n [] = None
first_past n (j ∷ js) = if is_past n j.place then Some (j.number, Target) else first_past n js

-- the first line of a program that names a place past its end; only in a program that ends, and has no other fault
abbrev pub target_fault : Option (List Judged) → Option (ℕ × Kind)
target_fault None = None
target_fault (Some js) = if are_faultless js then first_past (instructions_of js) js else None

-- the fault of a line itself, with its number
abbrev pub own_fault : Judged → Option (ℕ × Kind)
own_fault j = option_map (λ (kind : Kind). (j.number, kind)) j.fault

-- the fault of the least line: a program has no fault where one of its lines names a place past its end
abbrev pub least_line_fault : List Judged → Option (ℕ × Kind)
least_line_fault [] = None
least_line_fault (j ∷ js) = either (own_fault j)
    (either (if has_sort sort.Program j.sort then target_fault (body_of js) else None) (least_line_fault js))

-- the first fault of a text, if it has one
abbrev pub fault_of : List ℕ → Option (ℕ × Kind)
fault_of text = if nat_lt 1048576 (length text) then Some (0, Large) else least_line_fault (judged [] 1 (lines_of text))

abbrev pub IsFirstFault : List ℕ → ℕ → Kind → Type 0
IsFirstFault text line kind = fault_of text ≡ Some (line, kind)
