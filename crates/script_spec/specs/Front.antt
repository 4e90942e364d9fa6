-- The first fault of a text from its front: what is left of it once some lines were read. The lines that were read and
-- aren't skipped are given as their numbers and words, the last of them first.
use Rattle.std.specs.Prelude.{ℕ, ◌+◌, Bool, false, ◌||◌, List, [], ◌∷◌, map, Option, Some, None, option_map}
use Rattle.std.specs.Prelude.{if◌then◌else◌}
use Rattle.script_spec.specs.declared.fault.Kind.{Kind}
use Rattle.script_spec.specs.declared.fault.Kind.TheVariants.{Target}
use Rattle.script_spec.specs.declared.fault.Sort.{Sort}
use Rattle.script_spec.specs.declared.fault.Sort.TheVariants as sort
use Rattle.script_spec.specs.Lines.{Line, words_of, is_skipped}
use Rattle.script_spec.specs.FirstWords.{sort_of_words, either}
use Rattle.script_spec.specs.Places.{has_sort, instructions_before}
use Rattle.script_spec.specs.FirstFault.{Judged, judge, judged, ends_program, body_of, instructions_of, are_faultless}
use Rattle.script_spec.specs.FirstFault.{place_of, is_past, first_past, least_line_fault}

-- the words of the lines that were read
abbrev pub words_read : List (ℕ × List (List ℕ)) → List (List (List ℕ))
words_read read = map (λ (r : ℕ × List (List ℕ)). r.1) read

-- the line of the first of the instructions straight before that names a place not below n
abbrev pub line_if : Bool → ℕ → Option ℕ
line_if b n = if b then Some n else None

abbrev pub past_read : ℕ → List (ℕ × List (List ℕ)) → Option ℕ
past_read n [] = None
past_read n (r ∷ read) = if has_sort sort.Instruction (sort_of_words r.1)
    then either (past_read n read) (line_if (is_past n (place_of r.1)) r.0) else None

-- the first instruction of the program that the lines that were read end with, if any, that names a place past it
abbrev pub past_end : List (ℕ × List (List ℕ)) → Option ℕ
past_end read = past_read (instructions_before (words_read read)) read

-- a line that ends a program
abbrev pub is_ending : Line → Bool
is_ending line = ends_program (judge [] 0 line)

-- the lines that were read, and this one
abbrev pub and_read : List (ℕ × List (List ℕ)) → ℕ → Line → List (ℕ × List (List ℕ))
and_read read n line = if is_skipped line.bytes then read else (n, words_of line.bytes) ∷ read

-- a program is open: its own line or an instruction is the last line
abbrev pub is_open_after : Option Sort → Bool
is_open_after s = has_sort sort.Program s || has_sort sort.Instruction s

abbrev pub is_open : List (ℕ × List (List ℕ)) → Bool
is_open [] = false
is_open (r ∷ read) = is_open_after (sort_of_words r.1)

-- the line of a fault of an instruction's place
abbrev pub targeted : Option ℕ → Option (ℕ × Kind)
targeted = option_map (λ (line : ℕ). (line, Target))

-- the first line that names a place not below n, of the instructions straight before and then of some lines
abbrev pub past_with : ℕ → List (ℕ × List (List ℕ)) → List Judged → Option (ℕ × Kind)
past_with n read js = either (targeted (past_read n read)) (first_past n js)

-- the fault of the open program, where some lines more and then a line that ends it follow
abbrev pub closed_fault : List (ℕ × List (List ℕ)) → Option (List Judged) → Option (ℕ × Kind)
closed_fault read None = None
closed_fault read (Some js) = if are_faultless js
    then past_with (instructions_before (words_read read) + instructions_of js) read js else None

abbrev pub open_fault : List (ℕ × List (List ℕ)) → List Judged → Option (ℕ × Kind)
open_fault read js = if is_open read then closed_fault read (body_of js) else None

-- the first fault where these lines follow
abbrev pub following_fault : List (ℕ × List (List ℕ)) → List Judged → Option (ℕ × Kind)
following_fault read js = either (open_fault read js) (least_line_fault js)

-- the first fault of a text of which these lines were read, where these are left, of which the first has the number n
abbrev pub rest_fault : List (ℕ × List (List ℕ)) → ℕ → List Line → Option (ℕ × Kind)
rest_fault read n lines = following_fault read (judged (words_read read) n lines)
