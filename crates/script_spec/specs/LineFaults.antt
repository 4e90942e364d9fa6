-- The least fault of a line, but for the places that it names.
use Rattle.std.specs.Prelude.{ℕ, ◌+◌, Bool, false, ◌&&◌, not, nat_le, nat_lt, List, [], ◌∷◌, length, Option, Some}
use Rattle.std.specs.Prelude.{None, codes, if◌then◌else◌}
use Rattle.std.specs.List.{list_all}
use Rattle.w32_base.specs.Names.{is_same, is_among}
use Rattle.script_spec.specs.declared.fault.Kind.{Kind}
use Rattle.script_spec.specs.declared.fault.Kind.TheVariants.{NoHeader, Unfinished, NotAscii, TooLong, Unknown, Range}
use Rattle.script_spec.specs.declared.fault.Kind.TheVariants.{Twice, TooMany}
use Rattle.script_spec.specs.declared.fault.FirstWord.{FirstWord}
use Rattle.script_spec.specs.declared.fault.FirstWord.TheVariants as first
use Rattle.script_spec.specs.declared.fault.Sort.{Sort}
use Rattle.script_spec.specs.declared.fault.Sort.TheVariants as sort
use Rattle.script_spec.specs.Lines.{Line, words_of, is_skipped}
use Rattle.script_spec.specs.Numbers.{value_of}
use Rattle.script_spec.specs.Faults.{fault_if, least}
use Rattle.script_spec.specs.FirstWords.{first_word, sort_of, sort_of_words}
use Rattle.script_spec.specs.Forms.{forms, forms_fault}
use Rattle.script_spec.specs.Places.{place_fault, count_of, instructions_before, names_of, slots_of, is_one_of}

abbrev pub is_printable : ℕ → Bool
is_printable b = nat_le 32 b && nat_le b 126

-- of every line, skipped ones too: it is ended, of the right bytes, and not too long
abbrev pub bytes_fault : Line → Option Kind
bytes_fault line = if not line.is_ended then Some Unfinished
    else (if not (list_all is_printable line.bytes) then Some NotAscii else
    fault_if (nat_lt 200 (length line.bytes)) TooLong)

-- the pages of a module end at 1024
abbrev pub pages_fault : FirstWord → List (List ℕ) → Option Kind
pages_fault first.Module (name ∷ base ∷ size ∷ ws) = fault_if (nat_lt 1024 (value_of base + value_of size)) Range
pages_fault _ _ = None

-- two modules have two names, and so have two programs
abbrev pub is_named_before : Sort → List (List (List ℕ)) → List (List ℕ) → Bool
is_named_before s before [] = false
is_named_before s before (name ∷ ws) = is_among name (names_of s before)

abbrev pub twice_fault : Sort → List (List (List ℕ)) → List (List ℕ) → Option Kind
twice_fault s before ws = fault_if (is_one_of (sort.Module ∷ sort.Program ∷ []) s && is_named_before s before ws) Twice

-- As many lines of this sort stood before as there may be. The other sorts have one line each, as their places say.
abbrev pub is_full : Sort → List (List (List ℕ)) → Bool
is_full sort.Module before = nat_le 8 (count_of sort.Module before)
is_full sort.Occupy before = nat_le 64 (count_of sort.Occupy before)
is_full sort.Program before = nat_le 32 (count_of sort.Program before)
is_full sort.Instruction before = nat_le 4000 (instructions_before before)
is_full sort.Directive before = nat_le 10000 (count_of sort.Directive before)
is_full _ before = false

-- the fault of the words after a first word that may stand here
abbrev pub written_fault : List (List (List ℕ)) → FirstWord → List (List ℕ) → Option Kind
written_fault before word ws =
    least (forms_fault (forms (slots_of before) word) ws)
    (least (pages_fault word ws)
    (least (twice_fault (sort_of word) before ws)
    (fault_if (is_full (sort_of word) before) TooMany)))

-- the fault of a line with a known first word, after a line of a sort; a line that may not stand here is judged no
-- further
abbrev pub known_fault : List (List (List ℕ)) → Option Sort → FirstWord → List (List ℕ) → Option Kind
known_fault before None word ws = Some Unknown
known_fault before (Some last) word ws = least (place_fault last (sort_of word)) (written_fault before word ws)

abbrev pub begun_fault : List (List (List ℕ)) → Option Sort → Option FirstWord → List (List ℕ) → Option Kind
begun_fault before last None ws = Some Unknown
begun_fault before last (Some word) ws = known_fault before last word ws

-- `cygscript 1`
abbrev pub is_header : List (List ℕ) → Bool
is_header [] = false
is_header (w ∷ []) = false
is_header (w ∷ v ∷ []) = is_same (codes "cygscript") w && is_same (codes "1") v
is_header (w ∷ v ∷ u ∷ ws) = false

-- the fault of the words of a line that isn't skipped, after the lines before
abbrev pub words_fault : List (List (List ℕ)) → List (List ℕ) → Option Kind
words_fault [] ws = if is_header ws then None else Some NoHeader
words_fault (last ∷ before) [] = Some Unknown
words_fault (last ∷ before) (w ∷ ws) = begun_fault (last ∷ before) (sort_of_words last) (first_word w) ws

-- a line's fault
abbrev pub line_fault : List (List (List ℕ)) → Line → Option Kind
line_fault before line =
    least (bytes_fault line) (if is_skipped line.bytes then None else words_fault before (words_of line.bytes))
