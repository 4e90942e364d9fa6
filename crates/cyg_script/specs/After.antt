-- What a reader holds after the lines that it has read, which are given with their numbers, the last of them first.
use Rattle.std.specs.Prelude.{◌≡◌, ℕ, ◌≤◌, ◌++◌, true, List, [], ◌∷◌, length, Option, Some, None}
use Rattle.std.specs.List.{list_all}
use Rattle.w32_base.specs.Names.{is_among}
use Rattle.w32_base.specs.Setup.{module_names, program_names}
use Rattle.script_spec.specs.declared.fault.Sort.{Sort}
use Rattle.script_spec.specs.declared.fault.Sort.TheVariants as sort
use Rattle.script_spec.specs.FirstWords.{sort_of_words}
use Rattle.script_spec.specs.Front.{words_read, past_read}
use Rattle.script_spec.specs.Places.{count_of, instructions_before, names_of, slots_of}
use Rattle.script_spec.specs.Validity.{is_valid_instr, is_valid_module, is_valid_page, is_valid_program, is_valid_line}
use Rattle.cyg_script.specs.declared.heading.Heading.{Heading}
use Rattle.cyg_script.specs.Headings.{is_valid_heading}
use Rattle.cyg_script.specs.Parts.{Parts, stage, past_line}
use Rattle.cyg_script.specs.Written.{IsWritten}

-- the words of the lines that were read, in their order
abbrev pub lines_read : List (ℕ × List (List ℕ)) → List (List (List ℕ))
lines_read [] = []
lines_read (r ∷ read) = lines_read read ++ r.1 ∷ []

-- the sort of the last of some lines
abbrev pub last_sort : List (List (List ℕ)) → Option Sort
last_sort [] = None
last_sort (ws ∷ before) = sort_of_words ws

-- the names of all programs, of the one that hasn't ended too
abbrev pub open_names : Option Heading → List (List ℕ)
open_names None = []
open_names (Some h) = h.name ∷ []

abbrev pub all_names : Parts → List (List ℕ)
all_names p = program_names p.programs ++ open_names p.heading

-- the parts have as much of each sort, and the same names, as the lines that were read
pub record IsCounted (read : List (ℕ × List (List ℕ))) (p : Parts) : Type 0 where
  pub last : last_sort (words_read read) ≡ p.last
  pub first : p.last ≡ None → read ≡ []
  pub slots : 2 ≤ stage p.last → slots_of (words_read read) ≡ p.slots
  pub modules : count_of sort.Module (words_read read) ≡ length p.modules
  pub module_names : (name : List ℕ)
      → is_among name (names_of sort.Module (words_read read)) ≡ is_among name (module_names p.modules)
  pub pages : count_of sort.Occupy (words_read read) ≡ length p.pages
  pub programs : count_of sort.Program (words_read read) ≡ length (all_names p)
  pub program_names : (name : List ℕ)
      → is_among name (names_of sort.Program (words_read read)) ≡ is_among name (all_names p)
  pub code : (h : Heading) → p.heading ≡ Some h → instructions_before (words_read read) ≡ length p.code
  pub past : (h : Heading) → p.heading ≡ Some h → (n : ℕ) → n ≤ 65535
      → past_read n read ≡ past_line n p.code p.code_lines
  pub schedule : count_of sort.Directive (words_read read) ≡ length p.schedule

-- each part is valid
pub record IsSound (p : Parts) : Type 0 where
  pub modules : list_all is_valid_module p.modules ≡ true
  pub pages : list_all is_valid_page p.pages ≡ true
  pub programs : list_all is_valid_program p.programs ≡ true
  pub heading : (h : Heading) → p.heading ≡ Some h → is_valid_heading h ≡ true
  pub code : list_all is_valid_instr p.code ≡ true
  pub lines : list_all (is_valid_line p.slots) p.schedule ≡ true

-- the parts are what these lines say
pub record IsAfter (read : List (ℕ × List (List ℕ))) (p : Parts) : Type 0 where
  pub counted : IsCounted read p
  pub written : IsWritten (lines_read read) p
  pub sound : IsSound p
