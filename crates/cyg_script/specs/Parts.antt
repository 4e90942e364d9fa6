-- What a reader of a script holds, and the order in which it gets it.
use Rattle.std.specs.Prelude.{◌≡◌, ℕ, ◌≤◌, ◌<◌, Bool, true, false, List, [], ◌∷◌, length, Option, Some, None}
use Rattle.std.specs.Prelude.{if◌then◌else◌}
use Rattle.std.specs.List.{list_all}
use Rattle.w32_base.specs.Names.{is_among, are_distinct}
use Rattle.w32_base.specs.Setup.{module_names, program_names}
use Rattle.w32_base.specs.Targets.{is_target_below}
use Rattle.w32_base.specs.declared.instr.Instr.{Instr}
use Rattle.w32_base.specs.declared.setup.Module.{Module}
use Rattle.w32_base.specs.declared.setup.Program.{Program}
use Rattle.script_spec.specs.declared.fault.FirstWord.{FirstWord}
use Rattle.script_spec.specs.declared.fault.FirstWord.TheVariants as first
use Rattle.script_spec.specs.declared.fault.Sort.{Sort}
use Rattle.script_spec.specs.declared.script.OccupiedPage.{OccupiedPage}
use Rattle.script_spec.specs.declared.script.ScheduleLine.{ScheduleLine}
use Rattle.script_spec.specs.FirstFault.{is_none}
use Rattle.script_spec.specs.Places.{sort_number, place_fault}
use Rattle.script_spec.specs.Ranges.{is_line_within}
use Rattle.cyg_script.specs.declared.heading.Heading.{Heading}
use Rattle.cyg_script.specs.declared.reader.Reader.{Reader}

-- what was read so far: the sort of the last line, the script's parts, and the program that hasn't ended
pub record Parts : Type 0 where
  pub last : Option Sort
  pub slots : ℕ
  pub rows : ℕ
  pub budget : ℕ
  pub modules : List Module
  pub pages : List OccupiedPage
  pub programs : List Program
  pub heading : Option Heading
  pub code : List Instr
  pub code_lines : List ℕ
  pub schedule : List ScheduleLine

abbrev pub parts_of : Reader → Parts
parts_of r = record {
  last = r.last;
  slots = r.slots;
  rows = r.rows;
  budget = r.budget;
  modules = r.modules.items;
  pages = r.pages.items;
  programs = r.programs.items;
  heading = r.heading;
  code = r.code.items;
  code_lines = r.code_lines.items;
  schedule = r.schedule.items;
}

-- nothing
abbrev pub no_parts : Parts
no_parts = record {
  last = None;
  slots = 1;
  rows = 1;
  budget = 1;
  modules = [];
  pages = [];
  programs = [];
  heading = None;
  code = [];
  code_lines = [];
  schedule = [];
}

-- the place of the last line in the order of lines
abbrev pub stage : Option Sort → ℕ
stage None = 0
stage (Some s) = sort_number s

-- a line of a sort may stand after the last line
abbrev pub stands : Option Sort → Sort → Bool
stands None this = false
stands (Some last) this = is_none (place_fault last this)

-- a line with this first word ends a program
abbrev pub ends_program : Option FirstWord → Bool
ends_program (Some first.Program) = true
ends_program (Some first.Schedule) = true
ends_program _ = false

-- the line of the first instruction that names a place past the end of a program of n instructions
abbrev pub past_line : ℕ → List Instr → List ℕ → Option ℕ
past_line n [] lines = None
past_line n (i ∷ is) [] = None
past_line n (i ∷ is) (l ∷ ls) = if is_target_below n i then past_line n is ls else Some l

-- the heading of a program that may still be added
abbrev pub IsNew : Parts → Heading → Type 0
IsNew p h = (is_among h.name (program_names p.programs) ≡ false) × (length p.programs < 32)

-- Each part is in its range, and none was read before the lines that must stand before it.
pub record IsRead (p : Parts) : Type 0 where
  pub slots : (1 ≤ p.slots) × (p.slots ≤ 64)
  pub rows : (1 ≤ p.rows) × (p.rows ≤ 4000)
  pub budget : (1 ≤ p.budget) × (p.budget ≤ 500000)
  pub few_modules : length p.modules ≤ 8
  pub module_names : are_distinct (module_names p.modules) ≡ true
  pub few_pages : length p.pages ≤ 64
  pub few_programs : length p.programs ≤ 32
  pub program_names : are_distinct (program_names p.programs) ≡ true
  pub few_instructions : length p.code ≤ 4000
  pub counted : length p.code ≡ length p.code_lines
  pub few_lines : length p.schedule ≤ 10000
  pub lines : list_all (is_line_within p.slots) p.schedule ≡ true
  pub no_modules : stage p.last ≤ 4 → p.modules ≡ []
  pub no_pages : stage p.last ≤ 5 → p.pages ≡ []
  pub no_programs : stage p.last ≤ 6 → p.programs ≡ []
  pub no_heading : stage p.last ≤ 6 → p.heading ≡ None
  pub no_code : p.heading ≡ None → p.code ≡ []
  pub headed : stage p.last ≡ 7 → (p.code ≡ []) × (p.heading ≡ None → ⊥)
  pub ended : 9 ≤ stage p.last → (p.heading ≡ None) × (1 ≤ length p.programs)
  pub no_lines : stage p.last ≤ 9 → p.schedule ≡ []
  pub some_lines : stage p.last ≡ 10 → 1 ≤ length p.schedule
  pub new_heading : (h : Heading) → p.heading ≡ Some h → IsNew p h

-- between lines, the program of the last instruction hasn't ended
pub record IsStaged (p : Parts) : Type 0 where
  pub read : IsRead p
  pub open_program : stage p.last ≡ 8 → (p.heading ≡ None → ⊥) × (1 ≤ length p.code)

-- before a line that ends a program, it has ended
pub record IsEnded (p : Parts) : Type 0 where
  pub read : IsRead p
  pub no_code : p.code ≡ []
  pub closed : stage p.last ≡ 8 → (p.heading ≡ None) × (1 ≤ length p.programs)
