-- The lines that were read, as what the reader holds spells them.
use Rattle.std.specs.Prelude.{◌≡◌, ℕ, true, List, [], ◌∷◌, ◌++◌, map, codes, Option, Some, None}
use Rattle.std.specs.Fmt.{decimal}
use Rattle.w32_base.specs.Targets.{is_target_below}
use Rattle.w32_base.specs.declared.instr.Instr.{Instr}
use Rattle.script_spec.specs.declared.fault.Sort.{Sort}
use Rattle.script_spec.specs.declared.fault.Sort.TheVariants as sort
use Rattle.script_spec.specs.declared.script.ScheduleLine.{ScheduleLine}
use Rattle.script_spec.specs.InstrText.{instr_words}
use Rattle.script_spec.specs.Print.{module_words, occupied_words, programs_lines, schedule_words}
use Rattle.cyg_script.specs.declared.heading.Heading.{Heading}
use Rattle.cyg_script.specs.Headings.{heading_words}
use Rattle.cyg_script.specs.Parts.{Parts}

-- the lines of instructions, but for places past 65,535, which are past each program's end
abbrev pub AreWritten : List (List (List ℕ)) → List Instr → Type 0
AreWritten [] [] = Unit {0}
AreWritten [] (i ∷ is) = ⊥
AreWritten (ws ∷ lines) [] = ⊥
AreWritten (ws ∷ lines) (i ∷ is) = (is_target_below 65535 i ≡ true → ws ≡ instr_words i) × AreWritten lines is

-- the lines before the first module, up to the last line
abbrev pub header_line : List (List ℕ)
header_line = codes "cygscript" ∷ codes "1" ∷ []

abbrev pub limit_lines : Parts → List (List (List ℕ))
limit_lines p = header_line ∷ (codes "slots" ∷ decimal p.slots ∷ []) ∷ (codes "rows" ∷ decimal p.rows ∷ [])
    ∷ (codes "budget" ∷ decimal p.budget ∷ []) ∷ []

abbrev pub first_lines : Option Sort → Parts → List (List (List ℕ))
first_lines None p = []
first_lines (Some sort.Header) p = header_line ∷ []
first_lines (Some sort.Slots) p = header_line ∷ (codes "slots" ∷ decimal p.slots ∷ []) ∷ []
first_lines (Some sort.Rows) p =
    header_line ∷ (codes "slots" ∷ decimal p.slots ∷ []) ∷ (codes "rows" ∷ decimal p.rows ∷ []) ∷ []
first_lines (Some sort.Budget) p = limit_lines p
first_lines (Some sort.Module) p = limit_lines p
first_lines (Some sort.Occupy) p = limit_lines p
first_lines (Some sort.Program) p = limit_lines p
first_lines (Some sort.Instruction) p = limit_lines p
first_lines (Some sort.Schedule) p = limit_lines p
first_lines (Some sort.Directive) p = limit_lines p

-- the lines of the program that hasn't ended
abbrev pub open_lines : Option Heading → List (List (List ℕ)) → List (List (List ℕ))
open_lines None code = []
open_lines (Some h) code = heading_words h ∷ code

-- the schedule's lines
abbrev pub schedule_lines : List ScheduleLine → List (List (List ℕ))
schedule_lines lines = (codes "schedule" ∷ []) ∷ map schedule_words lines

abbrev pub last_lines : Option Sort → List ScheduleLine → List (List (List ℕ))
last_lines (Some sort.Schedule) lines = schedule_lines lines
last_lines (Some sort.Directive) lines = schedule_lines lines
last_lines _ lines = []

-- the lines, as their words, are those that the parts spell
pub record IsWritten (lines : List (List (List ℕ))) (p : Parts) : Type 0 where
  pub open_code : List (List (List ℕ))
  pub written : lines ≡ first_lines p.last p ++ (map module_words p.modules ++ (map occupied_words p.pages
      ++ (programs_lines p.programs ++ (open_lines p.heading open_code ++ last_lines p.last p.schedule))))
  pub code : AreWritten open_code p.code

-- reading a line of these words takes the old parts to the new ones
abbrev pub Writes : List (List ℕ) → Parts → Parts → Type 0
Writes ws old new = (lines : List (List (List ℕ))) → IsWritten lines old → IsWritten (lines ++ ws ∷ []) new
