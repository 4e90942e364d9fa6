-- The canonical print of a script: its lines without skipped ones.
use Rattle.std.specs.Prelude.{ℕ, ◌+◌, ◌/◌, ◌%◌, nat_lt, List, [], ◌∷◌, ◌++◌, map, flat_map, codes, if◌then◌else◌}
use Rattle.std.specs.Fmt.{decimal}
use Rattle.w32_base.specs.declared.entry.Directive.{Directive}
use Rattle.w32_base.specs.declared.entry.Directive.TheVariants as directive
use Rattle.w32_base.specs.declared.setup.Limits.{Limits}
use Rattle.w32_base.specs.declared.setup.Module.{Module}
use Rattle.w32_base.specs.declared.setup.Program.{Program}
use Rattle.script_spec.specs.declared.script.OccupiedPage.{OccupiedPage}
use Rattle.script_spec.specs.declared.script.ScheduleLine.{ScheduleLine}
use Rattle.script_spec.specs.declared.script.ScheduleLine.TheVariants as line
use Rattle.script_spec.specs.declared.script.Script.{Script}
use Rattle.script_spec.specs.Lines.{spaced}
use Rattle.script_spec.specs.InstrText.{instr_words}

abbrev pub limits_words : Limits → List (List (List ℕ))
limits_words l = (codes "cygscript" ∷ codes "1" ∷ []) ∷ (codes "slots" ∷ decimal l.slots ∷ [])
    ∷ (codes "rows" ∷ decimal l.rows ∷ []) ∷ (codes "budget" ∷ decimal l.budget ∷ []) ∷ []

abbrev pub module_words : Module → List (List ℕ)
module_words m = codes "module" ∷ m.name ∷ decimal m.base ∷ decimal m.size ∷ []

abbrev pub occupied_words : OccupiedPage → List (List ℕ)
occupied_words o = codes "occupy" ∷ decimal o.creation ∷ decimal o.page ∷ []

-- a program's own line, and its lines
abbrev pub program_words : Program → List (List ℕ)
program_words p = codes "program" ∷ p.name ∷ codes "heap" ∷ decimal p.heap ∷ codes "stack" ∷ decimal p.stack ∷ []

abbrev pub program_lines : Program → List (List (List ℕ))
program_lines p = program_words p ∷ map instr_words p.code

-- a hexadecimal digit in lower case, and a byte as two of them
abbrev pub hexadecimal_digit : ℕ → ℕ
hexadecimal_digit d = if nat_lt d 10 then 48 + d else 87 + d

abbrev pub key_text : ℕ → List ℕ
key_text b = hexadecimal_digit (b / 16) ∷ hexadecimal_digit (b % 16) ∷ []

abbrev pub directive_words : Directive → List (List ℕ)
directive_words (directive.Turn slot thread) = codes "turn" ∷ decimal slot ∷ decimal thread ∷ []
directive_words (directive.End slot) = codes "end" ∷ decimal slot ∷ []
directive_words (directive.Key b) = codes "key" ∷ key_text b ∷ []

abbrev pub schedule_words : ScheduleLine → List (List ℕ)
schedule_words (line.Given d) = directive_words d
schedule_words (line.Steps turns) = codes "steps" ∷ decimal turns ∷ []
schedule_words line.Settle = codes "settle" ∷ []

-- the lines of programs
abbrev pub programs_lines : List Program → List (List (List ℕ))
programs_lines ps = flat_map program_lines ps

-- the lines of a script, as their words
abbrev pub script_words : Script → List (List (List ℕ))
script_words s = limits_words s.setup.limits ++ (map module_words s.setup.modules ++ (map occupied_words s.occupied
    ++ (programs_lines s.setup.programs ++ (codes "schedule" ∷ []) ∷ map schedule_words s.directives)))

-- the lines of a script
abbrev pub script_lines : Script → List (List ℕ)
script_lines s = map spaced (script_words s)

-- a line of words as a text: LF ends it
abbrev pub line_text : List (List ℕ) → List ℕ
line_text ws = spaced ws ++ 10 ∷ []

-- lines of words as a text
abbrev pub words_text : List (List (List ℕ)) → List ℕ
words_text lines = flat_map line_text lines

-- the canonical print of a script
abbrev pub print_of : Script → List ℕ
print_of s = words_text (script_words s)
