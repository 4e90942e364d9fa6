-- What a line is that begins with the word of an instruction or of the schedule.
use Rattle.std.proofs.Common.{◌≡◌, ℕ, List, ◌∷◌, Option, Some, ap}
use Rattle.std.specs.Prelude.{option_map, option_and_then}
use Rattle.script_spec.specs.declared.fault.DirectiveWord.{DirectiveWord}
use Rattle.script_spec.specs.declared.fault.FirstWord.{FirstWord}
use Rattle.script_spec.specs.declared.fault.FirstWord.TheVariants as first
use Rattle.script_spec.specs.declared.fault.InstrWord.{InstrWord}
use Rattle.script_spec.specs.declared.fault.Sort.TheVariants as sort
use Rattle.script_spec.specs.FirstFault.{place_of}
use Rattle.script_spec.specs.FirstWordLaws.{first_word-known}
use Rattle.script_spec.specs.FirstWords.{instr_word_text, directive_word_text, sort_of, sort_of_words}
use Rattle.script_spec.specs.Forms.{place_as, kept_form, instr_forms, forms}

pub instr_sort : (w : InstrWord) (ws : List (List ℕ))
    → sort_of_words (instr_word_text w ∷ ws) ≡ Some sort.Instruction
instr_sort w ws = ap (λ (o : Option FirstWord). option_map sort_of o) (first_word-known (first.Instr w))

pub directive_sort : (w : DirectiveWord) (ws : List (List ℕ))
    → sort_of_words (directive_word_text w ∷ ws) ≡ Some sort.Directive
directive_sort w ws = ap (λ (o : Option FirstWord). option_map sort_of o) (first_word-known (first.Directive w))

-- the place that the words of an instruction name
pub instr_place : (w : InstrWord) (ws : List (List ℕ))
    → place_of (instr_word_text w ∷ ws) ≡ place_as ws (kept_form (instr_forms w) ws)
instr_place w ws =
    ap (λ (o : Option FirstWord). option_and_then (λ f. place_as ws (kept_form (forms 0 f) ws)) o)
    (first_word-known (first.Instr w))
