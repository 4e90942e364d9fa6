use Rattle.std.proofs.Common.{◌≡◌, Some, sym, ap, ◌∙◌, ◌∷◌}
use Rattle.script_spec.specs.declared.fault.FirstWord.{FirstWord}
use Rattle.script_spec.specs.declared.fault.FirstWord.TheVariants as first
use Rattle.script_spec.specs.declared.fault.Kind.TheVariants.{NoHeader}
use Rattle.script_spec.specs.declared.fault.Sort.{Sort}
use Rattle.script_spec.specs.FirstWordLaws.{first_word-text}
use Rattle.script_spec.specs.FirstWords.{sort_of}
use Rattle.script_spec.specs.Places.{place_fault}
use Rattle.cyg_script.specs.Parts.{ends_program}
use Rattle.cyg_script.proofs.Judging.{judged_along, words}
use Rattle.cyg_script.proofs.WordsJudged.{form_first, misplaced, placed, no_ending, ending_header, no_header}
use Rattle.cyg_script.proofs.WordsJudged.{nothing_read}
use Rattle.cyg_script.proofs.reader.Reader.ending.Goals as goal

pub returns-in_default-clause-read : goal.returns-in_default-clause-read
returns-in_default-clause-read c = λ number read line w a b f.
    nothing_read read (w ∷ words c.args.rest) c.args.form (Some NoHeader) (a.counted.first c.in_default.is)
    (no_header c.args.form line (w ∷ words c.args.rest) b
    (ending_header c.args.first w (words c.args.rest) f c.requires.word))

pub returns-in-Some-form-clause-read : goal.returns-in-Some-form-clause-read
returns-in-Some-form-clause-read c = λ number read line w a b f.
    form_first c.args.form c.in-Some-form.kind line read c.in-Some.last w _ c.args.first c.in-Some-form.is b
    (a.counted.last ∙ c.in-Some.is) f

pub returns-in-Some-place_fault-clause-read : goal.returns-in-Some-place_fault-clause-read
returns-in-Some-place_fault-clause-read c = λ number read line w a b f.
    misplaced c.args.form read c.in-Some.last w _ c.args.first c.in-Some-first.word c.in-Some-place_fault.kind
    c.in_default-form.is (a.counted.last ∙ c.in-Some.is) f c.in-Some-first.is
    (ap (λ (s : Sort). place_fault c.in-Some.last s) (sym c.sort_of.ensures) ∙ sym c.place_fault.ensures
    ∙ c.in-Some-place_fault.is)

pub returns-in-Program-clause-read : goal.returns-in-Program-clause-read
returns-in-Program-clause-read c = λ number read line w a b f.
    let is : c.args.first ≡ Some first.Program = c.in-Some-first.is ∙ ap (λ (x : FirstWord). Some x) c.in-Program.is in
    judged_along c.program.result number read w _ first.Program _
    (placed c.args.form read c.in-Some.last w (words c.args.rest) c.args.first first.Program
    c.in_default-form.is (a.counted.last ∙ c.in-Some.is) f is
    (ap (λ (s : Sort). place_fault c.in-Some.last s) (ap sort_of (sym c.in-Program.is) ∙ sym c.sort_of.ensures)
    ∙ sym c.place_fault.ensures ∙ c.in_default-place_fault.is))
    (first_word-text w first.Program (sym f ∙ is)) (c.program.ensures.read number read a)

pub returns-in-Schedule-clause-read : goal.returns-in-Schedule-clause-read
returns-in-Schedule-clause-read c = λ number read line w a b f.
    let is : c.args.first ≡ Some first.Schedule =
    c.in-Some-first.is ∙ ap (λ (x : FirstWord). Some x) c.in-Schedule.is in
    judged_along c.schedule.result number read w _ first.Schedule _
    (placed c.args.form read c.in-Some.last w (words c.args.rest) c.args.first first.Schedule
    c.in_default-form.is (a.counted.last ∙ c.in-Some.is) f is
    (ap (λ (s : Sort). place_fault c.in-Some.last s) (ap sort_of (sym c.in-Schedule.is) ∙ sym c.sort_of.ensures)
    ∙ sym c.place_fault.ensures ∙ c.in_default-place_fault.is))
    (first_word-text w first.Schedule (sym f ∙ is)) (c.schedule.ensures.read number read a)

pub returns-in_default-word : goal.returns-in_default-word
returns-in_default-word c =
    no_ending c.in-Some-first.word (ap ends_program (sym c.in-Some-first.is) ∙ c.requires.word)
    c.in_default-word.not-Program c.in_default-word.not-Schedule
