use Rattle.std.proofs.Common.{sym, ap, ◌∙◌}
use Rattle.script_spec.specs.declared.fault.Sort.{Sort}
use Rattle.script_spec.specs.FirstWordLaws.{first_word-text}
use Rattle.script_spec.specs.Places.{place_fault}
use Rattle.cyg_script.proofs.Judging.{judged_along}
use Rattle.cyg_script.proofs.WordsJudged.{form_first, misplaced, placed}
use Rattle.cyg_script.proofs.reader.Reader.words.Goals as goal

pub returns-in-Some-form-clause-read : goal.returns-in-Some-form-clause-read
returns-in-Some-form-clause-read c = λ read line w a b f.
    form_first c.args.form c.in-Some-form.kind line read c.in-Some.last w _ c.args.first c.in-Some-form.is b
    (a.counted.last ∙ c.in-Some.is) f

pub returns-in-Some-place_fault-clause-read : goal.returns-in-Some-place_fault-clause-read
returns-in-Some-place_fault-clause-read c = λ read line w a b f.
    misplaced c.args.form read c.in-Some.last w _ c.args.first c.in-Some-first.word c.in-Some-place_fault.kind
    c.in_default-form.is (a.counted.last ∙ c.in-Some.is) f c.in-Some-first.is
    (ap (λ (s : Sort). place_fault c.in-Some.last s) (sym c.sort_of.ensures) ∙ sym c.place_fault.ensures
    ∙ c.in-Some-place_fault.is)

pub returns-clause-read : goal.returns-clause-read
returns-clause-read c = λ read line w a b f.
    judged_along c.known.result c.args.number read w _ c.in-Some-first.word _
    (placed c.args.form read c.in-Some.last w _ c.args.first c.in-Some-first.word
    c.in_default-form.is (a.counted.last ∙ c.in-Some.is) f c.in-Some-first.is
    (ap (λ (s : Sort). place_fault c.in-Some.last s) (sym c.sort_of.ensures) ∙ sym c.place_fault.ensures
    ∙ c.in_default-place_fault.is))
    (first_word-text w c.in-Some-first.word (sym f ∙ c.in-Some-first.is)) (c.known.ensures.read read a)
