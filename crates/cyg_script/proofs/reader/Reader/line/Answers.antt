use Rattle.std.proofs.Common.{◌≡◌, true, false, sym, ◌∙◌, rules}
use Rattle.script_spec.specs.Front.{past_end, and_read}
use Rattle.script_spec.specs.Lines.{Line, is_skipped}
use Rattle.cyg_script.specs.After.{IsAfter}
use Rattle.cyg_script.specs.Parts.{parts_of, ends_program}
use Rattle.cyg_script.proofs.Judging.{words}
use Rattle.cyg_script.proofs.LineJudged.{shown_tells, ending_tells, no_target}
use Rattle.cyg_script.proofs.reader.Reader.line.Goals as goal

pub returns-in_err-end_program-clause-read : goal.returns-in_err-end_program-clause-read
returns-in_err-end_program-clause-read c = λ read a.
    let line : Line = record { bytes = c.args.bytes.now; is_ended = c.args.is_ended } in
    let shown : is_skipped c.args.bytes.now ≡ false = search rules in
    let ends : ends_program c.first_word-first.result ≡ true = sym c.ends_program.ensures ∙ c.if-ends_program.true in
    ending_tells c.from_residual.result c.in_err-end_program.field-0.0 read c.args.number line c.cut.result.0.now
    (words c.cut.result.1) c.first_word-first.result _
    (λ _. IsAfter (and_read read c.args.number line) (parts_of c.end_program.new.self))
    c.from_residual.ensures.1 shown c.cut.ensures c.first_word-first.ensures ends
    (c.in_err-end_program.ensures.closed read a)

pub returns-in_ok-end_program-clause-read : goal.returns-in_ok-end_program-clause-read
returns-in_ok-end_program-clause-read c = λ read a.
    let line : Line = record { bytes = c.args.bytes.now; is_ended = c.args.is_ended } in
    let shown : is_skipped c.args.bytes.now ≡ false = search rules in
    let end = c.in_ok-end_program.ensures.closed read a in
    shown_tells c.ending.result c.at_line.result read c.args.number line c.cut.result.0.now (words c.cut.result.1)
    c.first_word-first.result c.bytes_fault-form.result _ c.at_line.ensures shown c.cut.ensures
    c.first_word-first.ensures c.bytes_fault-form.ensures
    (λ t. no_target (past_end read) end.0)
    (c.ending.ensures.read c.args.number read line c.cut.result.0.now end.1 c.bytes_fault-form.ensures
    c.first_word-first.ensures)

pub returns-else-ends_program-clause-read : goal.returns-else-ends_program-clause-read
returns-else-ends_program-clause-read c = λ read a.
    let line : Line = record { bytes = c.args.bytes.now; is_ended = c.args.is_ended } in
    let shown : is_skipped c.args.bytes.now ≡ false = search rules in
    let inside : ends_program c.first_word-first.result ≡ false =
    sym c.ends_program.ensures ∙ c.if-ends_program.false in
    shown_tells c.words.result c.at_line-else-ends_program.result read c.args.number line c.cut.result.0.now
    (words c.cut.result.1) c.first_word-first.result c.bytes_fault-form.result _ c.at_line-else-ends_program.ensures
    shown c.cut.ensures c.first_word-first.ensures c.bytes_fault-form.ensures
    (λ t. absurd (let k : true ≡ false = sym t ∙ inside in cc))
    (c.words.ensures.read read line c.cut.result.0.now a c.bytes_fault-form.ensures c.first_word-first.ensures)
