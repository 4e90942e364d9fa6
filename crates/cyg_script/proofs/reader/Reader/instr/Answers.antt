use Rattle.std.proofs.Common.{◌≤◌, ◌<◌, length, sym, refl, arith, Some}
use Rattle.script_spec.specs.declared.fault.FirstWord.TheVariants as first
use Rattle.script_spec.specs.Front.{words_read}
use Rattle.cyg_script.specs.Parts.{parts_of}
use Rattle.cyg_script.proofs.Judging.{judged_fault}
use Rattle.cyg_script.proofs.ReadingCode.{instr_full, read_instr}
use Rattle.cyg_script.proofs.WordFaults.{own_is, no_pages}
use Rattle.cyg_script.proofs.reader.Reader.instr.Goals as goal

pub returns-in_err-instr-clause-read : goal.returns-in_err-instr-clause-read
returns-in_err-instr-clause-read c = λ read a.
    judged_fault c.from_residual.result c.in_err-instr.field-0.0 _ _ c.from_residual.ensures.1
    (own_is (words_read read) (first.Instr c.args.word) _ c.in_err-instr.field-0.0
    (no_pages (words_read read) (first.Instr c.args.word) _ (Some c.in_err-instr.field-0.0) refl
    (sym c.in_err-instr.ensures.fault)))

pub returns-then-len-ge-MOST_INSTRUCTIONS-clause-read : goal.returns-then-len-ge-MOST_INSTRUCTIONS-clause-read
returns-then-len-ge-MOST_INSTRUCTIONS-clause-read c = λ read a.
    let many : 4000 ≤ length c.args.self.now.code.items = omega arith in
    instr_full (parts_of c.args.self.now) c.args.word _ c.requires.staged c.requires.place
    c.in_ok-instr.ensures.fault many read a

pub returns-clause-read : goal.returns-clause-read
returns-clause-read c = λ read a.
    let few : length c.args.self.now.code.items < 4000 = omega arith in
    read_instr (parts_of c.args.self.now) c.args.word _ c.in_ok-instr.instr c.extend_from_slice.new.self.items
    c.push.new.self.items c.args.number c.requires.staged c.requires.place c.in_ok-instr.ensures.text
    c.in_ok-instr.ensures.valid c.in_ok-instr.ensures.place c.in_ok-instr.ensures.fault few
    c.in_ok-extend_from_slice.ensures.items c.in_ok-push.ensures.items read a
