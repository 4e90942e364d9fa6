use Rattle.std.proofs.Common.{◌<◌, length, sym, refl, arith, Some}
use Rattle.script_spec.specs.declared.fault.FirstWord.TheVariants as first
use Rattle.script_spec.specs.Front.{words_read}
use Rattle.cyg_script.specs.Parts.{parts_of}
use Rattle.cyg_script.proofs.Judging.{reads_fault, words}
use Rattle.cyg_script.proofs.Reading.{read_occupy}
use Rattle.cyg_script.proofs.WordFaults.{own_is, no_pages}
use Rattle.cyg_script.proofs.reader.Reader.occupy.Goals as goal

pub returns-in_err-page-clause-read : goal.returns-in_err-page-clause-read
returns-in_err-page-clause-read c = λ number read a.
    reads_fault c.from_residual.result c.in_err-page.field-0.0 read number first.Occupy (words c.args.rest)
    (parts_of c.args.self.now) c.from_residual.ensures.1
    (own_is (words_read read) first.Occupy (words c.args.rest) c.in_err-page.field-0.0
    (no_pages (words_read read) first.Occupy (words c.args.rest) (Some c.in_err-page.field-0.0) refl
    (sym c.in_err-page.ensures.fault)))

pub returns-clause-read : goal.returns-clause-read
returns-clause-read c = λ number read a.
    let few : length c.args.self.now.pages.items < 64 = omega arith in
    read_occupy (parts_of c.args.self.now) c.in_ok-page.page c.push.new.self.items _ c.requires.staged.read
    c.requires.place c.in_ok-page.ensures.text c.in_ok-page.ensures.valid c.in_ok-page.ensures.fault few
    c.in_ok-push.ensures.items number read a
