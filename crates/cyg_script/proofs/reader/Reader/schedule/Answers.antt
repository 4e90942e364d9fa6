use Rattle.std.proofs.Common.{sym, refl, Some}
use Rattle.script_spec.specs.declared.fault.FirstWord.TheVariants as first
use Rattle.script_spec.specs.declared.fault.Kind.TheVariants.{Words}
use Rattle.script_spec.specs.Front.{words_read}
use Rattle.cyg_script.specs.Parts.{parts_of}
use Rattle.cyg_script.proofs.Forms.{some_words_fault}
use Rattle.cyg_script.proofs.Judging.{words, not_both}
use Rattle.cyg_script.proofs.Reading.{read_schedule}
use Rattle.cyg_script.proofs.WordFaults.{own_is, no_pages}
use Rattle.cyg_script.proofs.reader.Reader.schedule.Goals as goal

pub returns-then-not-are_none-clause-read : goal.returns-then-not-are_none-clause-read
returns-then-not-are_none-clause-read c = λ number read a.
    own_is (words_read read) first.Schedule (words c.args.rest) Words
    (no_pages (words_read read) first.Schedule (words c.args.rest) (Some Words) refl
    (sym (some_words_fault (words c.args.rest)
    (λ e. not_both c.are_none.result c.if-not-are_none.true (c.are_none.ensures.1 e)))))

pub returns-clause-read : goal.returns-clause-read
returns-clause-read c = λ number read a.
    read_schedule (parts_of c.args.self.now) (words c.args.rest) c.requires.ended c.requires.place
    (c.are_none.ensures.0 c.if-not-are_none.false) number read a
