use Rattle.std.proofs.Common.{◌<◌, length, arith}
use Rattle.cyg_script.specs.Parts.{parts_of}
use Rattle.cyg_script.proofs.Judging.{judged_fault}
use Rattle.cyg_script.proofs.ReadingCode.{directive_fault, read_directive}
use Rattle.cyg_script.proofs.reader.Reader.directive.Goals as goal

pub returns-in_err-line-clause-read : goal.returns-in_err-line-clause-read
returns-in_err-line-clause-read c = λ number read a.
    judged_fault c.from_residual.result c.in_err-line.field-0.0 _ _ c.from_residual.ensures.1
    (directive_fault (parts_of c.args.self.now) c.args.word _ c.in_err-line.field-0.0 c.requires.place
    c.in_err-line.ensures.fault read a)

pub returns-clause-read : goal.returns-clause-read
returns-clause-read c = λ number read a.
    let few : length c.args.self.now.schedule.items < 10000 = omega arith in
    read_directive (parts_of c.args.self.now) c.args.word _ c.in_ok-line.line c.extend_from_slice.new.self.items
    c.requires.staged.read c.requires.place c.in_ok-line.ensures.text c.in_ok-line.ensures.valid
    c.in_ok-line.ensures.fault few c.in_ok-extend_from_slice.ensures.items number read a
