use Rattle.cyg_script.specs.Parts.{parts_of}
use Rattle.cyg_script.proofs.Reading.{read_budget}
use Rattle.cyg_script.proofs.reader.Reader.budget.Goals as goal

pub returns-clause-read : goal.returns-clause-read
returns-clause-read c = λ number read a.
    read_budget (parts_of c.args.self.now) c.in_ok-self.field-0 _ c.requires.staged.read c.requires.place
    c.in_ok-self.ensures.text c.in_ok-self.ensures.fault number read a
