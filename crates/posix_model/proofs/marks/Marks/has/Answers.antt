use Rattle.std.proofs.Common.{sym, ◌∙◌, ap}
use Rattle.posix_model.proofs.MarkedLaws.{is_mark, has_is}
use Rattle.posix_model.proofs.marks.Marks.has.Goals as goal

pub returns-in-Some : goal.returns-in-Some
returns-in-Some c = ap is_mark (sym c.in-Some.is ∙ c.get.ensures) ∙ sym (has_is c.args.self.now.places c.args.number)

pub returns-in-None : goal.returns-in-None
returns-in-None c = ap is_mark (sym c.in-None.is ∙ c.get.ensures) ∙ sym (has_is c.args.self.now.places c.args.number)
