use Rattle.std.proofs.Common.{◌<◌, ◌∙◌, ap, arith, length, slice_set}
use Rattle.posix_model.specs.Marked.{marked}
use Rattle.posix_model.proofs.MarkedLaws.{marked-set}
use Rattle.posix_model.proofs.marks.Marks.insert.Goals as goal

pub returns : goal.returns
returns c =
    let places = c.args.self.now.places in
    let within : c.args.number < length places = omega (arith, c.get.ensures.range, c.args.self.now.room) in
    ap marked (c.set.ensures ∙ ap (λ k. slice_set places k 1) (c.from.ensures ∙ c.get.ensures.value))
    ∙ marked-set places c.args.number within
