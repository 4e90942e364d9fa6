use Rattle.std.proofs.Common.{length, ◌∙◌, ap, sym, arith}
use Rattle.std.proofs.lemmas.List.{length-take-le}
use Rattle.proc_vm.specs.Kept.{Kept}
use Rattle.proc_vm.proofs.kept.Undo.len.Goals as goal

pub returns : goal.returns
returns c =
    sym (length-take-le c.self.inside.count c.self.inside.changes (omega (
      arith,
      c.self.invariant.count,
      c.self.invariant.room,
    )))
    ∙ ap (λ (k : Kept). length k.changes) c.self.view_is
