use Rattle.std.proofs.Common.{◌≡◌, ◌∙◌, arith}
use Rattle.w32_process.specs.Table.{without_kept}
use Rattle.w32_process.specs.KeptLaws.{code_of-without_same}
use Rattle.w32_process.specs.SoundLaws.{IsSound-forget}
use Rattle.w32_process.proofs.processes.Processes.forget.Goals as goal

pub invariant_of-self : goal.invariant_of-self
invariant_of-self c =
    let left : c.remove.new.self.items ≡ without_kept c.self.inside.kept.items c.args.w = c.remove.ensures.by_index.2
    ∙ (rw c.deref.ensures.value at c.in-Some.ensures.without) in
    (omega (arith, c.self.invariant.0, c.remove.ensures.capacity), rw left (IsSound-forget _ _ _ _ c.self.invariant.1))

pub returns-clause-gone : goal.returns-clause-gone
returns-clause-gone c =
    let left : c.remove.new.self.items ≡ without_kept c.self.inside.kept.items c.args.w = c.remove.ensures.by_index.2
    ∙ (rw c.deref.ensures.value at c.in-Some.ensures.without) in
    rw left (code_of-without_same _ _ c.self.invariant.1.numbers.kept_alone)
