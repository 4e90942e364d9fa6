use Rattle.std.proofs.Common.{sym, ◌∙◌, arith}
use Rattle.w32_process.proofs.KeptLemmas.{code_of-absent, without_at}
use Rattle.w32_process.proofs.kept.place_of.Goals as goal

pub returns-then-eq-clause-without : goal.returns-then-eq-clause-without
returns-then-eq-clause-without c =
    without_at _ c.args.w _ _ c.loop-place.invariant (omega arith) c.index-kept-place.is (sym c.eq.ensures
    ∙ c.if-eq.true)

pub returns-clause-within : goal.returns-clause-within
returns-clause-within c = code_of-absent _ _ c.loop-place.place c.loop-place.invariant (omega arith)

pub returns-clause-without : goal.returns-clause-without
returns-clause-without c = code_of-absent _ _ c.loop-place.place c.loop-place.invariant (omega arith)
