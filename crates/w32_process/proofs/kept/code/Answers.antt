use Rattle.std.proofs.Common.{sym, ◌∙◌, arith}
use Rattle.w32_process.proofs.KeptLemmas.{code_of-absent, code_at}
use Rattle.w32_process.proofs.kept.code.Goals as goal

pub returns-then-eq : goal.returns-then-eq
returns-then-eq c =
    code_at _ c.args.w _ _ c.loop-ended.invariant (omega arith) c.ended-item.is (sym c.eq.ensures ∙ c.if-eq.true)

pub returns : goal.returns
returns c = sym (code_of-absent _ _ c.loop-ended.ended-index c.loop-ended.invariant (omega arith))
