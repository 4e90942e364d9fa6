use Rattle.std.proofs.Common.{◌<◌, ◌^◌, sym, ◌∙◌, arith}
use Rattle.sig_sets.proofs.Sets.{least-empty, least-lowest}
use Rattle.sig_sets.proofs.signals.deliverable.Goals as goal

pub returns-then-open-eq0 : goal.returns-then-open-eq0
returns-then-open-eq0 c =
    let open_is = c.bits-open.ensures tt ∙ c.outside.ensures.value in
    sym (rw (← open_is, c.if-open-eq0.true) least-empty)

pub returns-else-open-eq0 : goal.returns-else-open-eq0
returns-else-open-eq0 c =
    let open_is = c.bits-open.ensures tt ∙ c.outside.ensures.value in
    let some : 0 < c.bits-open.result = omega (arith, c.if-open-eq0.false) in
    let fits : c.bits-open.result < 2 ^ 31 = rw (c.bits-open.ensures tt) c.outside.ensures.within in
    rw (← open_is) (sym (least-lowest c.bits-open.result some fits))
