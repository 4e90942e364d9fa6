use Rattle.std.proofs.Common.{sym, ◌∙◌}
use Rattle.log_text.proofs.ReadLogs.{no_first, other_first, right_first}
use Rattle.log_text.proofs.read.behind_first.Goals as goal

pub returns-then-is_same : goal.returns-then-is_same
returns-then-is_same c = right_first c.args.bytes.now c.in-Some.first.now c.in-Some.rest.now c.in-Some.ensures.0
    (sym c.is_same.ensures ∙ c.if-is_same.true)

pub returns-else-is_same : goal.returns-else-is_same
returns-else-is_same c = other_first c.args.bytes.now c.in-Some.first.now c.in-Some.rest.now c.in-Some.ensures.0
    c.in-Some.ensures.1 (sym c.is_same.ensures ∙ c.if-is_same.false)

pub returns-in-None : goal.returns-in-None
returns-in-None c = no_first c.args.bytes.now c.in-None.ensures
