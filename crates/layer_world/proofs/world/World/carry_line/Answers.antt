use Rattle.std.proofs.Common.{◌∷◌, MatchBool, subst}
use Rattle.layer_world.specs.Scheduled.{IsAt, IsSpent}
use Rattle.layer_world.proofs.world.World.carry_line.Goals as goal

pub returns-else-give-clause-lines : goal.returns-else-give-clause-lines
returns-else-give-clause-lines g c = λ lines h.
    subst (λ b. MatchBool b
    (IsAt g.P.Part.posted_of g.P.Part.goes g.P.Whole.opening g.P.Whole.slot_of g.P.Whole.thread_of
    g.P.RelyGuarantee.clause c.give.new.self lines c.args.last.0 c.args.last.1)
    (IsSpent g.P.Part.posted_of g.P.Part.goes g.P.Whole.opening g.P.Whole.slot_of g.P.Whole.thread_of
    g.P.RelyGuarantee.clause c.give.new.self)) c.if-give.false
    (c.give.ensures.lines lines c.args.last.0 c.args.last.1
    (subst (λ x. IsAt g.P.Part.posted_of g.P.Part.goes g.P.Whole.opening g.P.Whole.slot_of g.P.Whole.thread_of
    g.P.RelyGuarantee.clause c.args.self.now (x ∷ lines) c.args.last.0 c.args.last.1) c.in-Given.is h))
