use Rattle.std.proofs.Common.{sym, ◌∙◌, true≢false, arith}
use Rattle.layer_world.specs.ScheduledLaws.{quiet-end, given-end}
use Rattle.layer_world.proofs.world.World.end_of_lines.Goals as goal

pub returns-then-quiet : goal.returns-then-quiet
returns-then-quiet g c = λ slot thread h.
    quiet-end g.P.Part.posted_of g.P.Part.goes g.P.Whole.opening g.P.Whole.slot_of g.P.Whole.thread_of
    g.P.RelyGuarantee.clause c.args.self.now slot thread (omega (arith, c.spare-spare.ensures)) (c.quiet.ensures.0
    c.if-quiet.true) h

pub returns-else-quiet : goal.returns-else-quiet
returns-else-quiet g c = λ slot thread h.
    given-end g.P.Part.posted_of g.P.Part.goes g.P.Whole.opening g.P.Whole.slot_of g.P.Whole.thread_of
    g.P.RelyGuarantee.clause c.args.self.now slot thread (omega (arith, c.spare-spare.ensures))
    (λ quiet. true≢false (sym (c.quiet.ensures.1 quiet) ∙ c.if-quiet.false)) h
