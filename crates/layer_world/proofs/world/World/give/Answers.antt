use Rattle.layer_world.specs.LineLaws.{given-gives}
use Rattle.layer_world.proofs.world.World.give.Goals as goal

pub returns-clause-lines : goal.returns-clause-lines
returns-clause-lines g c = λ lines slot thread h.
    given-gives g.P.Part.posted_of g.P.Part.goes g.P.Whole.opening g.P.Whole.slot_of g.P.Whole.thread_of
    g.P.RelyGuarantee.clause c.args.self.now lines slot thread c.direct.new.self c.direct.result c.args.d
    c.direct.ensures h
