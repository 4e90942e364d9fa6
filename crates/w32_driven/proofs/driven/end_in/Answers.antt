use Rattle.w32_driven.proofs.Following.{all-follow}
use Rattle.w32_driven.proofs.driven.end_in.Goals as goal

pub returns-clause-follow : goal.returns-clause-follow
returns-clause-follow g c =
    all-follow g.P.Part.posted_of g.P.Part.goes g.P.Whole.opening g.P.Whole.slot_of g.P.Whole.thread_of
    c.args.machine.now.win32
    c.carry_out-reply.new.self.win32 c.args.parts.now.items c.follow.new.parts.items c.args.slot c.in_slot-before.result
    c.in_slot-before.ensures
    (c.requires.ends c.carry_out-reply.result c.carry_out-reply.new.self.win32 c.carry_out-reply.ensures.step)
    c.follow.ensures.others c.follow.ensures.here
