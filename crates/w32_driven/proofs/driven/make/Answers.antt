use Rattle.w32_driven.proofs.PartCalls.{make-none, make-some}
use Rattle.w32_driven.proofs.driven.make.Goals as goal

pub returns-in_default-clause-follow : goal.returns-in_default-clause-follow
returns-in_default-clause-follow g c =
    make-none g.P.Part.posted_of g.P.Part.goes g.P.Whole.opening g.P.Whole.slot_of g.P.Whole.thread_of
    c.args.machine.now.script
    c.args.machine.now.win32 c.requires.formed.formed c.args.by.now.process c.args.by.now.thread c.args.call.now
    c.requires.makes c.carry_out-reply.result c.carry_out-reply.new.self.win32 c.carry_out-reply.ensures.step
    c.args.parts.now.items (rw c.in_default.is at c.made_in.ensures)

pub returns-clause-follow : goal.returns-clause-follow
returns-clause-follow g c =
    make-some g.P.Part.posted_of g.P.Part.goes g.P.Whole.opening g.P.Whole.slot_of g.P.Whole.thread_of
    c.args.machine.now.script
    c.args.machine.now.win32 c.requires.formed.formed c.args.by.now.process c.args.by.now.thread c.args.call.now
    c.requires.makes c.carry_out-reply.result c.carry_out-reply.new.self.win32 c.carry_out-reply.ensures.step
    c.args.parts.now.items c.in-Some.slot c.follow.new.parts.items c.in-Some.ensures
    c.follow.ensures.others c.follow.ensures.here
