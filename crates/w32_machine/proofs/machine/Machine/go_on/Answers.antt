use Rattle.std.proofs.Common.{subst}
use Rattle.win32_spec.specs.Run.{Posts}
use Rattle.w32_machine.proofs.Owning.{own-thread, own-goes}
use Rattle.w32_machine.proofs.machine.Machine.go_on.Goals as goal

pub post-requires : goal.post-requires
post-requires g c =
    own-thread g.P.Part.posted_of g.P.Part.goes g.P.Whole.opening g.P.Whole.slot_of g.P.Whole.thread_of c.args.self.now
    c.answer-answer.new.self c.args.by.now.slot c.args.by.now.thread c.args.by.now.process c.requires.caller.process
    c.args.part.now c.answer-answer.new.part c.args.reply.now c.answer-answer.result c.answer-answer.ensures
    c.requires.thread

pub returns-clause-went : goal.returns-clause-went
returns-clause-went g c =
    own-goes g.P.Part.posted_of g.P.Part.goes g.P.Whole.opening g.P.Whole.slot_of g.P.Whole.thread_of c.args.self.now
    c.answer-answer.new.self c.args.by.now.slot c.args.by.now.thread c.args.by.now.process c.requires.caller.process
    c.args.part.now c.answer-answer.new.part c.args.reply.now c.answer-answer.result c.answer-answer.ensures
    c.post.new.self.win32
    (subst (λ call. Posts c.answer-answer.new.self.win32 c.args.by.now.slot c.args.by.now.thread call
    c.post.new.self.win32) c.posted.ensures c.post.ensures.posted)
