use Rattle.std.proofs.Common.{◌∙◌, sym}
use Rattle.w32_machine.proofs.Ending.{terminated, was-gone}
use Rattle.w32_machine.proofs.Signalled.{lives-is}
use Rattle.w32_machine.proofs.machine.Machine.terminate.Goals as goal

pub returns-then-lives-clause-step : goal.returns-then-lives-clause-step
returns-then-lives-clause-step c =
    terminated c.args.self.now.win32 c.args.by.now.process c.args.h _ c.args.code
    c.end_process.new.self.win32 c.in-Some.ensures.named
    (sym (lives-is c.self.inside c.self.invariant c.args.self.now c.self.view_is _ _
    c.lives.result c.in-Some.ensures.slot c.lives.ensures.0 c.lives.ensures.1) ∙ c.if-lives.true)
    c.end_process.ensures.ended

pub returns-else-lives-clause-step : goal.returns-else-lives-clause-step
returns-else-lives-clause-step c =
    was-gone c.args.self.now.win32 c.args.by.now.process c.args.h _ c.args.code c.in-Some.ensures.named
    (sym (lives-is c.self.inside c.self.invariant c.args.self.now c.self.view_is _ _
    c.lives.result c.in-Some.ensures.slot c.lives.ensures.0 c.lives.ensures.1) ∙ c.if-lives.false)
