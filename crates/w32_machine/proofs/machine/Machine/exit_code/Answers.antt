use Rattle.std.proofs.Common.{◌∙◌, sym}
use Rattle.w32_machine.proofs.Processes.{known, code-reply, active-reply}
use Rattle.w32_machine.proofs.machine.Machine.exit_code.Goals as goal

pub exit_code-requires : goal.exit_code-requires
exit_code-requires c =
    known c.self.inside c.self.invariant c.args.self.now c.self.view_is c.args.by.now.process c.args.h _
    c.in-Some.ensures.named

pub returns-in-Some-exit_code : goal.returns-in-Some-exit_code
returns-in-Some-exit_code c =
    code-reply c.self.inside c.self.invariant c.args.self.now c.self.view_is c.args.by.now.process c.args.h _
    c.in-Some-exit_code.code c.in-Some.ensures.named (sym c.exit_code.ensures.code ∙ c.in-Some-exit_code.is)

pub returns-in-None-exit_code : goal.returns-in-None-exit_code
returns-in-None-exit_code c =
    active-reply c.self.inside c.self.invariant c.args.self.now c.self.view_is c.args.by.now.process c.args.h _
    c.in-Some.ensures.named (c.exit_code.ensures.alive.0 c.in-None-exit_code.is)
