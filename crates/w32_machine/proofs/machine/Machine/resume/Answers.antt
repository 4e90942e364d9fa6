use Rattle.std.proofs.Common.{refl}
use Rattle.win32_spec.specs.ProcessCalls.{resumed}
use Rattle.w32_machine.proofs.Reaching.{counted-some}
use Rattle.w32_machine.proofs.Counting.{missed-count, resume-step, resume-sound}
use Rattle.w32_machine.proofs.machine.Machine.resume.Goals as goal

pub resume-requires : goal.resume-requires
resume-requires c =
    let it = c.in-Ok.ensures.reached in
    counted-some c.self.inside c.self.invariant c.args.self.now c.self.view_is c.in-Ok.at.0 it.number it.lives
    c.in-Ok.at.1 c.in-Ok.ensures.there

pub invariant_of-self : goal.invariant_of-self
invariant_of-self c =
    resume-sound c.self.inside c.self.invariant c.args.self.now c.self.view_is c.args.by.now c.requires c.args.h
    c.in-Ok.at.0 c.in-Ok.at.1 c.args.thread c.resume.result c.in-Ok.ensures.thread c.in-Ok.ensures.reached
    c.resume.ensures.old c.resume.new.self c.resume.ensures.resumed

pub returns-in-Ok-clause-step : goal.returns-in-Ok-clause-step
returns-in-Ok-clause-step c =
    resume-step c.self.inside c.self.invariant c.args.self.now c.self.view_is c.args.by.now c.requires c.args.h
    c.in-Ok.at.0 c.in-Ok.at.1 c.args.thread c.resume.result c.in-Ok.ensures.thread c.in-Ok.ensures.reached
    c.resume.ensures.old c.resume.new.self c.resume.ensures.resumed

pub returns-in-Err-clause-step : goal.returns-in-Err-clause-step
returns-in-Err-clause-step c =
    missed-count c.args.self.now.win32 c.args.self.now.win32 resumed c.args.by.now.process c.args.h c.args.thread
    c.in-Err.refusal c.in-Err.ensures.missed refl
