use Rattle.std.proofs.Common.{◌∙◌, sym, refl}
use Rattle.w32_machine.proofs.Waits.{some-first, first-is, wait-step, absent-step}
use Rattle.win32_spec.specs.Named.{handles_by}
use Rattle.w32_machine.proofs.machine.Machine.wait.Goals as goal

pub take-requires-clause-signalled : goal.take-requires-clause-signalled
take-requires-clause-signalled c =
    first-is c.args.self.now.win32 c.args.by.now.process c.args.by.now.thread c.args.list.now c.in-Some.at.0
    c.in-Some.at.1 c.in-Some.ensures.0 c.in-Some.ensures.1

pub unreachable-requires : goal.unreachable-requires
unreachable-requires c =
    some-first c.args.self.now.win32 c.args.by.now.process c.args.by.now.thread
    (handles_by c.args.self.now.win32 c.args.by.now.process) c.args.list.now 0 c.requires.signalled c.in-None.ensures

pub returns-then-has_absent-clause-step : goal.returns-then-has_absent-clause-step
returns-then-has_absent-clause-step c =
    absent-step c.args.self.now.win32 c.args.self.now.win32 c.args.by.now.process c.args.by.now.thread c.args.list.now
    (sym c.has_absent.ensures ∙ c.if-has_absent.true) refl

pub returns-clause-step : goal.returns-clause-step
returns-clause-step c =
    wait-step c.args.self.now.win32 c.take.new.self.win32 c.args.by.now.process c.args.by.now.thread c.args.list.now
    c.in-Some.at.0 c.in-Some.at.1 c.take.result (sym c.has_absent.ensures ∙ c.if-has_absent.false)
    c.in-Some.ensures.0 c.in-Some.ensures.1 c.take.ensures.taken
