use Rattle.posix_model.proofs.AppliedLemmas.{applied}
use Rattle.posix_model.proofs.state.State.apply.Goals as goal

pub returns-in-Ok-true : goal.returns-in-Ok-true
returns-in-Ok-true c =
    applied c.args.self.now.machine c.step.new.m c.args.event.now c.in-Ok-true.field-0 c.in-Ok-true.field-0-test
    c.in-Ok-true.ensures.gives
