use Rattle.machine_stage.specs.Staged.{staged_end}
use Rattle.machine_stage.proofs.stage.Stage.end.Goals as goal

pub invariant_of-self-2 : goal.invariant_of-self-2
invariant_of-self-2 c =
    staged_end c.self.inside.turns c.in_ok-try_new.field-0 c.end.result c.self.inside.machine c.end.new.self
    c.self.invariant c.end.ensures.step c.end.ensures.script
