use Rattle.machine_stage.specs.Staged.{staged_turn}
use Rattle.machine_stage.proofs.stage.Stage.turn.Goals as goal

pub invariant_of-self : goal.invariant_of-self
invariant_of-self c =
    staged_turn c.self.inside.turns c.args.slot c.args.thread c.self.inside.machine c.turn-turned.new.self
    c.turn-turned.result c.self.invariant c.turn-turned.ensures.step c.turn-turned.ensures.script
