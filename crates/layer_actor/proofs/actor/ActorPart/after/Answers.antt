use Rattle.layer_actor.specs.ActorLaws.{never_done}
use Rattle.layer_actor.proofs.actor.ActorPart.after.Goals as goal

pub returns-clause-finished : goal.returns-clause-finished
returns-clause-finished c = never_done (record { slot = c.args.self.now.slot; serves = c.turn-serves.result.0 })
