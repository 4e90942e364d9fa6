use Rattle.layer_world.proofs.world.World.give_turn.Goals as goal

pub direct-requires : goal.direct-requires
direct-requires g c = record { spare = c.requires; taken = tt; keys = tt }
