use Rattle.w32_sync.proofs.Pipes.{before_pop}
use Rattle.w32_sync.proofs.pipe.Pipe.pop.Goals as goal

pub returns : goal.returns
returns c = before_pop c.self.inside _ c.self.view_is c.self.invariant c.self.told c.requires
