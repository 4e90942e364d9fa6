use Rattle.w32_sync.proofs.Pipes.{after_push}
use Rattle.w32_sync.proofs.pipe.Pipe.push.Goals as goal

pub returns : goal.returns
returns c = after_push c.self.inside _ _ c.self.view_is c.self.invariant c.self.told c.requires
