use Rattle.w32_base.proofs.ShortLemmas.{IsShort-push, less_than_room}
use Rattle.w32_base.proofs.lists.ShortBytes.push.Goals as goal

pub invariant_of-self : goal.invariant_of-self
invariant_of-self g c =
    IsShort-push g.row.N _ _ _ _ c.from.ensures (less_than_room _ _ _ _ c.self.invariant c.self.view_is c.requires.room)
    c.self.invariant
