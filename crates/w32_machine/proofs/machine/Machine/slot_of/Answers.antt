use Rattle.w32_machine.proofs.Threads.{slot-now}
use Rattle.w32_machine.proofs.machine.Machine.slot_of.Goals as goal

pub returns : goal.returns
returns c = slot-now c.self.inside c.self.invariant c.args.self.now c.self.view_is _ c.args.w c.slot_of.ensures
