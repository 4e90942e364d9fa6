use Rattle.std.proofs.Common.{◌∙◌, sym}
use Rattle.w32_machine.proofs.Slots.{number_in-at}
use Rattle.w32_machine.proofs.machine.Machine.in_slot.Goals as goal

pub returns : goal.returns
returns c = rw (← c.self.view_is) (c.in_slot.ensures.value ∙ sym (number_in-at c.self.inside c.self.invariant
    c.args.slot))
