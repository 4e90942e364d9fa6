use Rattle.std.proofs.Common.{◌∙◌}
use Rattle.w32_machine.proofs.Processes.{numbers}
use Rattle.w32_machine.proofs.machine.Machine.stands_in.Goals as goal

pub returns-clause-value : goal.returns-clause-value
returns-clause-value c =
    c.in_slot.ensures.value ∙ numbers c.self.inside c.self.invariant c.args.self.now c.self.view_is c.args.slot
