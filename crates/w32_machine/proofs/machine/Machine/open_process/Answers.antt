use Rattle.std.proofs.Common.{sym}
use Rattle.w32_machine.proofs.Opening.{process-listed, new-process, opened-new, opened-unknown}
use Rattle.w32_machine.proofs.machine.Machine.open_process.Goals as goal

pub give-requires-clause-listed : goal.give-requires-clause-listed
give-requires-clause-listed c =
    process-listed c.self.inside c.self.invariant c.args.self.now c.self.view_is c.args.w c.in-Some.o
    (sym c.in-Some.ensures)

pub make-requires-clause-kind : goal.make-requires-clause-kind
make-requires-clause-kind c =
    new-process c.self.inside c.self.invariant c.args.self.now c.self.view_is c.args.w c.in-Some-slot_of.slot
    (sym c.in-None.ensures) c.in-Some-slot_of.ensures

pub returns-in-Some-slot_of-clause-step : goal.returns-in-Some-slot_of-clause-step
returns-in-Some-slot_of-clause-step c =
    opened-new c.self.inside c.self.invariant c.args.self.now c.self.view_is c.args.by.now.process c.args.w
    c.in-Some-slot_of.slot c.make.result c.make.new.self.win32 (sym c.in-None.ensures) c.in-Some-slot_of.ensures
    c.make.ensures.step

pub returns-in-None-slot_of-clause-step : goal.returns-in-None-slot_of-clause-step
returns-in-None-slot_of-clause-step c =
    opened-unknown c.self.inside c.self.invariant c.args.self.now c.self.view_is c.args.by.now.process c.args.w
    (sym c.in-None.ensures) c.in-None-slot_of.ensures
