use Rattle.std.proofs.Common.{refl}
use Rattle.w32_machine.proofs.Copying.{missed, write-step}
use Rattle.w32_machine.proofs.machine.Machine.write_memory.Goals as goal

pub returns-in-Ok-clause-step : goal.returns-in-Ok-clause-step
returns-in-Ok-clause-step c =
    write-step c.args.self.now.win32 c.copy.new.self.win32 c.args.by.now.process c.args.h c.in-Ok.slot
    c.args.by.now.slot
    c.in-Ok.ensures.reached c.requires.process c.args.region c.args.place c.args.own_region c.args.own_place
    c.args.count c.copy.result c.copy.ensures.copied

pub returns-in-Err-clause-step : goal.returns-in-Err-clause-step
returns-in-Err-clause-step c =
    missed c.args.self.now.win32 c.args.self.now.win32 c.args.by.now.process c.args.h c.in-Err.refusal _ refl
    c.in-Err.ensures.missed
