use Rattle.std.proofs.Common.{◌∙◌, sym}
use Rattle.w32_machine.proofs.Changing.{some_at}
use Rattle.w32_machine.proofs.Processes.{named-process}
use Rattle.w32_machine.proofs.machine.Machine.named_process.Goals as goal

pub get-requires : goal.get-requires
get-requires c =
    some_at c.self.inside c.self.invariant c.args.self.now c.self.view_is c.args.by.now c.requires c.args.h c.in-Some.o
    (sym c.in-Some.is ∙ c.named.ensures)

pub returns-in-Some : goal.returns-in-Some
returns-in-Some c =
    let it = named-process c.self.inside c.self.invariant c.args.self.now c.self.view_is c.args.by.now c.requires
    c.args.h
    c.in-Some.o (sym c.in-Some.is ∙ c.named.ensures) c.get.result.now c.get.ensures.value c.process.result
    c.process.ensures in
    record { named = it.named; slot = it.slot }
