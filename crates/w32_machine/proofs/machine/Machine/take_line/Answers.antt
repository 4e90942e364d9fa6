use Rattle.std.proofs.Common.{◌∙◌, sym}
use Rattle.w32_machine.proofs.Changing.{some_at}
use Rattle.w32_machine.proofs.TerminalLines.{line-sound, line-step}
use Rattle.w32_machine.proofs.machine.Machine.take_line.Goals as goal

pub get_mut-requires : goal.get_mut-requires
get_mut-requires c = some_at c.self.inside c.self.invariant c.args.self.now c.self.view_is c.args.by.now
    c.requires.caller c.args.h c.in-Some.o
    (sym c.in-Some.is ∙ c.named.ensures)

pub invariant_of-self : goal.invariant_of-self
invariant_of-self c =
    line-sound c.self.inside c.self.invariant c.args.self.now c.self.view_is c.args.by.now c.requires.caller c.args.h
    c.in-Some.o
    (sym c.in-Some.is ∙ c.named.ensures)
    c.get_mut.result.now c.get_mut.ensures.value c.take_line.new.self c.args.group c.args.count c.take_line.result
    c.take_line.ensures

pub returns-in-Some-clause-taken : goal.returns-in-Some-clause-taken
returns-in-Some-clause-taken c =
    line-step c.self.inside c.self.invariant c.args.self.now c.self.view_is c.args.by.now c.requires.caller c.args.h
    c.in-Some.o
    (sym c.in-Some.is ∙ c.named.ensures)
    c.get_mut.result.now c.get_mut.ensures.value c.take_line.new.self c.args.group c.args.count c.take_line.result
    c.take_line.ensures
