use Rattle.std.proofs.Common.{◌∙◌, sym}
use Rattle.w32_machine.proofs.Changing.{some_at}
use Rattle.w32_machine.proofs.TerminalSteps.{change-step, change-sound}
use Rattle.w32_machine.proofs.machine.Machine.tty_set_foreground.Goals as goal

pub get_mut-requires : goal.get_mut-requires
get_mut-requires c = some_at c.self.inside c.self.invariant c.args.self.now c.self.view_is c.args.by.now c.requires
    c.args.h c.in-Some.o
    (sym c.in-Some.is ∙ c.named.ensures)

pub invariant_of-self : goal.invariant_of-self
invariant_of-self c =
    change-sound c.self.inside c.self.invariant c.args.self.now c.self.view_is c.args.by.now c.requires c.args.h
    c.in-Some.o
    (sym c.in-Some.is ∙ c.named.ensures)
    c.get_mut.result.now c.get_mut.ensures.value c.set_foreground.new.self c.args.group c.args.force
    (λ t. record t { foreground = c.args.next }) c.set_foreground.result c.set_foreground.ensures

pub returns-in-Some-clause-step : goal.returns-in-Some-clause-step
returns-in-Some-clause-step c =
    change-step c.self.inside c.self.invariant c.args.self.now c.self.view_is c.args.by.now c.requires c.args.h
    c.in-Some.o
    (sym c.in-Some.is ∙ c.named.ensures)
    c.get_mut.result.now c.get_mut.ensures.value c.set_foreground.new.self c.args.group c.args.force
    (λ t. record t { foreground = c.args.next }) c.set_foreground.result c.set_foreground.ensures
