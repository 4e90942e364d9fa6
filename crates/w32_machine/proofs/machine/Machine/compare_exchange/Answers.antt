use Rattle.std.proofs.Common.{◌∙◌, sym}
use Rattle.w32_machine.proofs.Changing.{some_at}
use Rattle.w32_machine.proofs.Called.{exchange-done, exchange-sound}
use Rattle.w32_machine.proofs.machine.Machine.compare_exchange.Goals as goal

pub get_mut-requires : goal.get_mut-requires
get_mut-requires c =
    some_at c.self.inside c.self.invariant c.args.self.now c.self.view_is c.args.by.now c.requires c.args.h c.in-Some.o
    (sym c.in-Some.is ∙ c.named.ensures)

pub invariant_of-self : goal.invariant_of-self
invariant_of-self c =
    exchange-sound c.self.inside c.self.invariant c.args.self.now c.self.view_is c.args.by.now c.requires c.args.h
    c.in-Some.o
    (sym c.in-Some.is ∙ c.named.ensures) c.get_mut.result.now c.get_mut.ensures.value c.compare_exchange.new.self
    c.compare_exchange.result c.args.i c.args.old c.args.new
    c.compare_exchange.ensures

pub returns-in-Some-clause-step : goal.returns-in-Some-clause-step
returns-in-Some-clause-step c =
    exchange-done c.self.inside c.self.invariant c.args.self.now c.self.view_is c.args.by.now c.requires c.args.h
    c.in-Some.o
    (sym c.in-Some.is ∙ c.named.ensures) c.get_mut.result.now c.get_mut.ensures.value c.compare_exchange.new.self
    c.compare_exchange.result c.args.i c.args.old c.args.new
    c.compare_exchange.ensures
