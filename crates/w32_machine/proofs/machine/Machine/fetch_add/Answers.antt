use Rattle.std.proofs.Common.{◌∙◌, sym}
use Rattle.w32_machine.proofs.Changing.{some_at}
use Rattle.w32_machine.proofs.Called.{add-done, add-sound}
use Rattle.w32_machine.proofs.machine.Machine.fetch_add.Goals as goal

pub get_mut-requires : goal.get_mut-requires
get_mut-requires c =
    some_at c.self.inside c.self.invariant c.args.self.now c.self.view_is c.args.by.now c.requires c.args.h c.in-Some.o
    (sym c.in-Some.is ∙ c.named.ensures)

pub invariant_of-self : goal.invariant_of-self
invariant_of-self c =
    add-sound c.self.inside c.self.invariant c.args.self.now c.self.view_is c.args.by.now c.requires c.args.h
    c.in-Some.o
    (sym c.in-Some.is ∙ c.named.ensures) c.get_mut.result.now c.get_mut.ensures.value c.fetch_add.new.self
    c.fetch_add.result c.args.i c.args.n
    c.fetch_add.ensures

pub returns-in-Some-clause-step : goal.returns-in-Some-clause-step
returns-in-Some-clause-step c =
    add-done c.self.inside c.self.invariant c.args.self.now c.self.view_is c.args.by.now c.requires c.args.h c.in-Some.o
    (sym c.in-Some.is ∙ c.named.ensures) c.get_mut.result.now c.get_mut.ensures.value c.fetch_add.new.self
    c.fetch_add.result c.args.i c.args.n
    c.fetch_add.ensures
