use Rattle.std.proofs.Common.{◌∙◌, sym, subst}
use Rattle.w32_kinds.specs.Kinds.{Gets}
use Rattle.w32_machine.proofs.Changing.{some_at}
use Rattle.w32_machine.proofs.Called.{get-done, get-sound}
use Rattle.w32_machine.proofs.machine.Machine.get.Goals as goal

pub get_mut-requires : goal.get_mut-requires
get_mut-requires c =
    some_at c.self.inside c.self.invariant c.args.self.now c.self.view_is c.args.by.now c.requires c.args.h c.in-Some.o
    (sym c.in-Some.is ∙ c.named.ensures)

pub invariant_of-self : goal.invariant_of-self
invariant_of-self c =
    get-sound c.self.inside c.self.invariant c.args.self.now c.self.view_is c.args.by.now c.requires c.args.h
    c.in-Some.o
    (sym c.in-Some.is ∙ c.named.ensures) c.get_mut.result.now c.get_mut.ensures.value c.get.new.self c.get.result
    (subst (λ e. Gets e c.get_mut.result.now c.get.result c.get.new.self) c.end_of.ensures c.get.ensures)

pub returns-in-Some-clause-step : goal.returns-in-Some-clause-step
returns-in-Some-clause-step c =
    get-done c.self.inside c.self.invariant c.args.self.now c.self.view_is c.args.by.now c.requires c.args.h c.in-Some.o
    (sym c.in-Some.is ∙ c.named.ensures) c.get_mut.result.now c.get_mut.ensures.value c.get.new.self c.get.result
    (subst (λ e. Gets e c.get_mut.result.now c.get.result c.get.new.self) c.end_of.ensures c.get.ensures)
