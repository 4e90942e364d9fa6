use Rattle.std.proofs.Common.{◌∙◌, sym, subst}
use Rattle.w32_kinds.specs.Kinds.{Puts}
use Rattle.w32_machine.proofs.Changing.{some_at}
use Rattle.w32_machine.proofs.Called.{put-done, put-sound}
use Rattle.w32_machine.proofs.machine.Machine.put.Goals as goal

pub get_mut-requires : goal.get_mut-requires
get_mut-requires c =
    some_at c.self.inside c.self.invariant c.args.self.now c.self.view_is c.args.by.now c.requires c.args.h c.in-Some.o
    (sym c.in-Some.is ∙ c.named.ensures)

pub invariant_of-self : goal.invariant_of-self
invariant_of-self c =
    put-sound c.self.inside c.self.invariant c.args.self.now c.self.view_is c.args.by.now c.requires c.args.h
    c.in-Some.o
    (sym c.in-Some.is ∙ c.named.ensures) c.get_mut.result.now c.get_mut.ensures.value c.put.new.self c.put.result
    c.args.b
    (subst (λ e. Puts e c.args.b c.get_mut.result.now c.put.result c.put.new.self) c.end_of.ensures c.put.ensures)

pub returns-in-Some-clause-step : goal.returns-in-Some-clause-step
returns-in-Some-clause-step c =
    put-done c.self.inside c.self.invariant c.args.self.now c.self.view_is c.args.by.now c.requires c.args.h c.in-Some.o
    (sym c.in-Some.is ∙ c.named.ensures) c.get_mut.result.now c.get_mut.ensures.value c.put.new.self c.put.result
    c.args.b
    (subst (λ e. Puts e c.args.b c.get_mut.result.now c.put.result c.put.new.self) c.end_of.ensures c.put.ensures)
