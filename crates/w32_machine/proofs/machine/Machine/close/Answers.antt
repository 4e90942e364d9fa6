use Rattle.std.proofs.Common.{◌∙◌, sym}
use Rattle.w32_machine.proofs.Closes.{has_process, held, forgettable, close-sound, close-done}
use Rattle.w32_machine.proofs.machine.Machine.close.Goals as goal

pub handles_mut-requires : goal.handles_mut-requires
handles_mut-requires c =
    has_process c.self.inside c.self.invariant c.args.self.now c.self.view_is c.args.by.now c.requires c.args.h
    c.in-Some.o (sym c.in-Some.is ∙ c.named.ensures)

pub let_go-went-requires : goal.let_go-went-requires
let_go-went-requires c =
    held c.self.inside c.self.invariant c.args.self.now c.self.view_is c.args.by.now c.requires c.args.h c.in-Some.o
    (sym c.in-Some.is ∙ c.named.ensures)

pub forget-requires : goal.forget-requires
forget-requires c =
    forgettable c.self.inside c.self.invariant c.args.self.now c.self.view_is c.args.by.now c.requires c.args.h
    c.in-Some.o (sym c.in-Some.is ∙ c.named.ensures) c.close.new.self c.handles_mut.result.now
    c.handles_mut.ensures.value c.close.ensures.closed c.let_go-went.new.objects c.let_go-went.ensures.left
    c.let_go-went.ensures.spare c.let_go-went.result c.let_go-went.ensures.went

pub invariant_of-self : goal.invariant_of-self
invariant_of-self c =
    close-sound c.self.inside c.self.invariant c.args.self.now c.self.view_is c.args.by.now c.requires c.args.h
    c.in-Some.o (sym c.in-Some.is ∙ c.named.ensures) c.close.new.self c.handles_mut.result.now
    c.handles_mut.ensures.value c.close.ensures.closed c.let_go-went.new.objects c.let_go-went.ensures.left
    c.let_go-went.ensures.spare c.let_go-went.result c.let_go-went.ensures.went c.forget.new.processes
    c.forget.ensures

pub returns-in-Some-clause-step : goal.returns-in-Some-clause-step
returns-in-Some-clause-step c =
    close-done c.self.inside c.self.invariant c.args.self.now c.self.view_is c.args.by.now c.requires c.args.h
    c.in-Some.o (sym c.in-Some.is ∙ c.named.ensures) c.close.new.self c.handles_mut.result.now
    c.handles_mut.ensures.value c.close.ensures.closed c.let_go-went.new.objects c.let_go-went.ensures.left
    c.let_go-went.ensures.spare c.let_go-went.result c.let_go-went.ensures.went c.forget.new.processes
    c.forget.ensures
