use Rattle.std.proofs.Common.{◌∙◌, sym, ap, true≢false}
use Rattle.win32_spec.specs.Handles.{handle_of}
use Rattle.w32_machine.proofs.Slots.{is_there}
use Rattle.w32_machine.proofs.Opening.{dup-gone, at, dup-none, dup-listed, dup-done}
use Rattle.w32_machine.proofs.machine.Machine.dup.Goals as goal

pub returns-then-not-lives-clause-step : goal.returns-then-not-lives-clause-step
returns-then-not-lives-clause-step c =
    dup-gone c.self.inside c.self.invariant c.args.self.now c.self.view_is c.args.by.now.process c.args.h c.args.n
    c.in-Some.process.0 c.in-Some.process.1 c.in-Some.ensures.named c.in-Some.ensures.slot
    (λ e. true≢false (sym (c.lives.ensures.1 e) ∙ c.if-not-lives.true))

pub handles-requires : goal.handles-requires
handles-requires c =
    is_there _ c.in-Some.process.0
    (at c.self.inside c.self.invariant c.args.self.now c.self.view_is c.args.by.now.process c.args.h c.args.n
    c.in-Some.process.0 c.in-Some.process.1 c.in-Some.ensures.named (c.lives.ensures.0 c.if-not-lives.false))

pub give-requires-clause-listed : goal.give-requires-clause-listed
give-requires-clause-listed c =
    dup-listed c.self.inside c.self.invariant c.args.self.now c.self.view_is c.args.by.now.process c.args.h c.args.n
    c.in-Some.process.0 c.in-Some.process.1 c.in-Some.ensures.named (c.lives.ensures.0 c.if-not-lives.false)
    c.in-Some-get.o
    (ap (λ hs. handle_of hs c.args.n) (sym c.handles.ensures) ∙ sym c.in-Some-get.ensures.named)

pub returns-in-Some-get-clause-step : goal.returns-in-Some-get-clause-step
returns-in-Some-get-clause-step c =
    dup-done c.self.inside c.self.invariant c.args.self.now c.self.view_is c.args.by.now.process c.args.h c.args.n
    c.in-Some.process.0 c.in-Some.process.1 c.in-Some.ensures.named (c.lives.ensures.0 c.if-not-lives.false)
    c.in-Some-get.o c.give.result c.give.new.self.win32
    (ap (λ hs. handle_of hs c.args.n) (sym c.handles.ensures) ∙ sym c.in-Some-get.ensures.named) c.give.ensures.step

pub returns-in-None-clause-step : goal.returns-in-None-clause-step
returns-in-None-clause-step c =
    dup-none c.self.inside c.self.invariant c.args.self.now c.self.view_is c.args.by.now.process c.args.h c.args.n
    c.in-Some.process.0 c.in-Some.process.1 c.in-Some.ensures.named (c.lives.ensures.0 c.if-not-lives.false)
    (ap (λ hs. handle_of hs c.args.n) (sym c.handles.ensures) ∙ sym c.in-None.ensures.named)
