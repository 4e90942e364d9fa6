use Rattle.std.proofs.Common.{◌∙◌, sym, ap, not, if◌then◌else◌, ◌==◌}
use Rattle.win32_spec.specs.Objects.{is_free_for, is_empty}
use Rattle.tty_spec.specs.Discipline.{has_line}
use Rattle.w32_kinds.specs.declared.kind.Kind.TheVariants as kind
use Rattle.w32_machine.specs.Running.{Running}
use Rattle.w32_machine.proofs.Changing.{some_at}
use Rattle.w32_machine.proofs.Signalled.{kind-signalled, pipe-signalled, pipe-other, process-signalled, is_empty-length}
use Rattle.w32_machine.proofs.machine.Machine.is_signalled.Goals as goal

pub get-requires : goal.get-requires
get-requires c =
    some_at c.self.inside c.self.invariant c.args.self.now c.self.view_is c.args.by.now c.requires c.args.h
    c.in-Some.names
    (sym c.in-Some.is ∙ c.named.ensures)

pub returns-in-Section : goal.returns-in-Section
returns-in-Section c =
    kind-signalled c.self.inside c.self.invariant c.args.self.now c.self.view_is c.args.by.now c.requires c.args.h
    c.in-Some.names
    (sym c.in-Some.is ∙ c.named.ensures) c.get.result.now c.get.ensures.value (kind.Section c.in-Section.field-0)
    c.in-Section.is

pub returns-in-Event : goal.returns-in-Event
returns-in-Event c =
    c.signalled.ensures ∙ kind-signalled c.self.inside c.self.invariant c.args.self.now c.self.view_is c.args.by.now
    c.requires c.args.h c.in-Some.names
    (sym c.in-Some.is ∙ c.named.ensures) c.get.result.now c.get.ensures.value (kind.Event c.in-Event.event)
    c.in-Event.is

pub returns-in-Mutex : goal.returns-in-Mutex
returns-in-Mutex c =
    c.signalled-in-Mutex.ensures
    ∙ ap (λ w. is_free_for c.in-Mutex.mutex w c.owner-owner.result.1) c.owner-owner.ensures.process
    ∙ ap (λ t. is_free_for c.in-Mutex.mutex c.args.by.now.process t) c.owner-owner.ensures.thread
    ∙ kind-signalled c.self.inside c.self.invariant c.args.self.now c.self.view_is c.args.by.now c.requires c.args.h
    c.in-Some.names
    (sym c.in-Some.is ∙ c.named.ensures) c.get.result.now c.get.ensures.value (kind.Mutex c.in-Mutex.mutex)
    c.in-Mutex.is

pub returns-then-is_first : goal.returns-then-is_first
returns-then-is_first c =
    c.signalled-then-is_first.ensures.value ∙ pipe-signalled c.self.inside c.self.invariant c.args.self.now
    c.self.view_is c.args.by.now c.requires c.args.h c.in-Some.names
    (sym c.in-Some.is ∙ c.named.ensures) c.get.result.now c.get.ensures.value c.in-Pipe.pipe
    c.in-Pipe.is (sym c.is_first.ensures ∙ c.if-is_first.true)

pub returns-else-is_first : goal.returns-else-is_first
returns-else-is_first c =
    c.if-is_first.false ∙ pipe-other c.self.inside c.self.invariant c.args.self.now c.self.view_is c.args.by.now
    c.requires c.args.h c.in-Some.names
    (sym c.in-Some.is ∙ c.named.ensures) c.get.result.now c.get.ensures.value c.in-Pipe.pipe
    c.in-Pipe.is (sym c.is_first.ensures ∙ c.if-is_first.false)

pub returns-in-Process : goal.returns-in-Process
returns-in-Process c =
    process-signalled c.self.inside c.self.invariant c.args.self.now c.self.view_is c.args.by.now c.requires c.args.h
    c.in-Some.names
    (sym c.in-Some.is ∙ c.named.ensures) c.get.result.now c.get.ensures.value c.in-Process.w
    c.in-Process.slot c.in-Process.is c.lives.result c.lives.ensures.0 c.lives.ensures.1

pub returns-then-is_first-2 : goal.returns-then-is_first-2
returns-then-is_first-2 c =
    ap not (c.is_empty.ensures ∙ ap (λ n. n == 0) c.self.inside.keys.ok.0 ∙ sym (is_empty-length
    c.self.inside.keys.items)
    ∙ ap (λ (r : Running). is_empty r.win32.keys) c.self.view_is)
    ∙ sym (ap (λ b. if b then not (is_empty c.args.self.now.win32.keys) else has_line c.in-Terminal.terminal.value)
    (sym c.is_first-in-Terminal.ensures ∙ c.if-is_first-2.true))
    ∙ kind-signalled c.self.inside c.self.invariant c.args.self.now c.self.view_is c.args.by.now c.requires c.args.h
    c.in-Some.names
    (sym c.in-Some.is ∙ c.named.ensures) c.get.result.now c.get.ensures.value (kind.Terminal c.in-Terminal.terminal)
    c.in-Terminal.is

pub returns-else-is_first-2 : goal.returns-else-is_first-2
returns-else-is_first-2 c =
    c.has_line.ensures ∙ ap has_line c.deref.ensures
    ∙ sym (ap (λ b. if b then not (is_empty c.args.self.now.win32.keys) else has_line c.in-Terminal.terminal.value)
    (sym c.is_first-in-Terminal.ensures ∙ c.if-is_first-2.false))
    ∙ kind-signalled c.self.inside c.self.invariant c.args.self.now c.self.view_is c.args.by.now c.requires c.args.h
    c.in-Some.names
    (sym c.in-Some.is ∙ c.named.ensures) c.get.result.now c.get.ensures.value (kind.Terminal c.in-Terminal.terminal)
    c.in-Terminal.is
