use Rattle.std.proofs.Common.{◌≡◌, ◌∙◌, true, is_some, refl, sym, ap, subst}
use Rattle.w32_machine.specs.Running.{Running}
use Rattle.w32_kinds.specs.Terminals.{terminal_of}
use Rattle.w32_machine.specs.View.{view_of}
use Rattle.w32_machine.proofs.Changing.{some_at, object_is}
use Rattle.w32_machine.proofs.TerminalLines.{same-lent, no-terminal, no-key, no-first, keys-back, press-sound}
use Rattle.w32_machine.proofs.TerminalLines.{press-step}
use Rattle.w32_machine.proofs.machine.Machine.tty_key.Goals as goal

pub get-requires : goal.get-requires
get-requires c = some_at c.self.inside c.self.invariant c.args.self.now c.self.view_is c.args.by.now c.requires
    c.args.h c.in-Some.o
    (sym c.in-Some.is ∙ c.named.ensures)

pub get_mut-requires : goal.get_mut-requires
get_mut-requires c = some_at c.self.inside c.self.invariant c.args.self.now c.self.view_is c.args.by.now c.requires
    c.args.h c.in-Some.o
    (sym c.in-Some.is ∙ c.named.ensures)

pub returns-then-not-is_terminal-clause-step : goal.returns-then-not-is_terminal-clause-step
returns-then-not-is_terminal-clause-step c =
    no-terminal c.args.self.now.win32 c.args.self.now.win32 c.args.by.now.process c.args.h c.get.result.now _
    (object_is c.self.inside c.self.invariant c.args.self.now c.self.view_is c.args.by.now c.requires c.args.h
    c.in-Some.o
    (sym c.in-Some.is ∙ c.named.ensures)
    c.get.result.now c.get.ensures.value) (sym c.is_terminal.ensures ∙ c.if-not-is_terminal.true) refl

pub invariant_of-self : goal.invariant_of-self
invariant_of-self c =
    press-sound c.self.inside (record c.self.inside { keys = c.pop_front.new.self }) c.self.invariant refl
    c.pop_front.ensures.capacity c.args.self.now c.self.view_is c.args.by.now c.requires c.args.h c.in-Some.o
    (sym c.in-Some.is ∙ c.named.ensures) c.get_mut.result.now c.get_mut.ensures.value c.get_mut.ensures.value
    c.press.new.self c.in-Some-pop_front.b c.press.result
    (subst (λ x. is_some (terminal_of x) ≡ true)
    (same-lent _ c.get.result.now c.get_mut.result.now c.get.ensures.value c.get_mut.ensures.value)
    (sym c.is_terminal.ensures ∙ c.if-not-is_terminal.false)) c.in-Some-pop_front.ensures.items c.press.ensures

pub returns-in-Some-pop_front-clause-step : goal.returns-in-Some-pop_front-clause-step
returns-in-Some-pop_front-clause-step c =
    press-step c.self.inside (record c.self.inside { keys = c.pop_front.new.self }) c.self.invariant refl
    c.pop_front.ensures.capacity c.args.self.now c.self.view_is c.args.by.now c.requires c.args.h c.in-Some.o
    (sym c.in-Some.is ∙ c.named.ensures) c.get_mut.result.now c.get_mut.ensures.value c.get_mut.ensures.value
    c.press.new.self c.in-Some-pop_front.b c.press.result
    (subst (λ x. is_some (terminal_of x) ≡ true)
    (same-lent _ c.get.result.now c.get_mut.result.now c.get.ensures.value c.get_mut.ensures.value)
    (sym c.is_terminal.ensures ∙ c.if-not-is_terminal.false)) c.in-Some-pop_front.ensures.items c.press.ensures

pub returns-in-None-clause-step : goal.returns-in-None-clause-step
returns-in-None-clause-step c =
    let none = no-first c.self.inside.keys.items (sym c.self.inside.keys.ok.0 ∙ c.in-None.ensures.cases.0) in
    no-key c.args.self.now.win32
    (record (view_of c.self.inside).win32 { keys = c.pop_front.new.self.items }) c.args.by.now.process c.args.h
    c.get.result.now
    (object_is c.self.inside c.self.invariant c.args.self.now c.self.view_is c.args.by.now c.requires c.args.h
    c.in-Some.o
    (sym c.in-Some.is ∙ c.named.ensures)
    c.get.result.now c.get.ensures.value) (sym c.is_terminal.ensures ∙ c.if-not-is_terminal.false)
    (ap (λ (r : Running). r.win32.keys) (sym c.self.view_is) ∙ none)
    (keys-back c.self.inside c.args.self.now c.self.view_is c.pop_front.new.self.items c.in-None.ensures.items)
