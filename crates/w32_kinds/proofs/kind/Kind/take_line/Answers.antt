use Rattle.std.proofs.Common.{◌≡◌, ◌∙◌, false, None, Err, refl, sym, ap, subst}
use Rattle.std.specs.Box.{with_value}
use Rattle.tty_spec.specs.Discipline.{after_take}
use Rattle.w32_base.specs.declared.call.Reply.TheVariants as reply
use Rattle.win32_spec.specs.TerminalCalls.{is_background}
use Rattle.w32_kinds.specs.declared.kind.Kind.TheVariants as kind
use Rattle.w32_kinds.specs.Terminals.{TakesLine}
use Rattle.w32_kinds.proofs.kind.Kind.take_line.Goals as goal

pub returns-in-None : goal.returns-in-None
returns-in-None c =
    let near : is_background c.in-Terminal.terminal.value c.args.group ≡ false =
    sym (c.is_behind.ensures ∙ ap (λ t. is_background t c.args.group) c.deref.ensures) ∙ c.if-is_behind.false in
    let none : after_take c.in-Terminal.terminal.value c.args.count ≡ None =
    ap (λ t. after_take t c.args.count) (sym c.deref_mut.ensures.value) ∙ c.in-None.ensures.0 in
    let same : c.take_line.new.self ≡ c.in-Terminal.terminal.value =
    c.in-None.ensures.1 ∙ c.deref_mut.ensures.value in
    subst (λ k. TakesLine c.args.group c.args.count k (Err reply.NoLine)
    (kind.Terminal (with_value c.in-Terminal.terminal c.take_line.new.self))) (sym c.in-Terminal.is)
    (rw (near, none) (refl, ap (λ v. kind.Terminal (with_value c.in-Terminal.terminal v)) same))
