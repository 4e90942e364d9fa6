use Rattle.std.proofs.Common.{◌∙◌, sym, ap}
use Rattle.win32_spec.specs.Named.{terminal_named}
use Rattle.w32_machine.proofs.Changing.{some_at, object_is}
use Rattle.w32_machine.proofs.TerminalSteps.{named-terminal}
use Rattle.w32_machine.proofs.machine.Machine.terminal.Goals as goal

pub get-requires : goal.get-requires
get-requires c = some_at c.self.inside c.self.invariant c.args.self.now c.self.view_is c.args.by.now c.requires
    c.args.h c.in-Some.o
    (sym c.in-Some.is ∙ c.named.ensures)

pub returns-in-Some : goal.returns-in-Some
returns-in-Some c =
    c.terminal.ensures ∙ sym (named-terminal c.get.result.now)
    ∙ ap terminal_named (sym (object_is c.self.inside c.self.invariant c.args.self.now c.self.view_is c.args.by.now
    c.requires c.args.h c.in-Some.o
    (sym c.in-Some.is ∙ c.named.ensures)
    c.get.result.now c.get.ensures.value))
