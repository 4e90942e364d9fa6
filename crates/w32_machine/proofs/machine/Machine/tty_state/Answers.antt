use Rattle.std.proofs.Common.{◌∙◌, sym}
use Rattle.w32_machine.proofs.Changing.{some_at, object_is}
use Rattle.w32_machine.proofs.TerminalSteps.{tells-step}
use Rattle.w32_machine.proofs.machine.Machine.tty_state.Goals as goal

pub get-requires : goal.get-requires
get-requires c = some_at c.self.inside c.self.invariant c.args.self.now c.self.view_is c.args.by.now c.requires
    c.args.h c.in-Some.o
    (sym c.in-Some.is ∙ c.named.ensures)

pub returns-in-Some : goal.returns-in-Some
returns-in-Some c =
    tells-step c.args.self.now.win32 c.args.by.now.process c.args.h c.get.result.now c.terminal_state.result
    (object_is c.self.inside c.self.invariant c.args.self.now c.self.view_is c.args.by.now c.requires c.args.h
    c.in-Some.o
    (sym c.in-Some.is ∙ c.named.ensures)
    c.get.result.now c.get.ensures.value) c.terminal_state.ensures
