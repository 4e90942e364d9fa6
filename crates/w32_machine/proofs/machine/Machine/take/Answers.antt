use Rattle.std.proofs.Common.{◌∙◌, sym, ap}
use Rattle.win32_spec.specs.Ready.{is_handle_signalled}
use Rattle.w32_machine.proofs.Changing.{some_at}
use Rattle.w32_machine.proofs.Waits.{may-take, take-done, take-sound, absent-signalled}
use Rattle.w32_machine.proofs.machine.Machine.take.Goals as goal

pub get_mut-requires : goal.get_mut-requires
get_mut-requires c = some_at c.self.inside c.self.invariant c.args.self.now c.self.view_is c.args.by.now
    c.requires.caller c.args.h
    c.in-Some.o (sym c.in-Some.is ∙ c.named.ensures)

pub take-requires : goal.take-requires
take-requires c =
    may-take c.self.inside c.self.invariant c.args.self.now c.self.view_is c.args.by.now c.requires.caller c.args.h
    c.in-Some.o (sym c.in-Some.is ∙ c.named.ensures)
    c.get_mut.result.now c.get_mut.ensures.value c.requires.signalled

pub invariant_of-self : goal.invariant_of-self
invariant_of-self c =
    take-sound c.self.inside c.self.invariant c.args.self.now c.self.view_is c.args.by.now c.requires.caller c.args.h
    c.in-Some.o (sym c.in-Some.is ∙ c.named.ensures)
    c.get_mut.result.now c.get_mut.ensures.value c.requires.signalled c.args.place c.take.result c.take.new.self
    c.take.ensures

pub returns-clause-taken : goal.returns-clause-taken
returns-clause-taken c =
    take-done c.self.inside c.self.invariant c.args.self.now c.self.view_is c.args.by.now c.requires.caller c.args.h
    c.in-Some.o (sym c.in-Some.is ∙ c.named.ensures)
    c.get_mut.result.now c.get_mut.ensures.value c.requires.signalled c.args.place c.take.result c.take.new.self
    c.take.ensures

pub unreachable-requires : goal.unreachable-requires
unreachable-requires c =
    absent-signalled c.args.self.now.win32 c.args.by.now.process c.args.by.now.thread c.named.result c.in-None.is
    (ap (is_handle_signalled c.args.self.now.win32 c.args.by.now.process c.args.by.now.thread) c.named.ensures
    ∙ c.requires.signalled)
