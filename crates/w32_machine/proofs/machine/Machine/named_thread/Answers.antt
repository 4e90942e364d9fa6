use Rattle.std.proofs.Common.{◌≡◌, None, sym, ◌∙◌, subst}
use Rattle.win32_spec.specs.Lookup.{thread_at}
use Rattle.w32_machine.proofs.Reaching.{no-thread, thread-past, thread-some, thread-none}
use Rattle.w32_machine.proofs.machine.Machine.named_thread.Goals as goal

pub returns-in_default-clause-missed : goal.returns-in_default-clause-missed
returns-in_default-clause-missed c =
    let it = c.in_ok-slot.ensures.reached in
    no-thread c.args.self.now.win32 c.args.by.now.process c.args.h c.in_ok-slot.slot c.args.thread it
    (thread-past c.args.self.now.win32 c.args.by.now.process c.args.h c.in_ok-slot.slot c.args.thread it
    c.in_default.ensures)

pub returns-in-Some-count-clause-there : goal.returns-in-Some-count-clause-there
returns-in-Some-count-clause-there c =
    let it = c.in_ok-slot.ensures.reached in
    thread-some c.self.inside c.self.invariant c.args.self.now c.self.view_is c.in_ok-slot.slot it.number it.lives
    c.in-Some.thread _ (sym c.count.ensures ∙ c.in-Some-count.is)

pub returns-in-None-clause-missed : goal.returns-in-None-clause-missed
returns-in-None-clause-missed c =
    let it = c.in_ok-slot.ensures.reached in
    no-thread c.args.self.now.win32 c.args.by.now.process c.args.h c.in_ok-slot.slot c.args.thread it
    (subst (λ t. thread_at c.args.self.now.win32 c.in_ok-slot.slot t ≡ None) c.in-Some.ensures
    (thread-none c.self.inside c.self.invariant c.args.self.now c.self.view_is c.in_ok-slot.slot it.number it.lives
    c.in-Some.thread (sym c.count.ensures ∙ c.in-None.is)))
