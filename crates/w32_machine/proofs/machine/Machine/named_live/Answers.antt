use Rattle.std.proofs.Common.{◌∙◌, sym}
use Rattle.w32_machine.proofs.Reaching.{gone-named, same-number, other-number, dead, lives-there, reaches}
use Rattle.w32_machine.proofs.machine.Machine.named_live.Goals as goal

pub returns-then-eq-clause-reached : goal.returns-then-eq-clause-reached
returns-then-eq-clause-reached c =
    reaches c.self.inside c.self.invariant c.args.self.now c.self.view_is c.args.by.now.process c.args.h c.in-Some.at.1
    c.in-Some.at.0 c.in-Some.ensures.named
    (lives-there c.self.inside c.self.invariant c.args.self.now c.self.view_is c.in-Some.at.1 c.in-Some.at.0
    (sym c.in_slot.ensures.value ∙ same-number c.in_slot.result c.in-Some.at.0 (sym c.eq.ensures ∙ c.if-eq.true)))

pub returns-else-eq-clause-missed : goal.returns-else-eq-clause-missed
returns-else-eq-clause-missed c =
    gone-named c.args.self.now.win32 c.args.by.now.process c.args.h c.in-Some.at.0 c.in-Some.ensures.named
    (dead c.self.inside c.self.invariant c.args.self.now c.self.view_is c.in-Some.at.0 c.in-Some.at.1
    c.in-Some.ensures.slot
    (λ e. other-number c.in_slot.result c.in-Some.at.0 (sym c.eq.ensures ∙ c.if-eq.false)
    (c.in_slot.ensures.value ∙ e)))
