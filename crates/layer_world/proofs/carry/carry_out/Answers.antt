use Rattle.std.proofs.Common.{sym, subst}
use Rattle.w32_base.specs.declared.entry.Directive.TheVariants as directive
use Rattle.win32_spec.specs.Driven.{DrivenBy}
use Rattle.layer_world.proofs.carry.carry_out.Goals as goal

pub returns-in-Turn-clause-driven : goal.returns-in-Turn-clause-driven
returns-in-Turn-clause-driven g c =
    let e = c.entry_of_turn.result in
    subst (λ d. DrivenBy g.P.Part.posted_of g.P.Part.goes g.P.Whole.opening g.P.Whole.slot_of g.P.Whole.thread_of
    c.args.driven.now.script c.args.driven.now.state d e.call e.outcome c.turn.new.self.state) (sym c.in-Turn.is)
    (subst (λ x. DrivenBy g.P.Part.posted_of g.P.Part.goes g.P.Whole.opening g.P.Whole.slot_of g.P.Whole.thread_of
    c.args.driven.now.script c.args.driven.now.state (directive.Turn c.in-Turn.slot c.in-Turn.thread) x.call x.outcome
    c.turn.new.self.state) (sym c.entry_of_turn.ensures) c.turn.ensures.driven)
