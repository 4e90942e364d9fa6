use Rattle.std.proofs.Common.{ap, sym, ◌∙◌, ◌++◌}
use Rattle.w32_base.specs.declared.event.Event.{Event}
use Rattle.log_spec.specs.Events.{event_text}
use Rattle.log_text.proofs.event.push_event.Goals as goal

pub returns-in-GroupDone-clause-text : goal.returns-in-GroupDone-clause-text
returns-in-GroupDone-clause-text c =
    c.answered-in-GroupDone.ensures.text
    ∙ ap (λ (e : Event). c.args.line.now ++ event_text e) (sym c.in-GroupDone.is)

pub returns-in-Background-clause-text : goal.returns-in-Background-clause-text
returns-in-Background-clause-text c =
    c.by_of-in-Background.ensures.text
    ∙ ap (λ (e : Event). c.args.line.now ++ event_text e) (sym c.in-Background.is)
