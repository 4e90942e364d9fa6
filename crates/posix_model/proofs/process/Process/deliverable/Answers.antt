use Rattle.std.proofs.Common.{ap, ◌∙◌}
use Rattle.sig_sets.specs.Shown.{bits_of}
use Rattle.posix_spec.specs.Signals.{least, outside}
use Rattle.posix_model.proofs.SignalLemmas.{outside_none, least_range}
use Rattle.posix_model.proofs.process.Process.deliverable.Goals as goal

pub returns-clause-value : goal.returns-clause-value
returns-clause-value c =
    c.deliverable.ensures
    ∙ ap (λ mask. least (outside (bits_of c.open_signals.result) mask)) (c.empty.ensures tt)
    ∙ ap least (outside_none (bits_of c.open_signals.result) c.open_signals.ensures.within)
    ∙ ap least c.open_signals.ensures.value

pub returns-clause-range : goal.returns-clause-range
returns-clause-range c = least_range (outside (bits_of c.open_signals.result) (bits_of c.empty.result))
    c.deliverable.result c.deliverable.ensures
