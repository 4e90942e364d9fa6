use Rattle.std.proofs.Common.{ap, ◌∙◌}
use Rattle.log_spec.specs.EventsText.{is_one_line}
use Rattle.log_text.proofs.OneLine.{decimal_one_line}
use Rattle.log_text.proofs.line.Line.push_natural.Goals as goal

pub push_text-requires-clause-one_line : goal.push_text-requires-clause-one_line
push_text-requires-clause-one_line c =
    ap is_one_line (c.as_bytes.ensures.value ∙ c.format.ensures.text)
    ∙ decimal_one_line c.args.number c.ranges.number.fits
