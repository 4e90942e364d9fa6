use Rattle.std.proofs.Common.{ap, ◌∙◌, w64}
use Rattle.std.proofs.lemmas.Int.{to_z-of_z}
use Rattle.std.specs.Fmt.{signed_decimal}
use Rattle.log_spec.specs.EventsText.{is_one_line}
use Rattle.log_text.proofs.OneLine.{signed_one_line}
use Rattle.log_text.proofs.line.Line.push_number.Goals as goal

pub push_text-requires-clause-one_line : goal.push_text-requires-clause-one_line
push_text-requires-clause-one_line c =
    ap is_one_line (c.as_bytes.ensures.value ∙ c.format.ensures.text
    ∙ ap signed_decimal (to_z-of_z w64 c.get.result (record { sfits = c.get.type_inv }) ∙ c.get.ensures.value))
    ∙ signed_one_line c.args.number c.get.ensures.range.0 c.get.ensures.range.1
