use Rattle.std.proofs.Common.{ap, ◌∙◌, arith, length}
use Rattle.log_spec.specs.EventsText.{is_one_line}
use Rattle.log_text.proofs.OneLine.{name_one_line, name_is_short}
use Rattle.log_text.proofs.words.add_name.Goals as goal

pub add_word-requires-clause-one_line : goal.add_word-requires-clause-one_line
add_word-requires-clause-one_line c =
    ap is_one_line c.as_slice.ensures.value ∙ name_one_line c.args.name.now c.as_slice.ensures.form

pub add_word-requires-clause-room : goal.add_word-requires-clause-room
add_word-requires-clause-room c =
    omega (arith, ap length c.as_slice.ensures.value, name_is_short c.args.name.now c.as_slice.ensures.form)

pub returns-clause-size : goal.returns-clause-size
returns-clause-size c =
    omega (arith, ap length c.as_slice.ensures.value, name_is_short c.args.name.now c.as_slice.ensures.form)
