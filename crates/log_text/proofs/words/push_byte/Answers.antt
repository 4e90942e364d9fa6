use Rattle.log_text.proofs.OneLine.{pair_one_line}
use Rattle.log_text.proofs.words.push_byte.Goals as goal

pub push_text-requires-clause-one_line : goal.push_text-requires-clause-one_line
push_text-requires-clause-one_line c = pair_one_line _ _ c.glyph.ensures.range c.glyph-2.ensures.range
