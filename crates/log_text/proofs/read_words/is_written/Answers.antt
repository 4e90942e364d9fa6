use Rattle.log_text.proofs.ReadWords.{numeral_within}
use Rattle.log_text.proofs.read_words.is_written.Goals as goal

pub returns-clause-range : goal.returns-clause-range
returns-clause-range c = numeral_within _ c.get.ensures.range.0 c.get.ensures.range.1
