use Rattle.std.proofs.Common.{arith}
use Rattle.std.proofs.lemmas.Grind.{common_steps}
use Rattle.log_text.proofs.ReadWords.{pairs_more}
use Rattle.log_text.proofs.read_words.+pairs.Goals as goal

pub returns-else-len-ge64 : goal.returns-else-len-ge64
returns-else-len-ge64 t c = grind (
  arith,
  common_steps,
  pairs_more c.args.done.now c.args.word.now c.in_ok-byte-in-len2-up.byte c.in-len2-up.len_at_least
      c.in_ok-byte-in-len2-up.ensures (omega arith),
)
