use Rattle.std.proofs.Common.{length}
use Rattle.log_text.proofs.read_words.+pairs.Given as goal

abbrev pub decreases-pairs : goal.decreases-pairs
decreases-pairs l = length l.word.now
