use Rattle.log_text.proofs.ReadLines.{cut_some, cut_none, cut_word, cut_rest, only_word, no_rest}
use Rattle.log_text.proofs.read.next_word.Goals as goal

pub returns-in-Some-clause-first : goal.returns-in-Some-clause-first
returns-in-Some-clause-first c = cut_word _ _ _ (cut_some 32 c.args.words.now c.in-Some.at c.in-Some.ensures)

pub returns-in-Some-clause-rest : goal.returns-in-Some-clause-rest
returns-in-Some-clause-rest c k = cut_rest _ _ _ (cut_some 32 c.args.words.now c.in-Some.at c.in-Some.ensures) k

pub returns-in-None-clause-first : goal.returns-in-None-clause-first
returns-in-None-clause-first c = only_word c.args.words.now (cut_none 32 c.args.words.now c.in-None.ensures)

pub returns-in-None-clause-rest : goal.returns-in-None-clause-rest
returns-in-None-clause-rest c k = no_rest c.args.words.now (cut_none 32 c.args.words.now c.in-None.ensures) k
