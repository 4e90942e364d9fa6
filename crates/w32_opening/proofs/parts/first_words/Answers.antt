use Rattle.std.proofs.Common.{arith}
use Rattle.w32_opening.proofs.FirstWords.{words-added}
use Rattle.w32_opening.proofs.parts.first_words.Goals as goal

pub returns : goal.returns
returns c =
    words-added 12001 11998 c.in_ok-section.section c.add.new.self c.add-2.new.self c.add-3.new.self
    c.in_ok-section.ensures (omega arith) (omega arith) c.add.ensures.stored c.add-2.ensures.stored
    c.add-3.ensures.stored
