use Rattle.std.proofs.Common.{refl}
use Rattle.std.specs.String.{string_bytes}
use Rattle.cyg_cli.proofs.Words.{two_of, both_words, other_word}
use Rattle.cyg_cli.proofs.commands.word_after.Goals as goal

pub returns-then-is_word : goal.returns-then-is_word
returns-then-is_word c =
    let two = two_of c.as_slice.result.now c.word-item.result c.second-item.result c.in-len2.len_at_least
    c.in-len2.len_below
    c.word-item.is c.second-item.is in
    both_words string_bytes _ _ _ _ _ _ c.as_slice.ensures.value two
    (c.if-is_word.ensures.0 refl) c.as_str.ensures.value

pub returns-else-is_word : goal.returns-else-is_word
returns-else-is_word c = λ second is.
    let two = two_of c.as_slice.result.now c.word-item.result c.second-item.result c.in-len2.len_at_least
    c.in-len2.len_below
    c.word-item.is c.second-item.is in
    let yes = c.if-is_word.ensures.1 (other_word string_bytes _ _ _ _ _ second c.as_slice.ensures.value two is) in
    cc
