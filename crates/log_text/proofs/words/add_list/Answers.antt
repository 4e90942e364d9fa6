use Rattle.log_text.proofs.Lists.{listed}
use Rattle.log_text.proofs.words.add_list.Goals as goal

pub returns-in-len1-up-clause-text : goal.returns-in-len1-up-clause-text
returns-in-len1-up-clause-text c =
    listed c.args.line.now c.args.handles.now c.numbers.result.now _ _ _ c.in-len1-up.len_at_least
    c.numbers.ensures.value
    c.push_text-in-len1-up.ensures.text c.push_small.ensures.text c.push_rest.ensures.text
