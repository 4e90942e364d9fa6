use Rattle.std.proofs.Common.{◌≤◌, length, sym, arith, rules}
use Rattle.std.proofs.lemmas.List.{length-take-le, take_all}
use Rattle.machine_stage.proofs.stage.first_numbers.Goals as goal

pub slice_bounds-result-end : goal.slice_bounds-result-end
slice_bounds-result-end c =
    let more : 40 ≤ length c.args.numbers.now = search rules in
    sym (length-take-le 40 c.args.numbers.now more)

pub returns-then-numbers-gt40-clause-few : goal.returns-then-numbers-gt40-clause-few
returns-then-numbers-gt40-clause-few c =
    let more : 40 ≤ length c.args.numbers.now = search rules in
    omega (arith, length-take-le 40 c.args.numbers.now more)

pub returns-else-numbers-gt40-clause-value : goal.returns-else-numbers-gt40-clause-value
returns-else-numbers-gt40-clause-value c =
    let few : length c.args.numbers.now ≤ 40 = search rules in
    sym (take_all 40 c.args.numbers.now few)
