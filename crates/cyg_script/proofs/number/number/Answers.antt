use Rattle.std.proofs.Common.{◌≡◌, true}
use Rattle.script_spec.specs.Numbers.{is_canonical}
use Rattle.cyg_script.proofs.Values.{spelled}
use Rattle.cyg_script.proofs.number.number.Goals as goal

pub returns-then-n-high-clause-text : goal.returns-then-n-high-clause-text
returns-then-n-high-clause-text c =
    let canonical : is_canonical c.args.word.now ≡ true = cc in
    spelled c.args.word.now c.in-Some.n canonical c.in-Some.ensures
