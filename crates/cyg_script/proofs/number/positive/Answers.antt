use Rattle.std.proofs.Common.{◌≡◌, true, arith}
use Rattle.std.proofs.lemmas.Int.{to_z-of_z}
use Rattle.script_spec.specs.Numbers.{is_canonical}
use Rattle.cyg_script.proofs.Values.{plus_spelled}
use Rattle.cyg_script.proofs.number.positive.Goals as goal

pub returns-then-n-le2147483647-clause-text : goal.returns-then-n-le2147483647-clause-text
returns-then-n-le2147483647-clause-text c =
    let canonical : is_canonical c.args.word.now ≡ true = cc in
    grind (
      arith,
      to_z-of_z,
      plus_spelled c.args.word.now c.in-Some.n c.unsigned.result canonical c.in-Some.ensures
          c.unsigned.ensures,
    )
