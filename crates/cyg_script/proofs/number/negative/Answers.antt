use Rattle.std.proofs.Common.{◌≡◌, ◌≤◌, true, arith}
use Rattle.std.proofs.lemmas.Int.{to_z-of_z}
use Rattle.script_spec.specs.Numbers.{is_canonical}
use Rattle.cyg_script.proofs.Values.{minus_spelled}
use Rattle.cyg_script.proofs.number.negative.Goals as goal

pub returns-then-n-le2147483648-clause-text : goal.returns-then-n-le2147483648-clause-text
returns-then-n-le2147483648-clause-text c =
    let canonical : is_canonical c.args.digits.now ≡ true = cc in
    let some : 1 ≤ c.in-Some.n = omega arith in
    grind (
      arith,
      to_z-of_z,
      minus_spelled c.args.digits.now c.in-Some.n c.negated.result canonical
          c.in-Some.ensures some c.negated.ensures,
    )
