use Rattle.std.proofs.Common.{arith}
use Rattle.std.proofs.lemmas.Grind.{common_steps}
use Rattle.cyg_script.proofs.Values.{first_large}
use Rattle.cyg_script.proofs.number.+value_from.Goals as goal

pub returns-in_err-next_value-in-len1-up : goal.returns-in_err-next_value-in-len1-up
returns-in_err-next_value-in-len1-up t c = grind (
  arith,
  common_steps,
  first_large c.args.value c.args.digits.now
      c.in-len1-up.len_at_least c.in_err-next_value-in-len1-up.ensures,
)
