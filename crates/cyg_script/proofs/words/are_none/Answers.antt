use Rattle.std.proofs.Common.{ap}
use Rattle.std.specs.Prelude.{option_map}
use Rattle.cyg_script.proofs.Pieces.{not_none}
use Rattle.cyg_script.proofs.words.are_none.Goals as goal

pub returns-in-Some : goal.returns-in-Some
returns-in-Some c = (
  λ t. absurd cc,
  λ e. absurd (not_none _ c.in-Some.field-0.now
      (ap (option_map (λ r. r.now)) c.in-Some.is) e),
)
