use Rattle.std.proofs.Common.{ap}
use Rattle.std.specs.Prelude.{option_map}
use Rattle.cyg_script.proofs.Pieces.{one_none}
use Rattle.cyg_script.proofs.words.one.Goals as goal

pub returns-in_default-Some : goal.returns-in_default-Some
returns-in_default-Some c = one_none _ c.in_ok-rest.field-0.now c.cut.result.0.now c.in_default-Some.field-0-1.now _
    (ap (option_map (λ r. r.now)) c.in_ok-rest.was) c.cut.ensures (ap (option_map (λ r. r.now)) c.in_default-Some.is-1)
