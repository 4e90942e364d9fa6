use Rattle.std.proofs.Common.{◌∙◌}
use Rattle.script_spec.specs.Fields.{PlaceWord}
use Rattle.cyg_script.proofs.Forms.{one_fault}
use Rattle.cyg_script.proofs.instruction.one_place.Goals as goal

pub returns-in-Some-clause-fault : goal.returns-in-Some-clause-fault
returns-in-Some-clause-fault c = c.place.ensures.fault ∙ one_fault PlaceWord _ c.in-Some.n.now c.in-Some.ensures
