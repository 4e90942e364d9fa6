use Rattle.std.proofs.Common.{◌∙◌}
use Rattle.script_spec.specs.Fields.{NameWord}
use Rattle.cyg_script.proofs.Forms.{one_fault}
use Rattle.cyg_script.proofs.instruction.one_name.Goals as goal

pub returns-in-Some-clause-fault : goal.returns-in-Some-clause-fault
returns-in-Some-clause-fault c = c.name.ensures.fault ∙ one_fault NameWord _ c.in-Some.n.now c.in-Some.ensures
