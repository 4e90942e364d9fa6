use Rattle.std.proofs.Common.{◌∙◌}
use Rattle.script_spec.specs.Fields.{ValueWord}
use Rattle.cyg_script.proofs.Forms.{one_fault}
use Rattle.cyg_script.proofs.instruction.one_operand.Goals as goal

pub returns-in-Some-clause-fault : goal.returns-in-Some-clause-fault
returns-in-Some-clause-fault c = c.operand.ensures.fault ∙ one_fault ValueWord _ c.in-Some.v.now c.in-Some.ensures
