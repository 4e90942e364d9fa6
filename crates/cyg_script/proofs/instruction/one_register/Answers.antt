use Rattle.std.proofs.Common.{◌∙◌}
use Rattle.script_spec.specs.Fields.{RegisterWord}
use Rattle.cyg_script.proofs.Forms.{one_fault}
use Rattle.cyg_script.proofs.instruction.one_register.Goals as goal

pub returns-in-Some-clause-fault : goal.returns-in-Some-clause-fault
returns-in-Some-clause-fault c = c.register.ensures.fault ∙ one_fault RegisterWord _ c.in-Some.r.now c.in-Some.ensures
