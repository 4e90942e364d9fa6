use Rattle.std.proofs.Common.{◌∙◌}
use Rattle.script_spec.specs.Fields.{ValueWord}
use Rattle.cyg_script.proofs.Forms.{two_fault}
use Rattle.cyg_script.proofs.instruction.two_operands.Goals as goal

pub returns-in-Some-clause-fault : goal.returns-in-Some-clause-fault
returns-in-Some-clause-fault c =
    c.both.ensures.fault ∙ rw (c.operand.ensures.fault, c.operand-in-Some.ensures.fault)
    (two_fault ValueWord ValueWord _ (c.in-Some.u.now, c.in-Some.v.now) c.in-Some.ensures)
