use Rattle.std.proofs.Common.{◌∙◌}
use Rattle.script_spec.specs.Fields.{RegisterWord, ValueWord}
use Rattle.cyg_script.proofs.Forms.{two_fault}
use Rattle.cyg_script.proofs.instruction.register_and_operand.Goals as goal

pub returns-in-Some-clause-fault : goal.returns-in-Some-clause-fault
returns-in-Some-clause-fault c =
    c.both.ensures.fault ∙ rw (c.register.ensures.fault, c.operand.ensures.fault)
    (two_fault RegisterWord ValueWord _ (c.in-Some.r.now, c.in-Some.v.now) c.in-Some.ensures)
