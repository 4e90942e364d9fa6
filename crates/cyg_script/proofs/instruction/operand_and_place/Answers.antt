use Rattle.std.proofs.Common.{◌∙◌}
use Rattle.script_spec.specs.Fields.{ValueWord, PlaceWord}
use Rattle.cyg_script.proofs.Forms.{two_fault, no_two_fault, both_place}
use Rattle.cyg_script.proofs.instruction.operand_and_place.Goals as goal

pub returns-in-Some-clause-fault : goal.returns-in-Some-clause-fault
returns-in-Some-clause-fault c =
    c.both.ensures.fault ∙ rw (c.operand.ensures.fault, c.place.ensures.fault)
    (two_fault ValueWord PlaceWord _ (c.in-Some.v.now, c.in-Some.n.now) c.in-Some.ensures)

pub returns-in-Some-clause-place : goal.returns-in-Some-clause-place
returns-in-Some-clause-place c =
    both_place c.both.result c.place.result _ (c.in-Some.v.now, c.in-Some.n.now) c.in-Some.ensures
    (c.both.ensures.fault ∙ rw (c.operand.ensures.fault, c.place.ensures.fault)
    (two_fault ValueWord PlaceWord _ (c.in-Some.v.now, c.in-Some.n.now) c.in-Some.ensures))
    c.both.ensures.second c.place.ensures.value

pub returns-in-None-clause-fault : goal.returns-in-None-clause-fault
returns-in-None-clause-fault c = no_two_fault ValueWord PlaceWord _ c.in-None.ensures
