use Rattle.std.proofs.Common.{◌∙◌}
use Rattle.std.proofs.lemmas.Result.{err_from_is_err_and}
use Rattle.script_spec.specs.Fields.{NumberWord}
use Rattle.cyg_script.proofs.Forms.{two_fault}
use Rattle.cyg_script.proofs.line.occupy.Goals as goal

pub returns-in_err-creation-in-Some-clause-fault : goal.returns-in_err-creation-in-Some-clause-fault
returns-in_err-creation-in-Some-clause-fault c =
    let p = err_from_is_err_and c.from_residual.result c.from_residual.ensures.1 in
    rw (p.1, p.2)
    (c.in_err-creation-in-Some.ensures.fault ∙ rw (c.number.ensures.fault, c.number-in-Some.ensures.fault)
    (two_fault (NumberWord 1 500000) (NumberWord 0 1023) _ (c.in-Some.creation.now, c.in-Some.page.now)
    c.in-Some.ensures))
