use Rattle.std.proofs.Common.{◌∙◌}
use Rattle.std.proofs.lemmas.Result.{err_from_is_err_and}
use Rattle.cyg_script.proofs.LineForms.{module_fault, no_module_fault}
use Rattle.cyg_script.proofs.line.module.Goals as goal

pub returns-in_err-name-in-Some-clause-fault : goal.returns-in_err-name-in-Some-clause-fault
returns-in_err-name-in-Some-clause-fault c =
    let p = err_from_is_err_and c.from_residual.result c.from_residual.ensures.1 in
    rw (p.1, p.2)
    (c.in_err-name-in-Some.ensures.fault ∙ rw (c.name.ensures.fault, c.pages.ensures.fault)
    (module_fault _ (c.in-Some.word.now, c.in-Some.base.now, c.in-Some.size.now) c.in-Some.ensures))

pub returns-in_ok-name-in-Some-clause-fault : goal.returns-in_ok-name-in-Some-clause-fault
returns-in_ok-name-in-Some-clause-fault c =
    c.in_ok-name-in-Some.ensures.fault ∙ rw (c.name.ensures.fault, c.pages.ensures.fault)
    (module_fault _ (c.in-Some.word.now, c.in-Some.base.now, c.in-Some.size.now) c.in-Some.ensures)

pub returns-in-None-clause-fault : goal.returns-in-None-clause-fault
returns-in-None-clause-fault c = no_module_fault _ c.in-None.ensures
