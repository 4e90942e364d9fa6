use Rattle.std.proofs.Common.{◌∙◌, refl}
use Rattle.std.proofs.lemmas.Result.{err_from_is_err_and}
use Rattle.cyg_script.proofs.LineForms.{pages_err}
use Rattle.cyg_script.proofs.line.pages.Goals as goal

pub returns-in_err-base-clause-fault : goal.returns-in_err-base-clause-fault
returns-in_err-base-clause-fault c =
    let p = err_from_is_err_and c.from_residual.result c.from_residual.ensures.1 in
    rw (p.1, p.2)
    (pages_err c.args.base.now c.args.size.now c.in_err-base.field-0.0
    (c.in_err-base.ensures.fault ∙ rw (c.number.ensures.fault, c.number-2.ensures.fault) refl))
