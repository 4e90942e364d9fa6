use Rattle.std.proofs.Common.{◌∙◌, ap, ℕ, ◌∷◌, []}
use Rattle.std.proofs.lemmas.Result.{err_from_is_err_and}
use Rattle.script_spec.specs.Fields.{NumberWord}
use Rattle.script_spec.specs.Forms.{forms_fault}
use Rattle.cyg_script.proofs.Forms.{two_fault}
use Rattle.cyg_script.proofs.Judging.{words}
use Rattle.cyg_script.proofs.line.turn.Goals as goal

pub returns-in_err-slot-in-Some-clause-fault : goal.returns-in_err-slot-in-Some-clause-fault
returns-in_err-slot-in-Some-clause-fault c =
    let p = err_from_is_err_and c.from_residual.result c.from_residual.ensures.1 in
    rw (p.1, p.2)
    (c.in_err-slot-in-Some.ensures.fault ∙ rw (c.number.ensures.fault, c.number-in-Some.ensures.fault)
    (two_fault (NumberWord 0 c.from.result) (NumberWord 0 2) _ (c.in-Some.slot.now, c.in-Some.thread.now)
    c.in-Some.ensures ∙ ap (λ (n : ℕ). forms_fault ((NumberWord 0 n ∷ NumberWord 0 2 ∷ []) ∷ []) (words c.args.rest))
    c.from.ensures))
