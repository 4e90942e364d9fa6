use Rattle.std.proofs.Common.{◌∙◌, sym}
use Rattle.std.proofs.lemmas.Result.{err_from_is_err_and}
use Rattle.cyg_script.proofs.Masks.{mask_fault, mask_read, no_change}
use Rattle.cyg_script.proofs.instruction.mask_of.Goals as goal

pub returns-in_err-v-in-Some-clause-fault : goal.returns-in_err-v-in-Some-clause-fault
returns-in_err-v-in-Some-clause-fault c =
    let p = err_from_is_err_and c.from_residual.result c.from_residual.ensures.1 in
    rw (p.1, p.2) (c.in_err-v-in-Some.ensures.fault ∙ mask_fault c.args.word.now c.args.v.now c.in-Some.change
    c.in-Some.ensures)

pub returns-in_ok-v-in-Some-clause-fault : goal.returns-in_ok-v-in-Some-clause-fault
returns-in_ok-v-in-Some-clause-fault c = c.in_ok-v-in-Some.ensures.fault
    ∙ mask_fault c.args.word.now c.args.v.now c.in-Some.change c.in-Some.ensures

pub returns-in_ok-v-in-Some-clause-read : goal.returns-in_ok-v-in-Some-clause-read
returns-in_ok-v-in-Some-clause-read c = mask_read c.args.word.now c.args.v.now c.in-Some.change c.in_ok-v-in-Some.v
    c.in-Some.ensures c.in_ok-v-in-Some.ensures.text

pub returns-in-None-clause-fault : goal.returns-in-None-clause-fault
returns-in-None-clause-fault c = sym (no_change c.args.word.now c.args.v.now c.in-None.ensures)
