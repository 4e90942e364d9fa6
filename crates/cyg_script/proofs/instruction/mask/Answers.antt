use Rattle.std.proofs.Common.{◌∙◌, ap, sym, List, ℕ, [], ◌∷◌}
use Rattle.script_spec.specs.declared.fault.InstrWord.TheVariants as word
use Rattle.script_spec.specs.Forms.{forms_fault, instr_forms}
use Rattle.cyg_script.proofs.Forms.{two_is}
use Rattle.cyg_script.proofs.Masks.{mask_length, read_along}
use Rattle.cyg_script.proofs.instruction.mask.Goals as goal

pub returns-in-Some-clause-fault : goal.returns-in-Some-clause-fault
returns-in-Some-clause-fault c =
    c.mask_of.ensures.fault ∙ ap (λ (ws : List (List ℕ)). forms_fault (instr_forms word.Mask) ws)
    (sym (two_is _ (c.in-Some.word.now, c.in-Some.v.now) c.in-Some.ensures))

pub returns-in-Some-clause-read : goal.returns-in-Some-clause-read
returns-in-Some-clause-read c =
    read_along c.mask_of.result word.Mask (c.in-Some.word.now ∷ c.in-Some.v.now ∷ []) _
    (two_is _ (c.in-Some.word.now, c.in-Some.v.now) c.in-Some.ensures) c.mask_of.ensures.read

pub returns-in-None-clause-fault : goal.returns-in-None-clause-fault
returns-in-None-clause-fault c = mask_length _ c.in-None.ensures
