use Rattle.std.proofs.Common.{refl, List, ◌∙◌, ap, arith}
use Rattle.std.specs.Prelude.{slice_get}
use Rattle.std.proofs.lemmas.List.{take_all}
use Rattle.w32_base.specs.declared.instr.Instr.{Instr}
use Rattle.script_spec.specs.SameParts.{same_program}
use Rattle.w32_opening.specs.ScriptCopies.{added}
use Rattle.w32_opening.proofs.ScriptCopying.{take_next}
use Rattle.w32_opening.proofs.copying.program_of.Goals as goal

pub loop-place-preserved : goal.loop-place-preserved
loop-place-preserved c =
    let code : List Instr = c.args.program.now.code in
    c.in_ok-add.ensures ∙ ap (λ o. added c.loop-place.code.items o) c.get.ensures
    ∙ ap (λ xs. added xs (slice_get code c.loop-place.place)) c.loop-place.invariant
    ∙ take_next code c.loop-place.place (omega arith)

pub returns : goal.returns
returns c =
    same_program _ c.args.program.now refl refl refl
    (c.from_vec.ensures ∙ c.loop-place.invariant ∙ take_all c.loop-place.place c.args.program.now.code (omega arith))
