use Rattle.std.proofs.Common.{◌≡◌, sym, ◌∙◌, ap, true, false, ◌&&◌, arith}
use Rattle.std.specs.Prelude.{get_or}
use Rattle.std.proofs.lemmas.List.Folds.{list_all_at, list_all_more}
use Rattle.std.proofs.lemmas.Option.{get_or_from_slice_get}
use Rattle.layer_actor.specs.Built.{is_built_instr}
use Rattle.layer_actor.proofs.built_words.are_built.Goals as goal

pub returns-then-not-is_built_instr : goal.returns-then-not-is_built_instr
returns-then-not-is_built_instr c =
    let at : get_or c.args.code.now c.loop-place.place c.in-Some.instr ≡ c.in-Some.instr =
    get_or_from_slice_get c.args.code.now c.loop-place.place c.in-Some.instr c.in-Some.instr (sym c.in-Some.ensures) in
    let told = c.if-not-is_built_instr.ensures in
    let no : is_built_instr c.in-Some.instr ≡ false = cc in
    sym (list_all_at is_built_instr c.args.code.now c.loop-place.place c.in-Some.instr
    (omega (arith, c.loop-place-test.true, c.len-place-end.ensures)) (ap is_built_instr at ∙ no))

pub loop-place-preserved : goal.loop-place-preserved
loop-place-preserved c =
    let at : get_or c.args.code.now c.loop-place.place c.in-Some.instr ≡ c.in-Some.instr =
    get_or_from_slice_get c.args.code.now c.loop-place.place c.in-Some.instr c.in-Some.instr (sym c.in-Some.ensures) in
    let told = c.if-not-is_built_instr.ensures in
    let yes : is_built_instr c.in-Some.instr ≡ true = cc in
    list_all_more is_built_instr c.args.code.now c.loop-place.place c.in-Some.instr
    (omega (arith, c.loop-place-test.true, c.len-place-end.ensures))
    ∙ ap (λ b. b && is_built_instr (get_or c.args.code.now c.loop-place.place c.in-Some.instr)) c.loop-place.invariant
    ∙ ap is_built_instr at ∙ yes
