use Rattle.std.proofs.Common.{◌∙◌, slice_index_or, ◌+◌, ◌∷◌, [], List, take, sym, ap, subst, arith, length}
use Rattle.std.proofs.Common.{length-append}
use Rattle.w32_base.specs.declared.setup.Module.{Module}
use Rattle.win32_spec.specs.State.{PlacedModule}
use Rattle.win32_spec.specs.Opening.{ArePlaced}
use Rattle.w32_opening.proofs.FirstModules.{placed-next}
use Rattle.w32_opening.proofs.parts.first_placements.Goals as goal

pub loop-number-preserved : goal.loop-number-preserved
loop-number-preserved c =
    let modules : List Module = c.args.script.now.setup.modules in
    let more : PlacedModule = record { module_no = c.loop-number.number; base = c.place_for-base.result } in
    let at = c.index-modules-number.is
    ∙ ap (λ (ms : List Module). slice_index_or ms c.loop-number.number c.index-modules-number.result)
    c.as_slice-modules.ensures.value in
    record {
      placed = subst (λ ps. ArePlaced c.args.script.now 1 0 (take (c.loop-number.number + 1) modules) [] ps)
          (sym c.push.ensures)
          (placed-next c.args.script.now modules c.loop-number.number c.index-modules-number.result c.loop-number.placed
          c.place_for-base.result (omega arith) at c.loop-number.invariant.placed
          c.place_for-base.ensures);
      count = omega (
        arith,
        ap (λ (ps : List PlacedModule). length ps) c.push.ensures,
        length-append c.loop-number.placed (more ∷ []),
        c.loop-number.invariant.count,
      );
    }
