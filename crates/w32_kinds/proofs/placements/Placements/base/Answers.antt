use Rattle.std.proofs.Common.{◌∙◌, sym, ap, arith}
use Rattle.win32_spec.specs.LookupLaws.{same, differs}
use Rattle.win32_spec.specs.Placing.{base_in}
use Rattle.w32_kinds.specs.Placed.{placed_of}
use Rattle.w32_kinds.proofs.Placing.{base-next, base-end}
use Rattle.w32_kinds.proofs.placements.Placements.base.Goals as goal

pub loop-m-init : goal.loop-m-init
loop-m-init c =
    ap (λ ps. base_in ps c.args.number) (sym c.self.view_is)
    ∙ ap (λ xs. base_in (placed_of xs) c.args.number) (sym c.as_slice-modules.ensures.value)

pub returns-then-m-number : goal.returns-then-m-number
returns-then-m-number c =
    let xs = c.as_slice-modules.result.now in
    let at = base-next xs c.loop-m.m-index c.args.number (record { number = 0; base = 0 }) c.loop-m-test.true in
    let s = same _ c.args.number c.if-m-number.true in
    sym (c.loop-m.invariant ∙ rw s at at)

pub loop-m-preserved : goal.loop-m-preserved
loop-m-preserved c =
    let xs = c.as_slice-modules.result.now in
    let at = base-next xs c.loop-m.m-index c.args.number (record { number = 0; base = 0 }) c.loop-m-test.true in
    let s = differs _ c.args.number c.if-m-number.false in
    c.loop-m.invariant ∙ rw s at at

pub returns : goal.returns
returns c =
    sym (c.loop-m.invariant
    ∙ base-end c.as_slice-modules.result.now c.loop-m.m-index c.args.number (omega (arith, c.loop-m-test.false)))
