use Rattle.std.proofs.Common.{◌∙◌, sym, ap, arith}
use Rattle.win32_spec.specs.Placing.{is_in_module}
use Rattle.w32_kinds.specs.Placed.{placed_of}
use Rattle.w32_kinds.proofs.Placing.{module-next, module-end, or-true, or-false}
use Rattle.w32_kinds.proofs.placements.Placements.has.Goals as goal

pub loop-m-init : goal.loop-m-init
loop-m-init c =
    ap (λ ps. is_in_module c.args.listed.now ps c.args.page) (sym c.self.view_is)
    ∙ ap (λ xs. is_in_module c.args.listed.now (placed_of xs) c.args.page) (sym c.as_slice-modules.ensures.value)

pub returns-then-has_page : goal.returns-then-has_page
returns-then-has_page c =
    sym (c.loop-m.invariant
    ∙ module-next c.args.listed.now c.as_slice-modules.result.now c.loop-m.m-index c.args.page
    (record { number = 0; base = 0 }) c.loop-m-test.true
    ∙ or-true _ _ (sym c.has_page.ensures ∙ c.if-has_page.true))

pub loop-m-preserved : goal.loop-m-preserved
loop-m-preserved c =
    c.loop-m.invariant
    ∙ module-next c.args.listed.now c.as_slice-modules.result.now c.loop-m.m-index c.args.page
    (record { number = 0; base = 0 }) c.loop-m-test.true
    ∙ or-false _ _ (sym c.has_page.ensures ∙ c.if-has_page.false)

pub returns : goal.returns
returns c =
    sym (c.loop-m.invariant
    ∙ module-end c.args.listed.now c.as_slice-modules.result.now c.loop-m.m-index c.args.page
    (omega (arith, c.loop-m-test.false)))
