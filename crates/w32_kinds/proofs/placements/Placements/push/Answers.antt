use Rattle.std.proofs.Common.{◌<◌, length, lit<, ◌∙◌, ap, arith}
use Rattle.win32_spec.specs.Placing.{and_placed}
use Rattle.w32_kinds.specs.Placed.{placed_of}
use Rattle.w32_kinds.proofs.Placing.{length-placed, placed-push}
use Rattle.w32_kinds.proofs.placements.Placements.push.Goals as goal

pub push-requires : goal.push-requires
push-requires c =
    let l : length c.self.inside.modules.items < 8 = omega (
      arith,
      c.requires,
      length-placed c.self.inside.modules.items,
      ap (λ ps. length ps) c.self.view_is,
    ) in
    (lit< tt, l)

pub invariant_of-self : goal.invariant_of-self
invariant_of-self c =
    omega (
      arith,
      c.requires,
      length-placed c.self.inside.modules.items,
      ap (λ ps. length ps) c.self.view_is,
      c.push.ensures.len,
    )

pub returns : goal.returns
returns c =
    ap placed_of c.push.ensures.items ∙ placed-push c.self.inside.modules.items _
    ∙ ap (λ ps. and_placed ps c.args.number c.args.base) c.self.view_is
