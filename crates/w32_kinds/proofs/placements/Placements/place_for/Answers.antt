use Rattle.std.proofs.Common.{ℕ, List, Bool, length, sym, ap, subst, arith}
use Rattle.win32_spec.specs.Placing.{taken_pages}
use Rattle.win32_spec.specs.Regions.{IsFreeRange, IsPlaceFor}
use Rattle.w32_kinds.proofs.FreePages.{free-range}
use Rattle.w32_kinds.proofs.Placing.{length-placed}
use Rattle.w32_kinds.proofs.placements.Placements.place_for.Goals as goal

pub place-requires : goal.place-requires
place-requires c =
    subst (λ (taken : List Bool). (base : ℕ) × IsFreeRange taken base c.from.result)
    (sym c.taken_pages-taken.ensures)
    (free-range c.args.script.now c.args.creation c.args.self.now c.from.result
    (omega (arith, c.from.ensures, c.args.wanted.now.size_in_range))
    (omega (arith, c.len.ensures))
    (omega (
      arith,
      c.self.invariant,
      length-placed c.self.inside.modules.items,
      ap (λ ps. length ps) c.self.view_is,
    )))

pub returns : goal.returns
returns c =
    subst (λ i. IsPlaceFor (taken_pages c.args.script.now c.args.creation c.args.self.now) c.args.wanted.now.base i
    c.place.result) c.from.ensures
    (subst (λ (taken : List Bool). IsPlaceFor taken c.args.wanted.now.base c.from.result c.place.result)
    c.taken_pages-taken.ensures c.place.ensures)
