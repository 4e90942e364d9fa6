-- The modules of the first layer process, placed one after another.
use Rattle.std.proofs.Common.{◌≡◌, ◌∙◌, ℕ, ◌+◌, ◌≤◌, ◌<◌, List, [], ◌∷◌, ◌++◌, length, take, sym, ap, subst, arith}
use Rattle.std.proofs.lemmas.List.{take_more, length-take-le}
use Rattle.std.specs.Prelude.{slice_index_or}
use Rattle.w32_base.specs.declared.setup.Module.{Module}
use Rattle.script_spec.specs.declared.script.Script.{Script}
use Rattle.win32_spec.specs.Opening.{ArePlaced}
use Rattle.win32_spec.specs.Placing.{taken_pages, and_placed}
use Rattle.win32_spec.specs.Regions.{IsPlaceFor}
use Rattle.win32_spec.specs.State.{PlacedModule}

-- one module more, behind the others
pub placed-behind : (script : Script) (creation m : ℕ) (front : List Module) (wanted : Module)
    (before mid : List PlacedModule) (k base : ℕ) → k ≡ m + length front
    → ArePlaced script creation m front before mid
    → IsPlaceFor (taken_pages script creation mid) wanted.base wanted.size base
    → ArePlaced script creation m (front ++ wanted ∷ []) before (and_placed mid k base)
placed-behind script creation m [] wanted before mid k base n placed place =
    let e : k ≡ m = omega (arith, n) in (
      base,
      subst (λ ps. IsPlaceFor (taken_pages script creation ps) wanted.base wanted.size base) placed place,
      ap (λ ps. and_placed ps k base) placed ∙ ap (λ j. and_placed before j base) e,
    )
placed-behind script creation m (f ∷ fs) wanted before mid k base n placed place = (
  placed.0,
  placed.1,
  placed-behind script creation (m + 1) fs wanted (and_placed before m placed.0) mid k base (omega (arith, n))
      placed.2 place,
)

pub placed-next : (script : Script) (modules : List Module) (k : ℕ) (wanted : Module) (placed : List PlacedModule)
    (base : ℕ) → k < length modules → wanted ≡ slice_index_or modules k wanted
    → ArePlaced script 1 0 (take k modules) [] placed
    → IsPlaceFor (taken_pages script 1 placed) wanted.base wanted.size base
    → ArePlaced script 1 0 (take (k + 1) modules) [] (and_placed placed k base)
placed-next script modules k wanted placed base l at before place =
    let more : take (k + 1) modules ≡ take k modules ++ wanted ∷ [] =
    take_more modules k wanted l ∙ ap (λ (w : Module). take k modules ++ w ∷ []) (sym at) in
    let few : k ≤ length modules = omega (arith, l) in
    subst (λ ms. ArePlaced script 1 0 ms [] (and_placed placed k base)) (sym more)
    (placed-behind script 1 0 (take k modules) wanted [] placed k base (omega (arith, length-take-le k modules few))
    before place)
