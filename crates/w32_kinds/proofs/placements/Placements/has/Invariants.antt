use Rattle.std.proofs.Common.{◌≡◌, drop}
use Rattle.win32_spec.specs.Placing.{is_in_module}
use Rattle.w32_kinds.specs.Placed.{placed_of}
use Rattle.w32_kinds.proofs.placements.Placements.has.Given as goal

abbrev pub invariant-loop-m : goal.invariant-loop-m
invariant-loop-m l = is_in_module l.listed l.self l.page ≡ is_in_module l.listed (placed_of (drop l.m-index l.modules))
    l.page
