use Rattle.std.proofs.Common.{◌≡◌, drop}
use Rattle.win32_spec.specs.Placing.{base_in}
use Rattle.w32_kinds.specs.Placed.{placed_of}
use Rattle.w32_kinds.proofs.placements.Placements.base.Given as goal

abbrev pub invariant-loop-m : goal.invariant-loop-m
invariant-loop-m l = base_in l.self l.number ≡ base_in (placed_of (drop l.m-index l.modules)) l.number
