use Rattle.std.proofs.Common.{◌≡◌, drop}
use Rattle.win32_spec.specs.Placing.{is_occupied}
use Rattle.w32_kinds.proofs.placements.is_page_occupied.Given as goal

abbrev pub invariant-loop-o : goal.invariant-loop-o
invariant-loop-o l =
    is_occupied l.occupied l.creation l.page ≡ is_occupied (drop l.o-index l.occupied) l.creation l.page
