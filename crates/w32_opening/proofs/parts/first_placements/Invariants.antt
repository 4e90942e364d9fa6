use Rattle.std.proofs.Common.{◌≡◌, length, [], take}
use Rattle.win32_spec.specs.Opening.{ArePlaced}
use Rattle.w32_opening.proofs.parts.first_placements.Given as goal

abbrev pub invariant-loop-number : goal.invariant-loop-number
invariant-loop-number l = record {
  placed : ArePlaced l.script 1 0 (take l.number l.script.setup.modules) [] l.placed;
  count : length l.placed ≡ l.number;
}
