use Rattle.std.proofs.Common.{◌≡◌, ◌+◌, length, take}
use Rattle.win32_spec.specs.Opening.{base_bytes}
use Rattle.w32_kinds.specs.Placed.{placed_of}
use Rattle.w32_kinds.proofs.placements.Placements.base_bytes.Given as goal

abbrev pub invariant-loop-m : goal.invariant-loop-m
invariant-loop-m l = record {
  bytes : l.bytes.items ≡ base_bytes (placed_of (take l.m-index l.modules));
  count : length l.bytes.items ≡ l.m-index + l.m-index;
}
