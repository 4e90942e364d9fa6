use Rattle.std.proofs.Common.{◌≡◌, take}
use Rattle.w32_base.proofs.lists.ShortBytes.from_slice.Given as goal

abbrev pub invariant-loop-byte : goal.invariant-loop-byte
invariant-loop-byte g l = l.short ≡ take l.byte-index l.bytes
