use Rattle.std.proofs.Common.{◌≡◌, length}
use Rattle.cygheap_image.proofs.Passed.{IsPassed}
use Rattle.cygheap_image.proofs.breaks.first_break.Given as goal

abbrev pub invariant-loop-i : goal.invariant-loop-i
invariant-loop-i l = (length l.bytes ≡ 288) × IsPassed l.bytes l.i
