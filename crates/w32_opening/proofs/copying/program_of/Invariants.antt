use Rattle.std.proofs.Common.{◌≡◌, take}
use Rattle.w32_opening.proofs.copying.program_of.Given as goal

abbrev pub invariant-loop-place : goal.invariant-loop-place
invariant-loop-place l = l.code.items ≡ take l.place l.fn.program.code
