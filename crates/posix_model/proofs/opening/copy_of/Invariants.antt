use Rattle.std.proofs.Common.{◌≡◌, take}
use Rattle.posix_model.proofs.opening.copy_of.Given as goal

abbrev pub invariant-loop-place : goal.invariant-loop-place
invariant-loop-place l = l.code.items ≡ take l.place l.fn.program.code
