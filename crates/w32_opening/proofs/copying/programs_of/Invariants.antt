use Rattle.std.proofs.Common.{◌≡◌, take}
use Rattle.w32_opening.proofs.copying.programs_of.Given as goal

abbrev pub invariant-loop-program : goal.invariant-loop-program
invariant-loop-program l = l.copies.items ≡ take l.program-index l.fn.programs
