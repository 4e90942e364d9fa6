use Rattle.std.proofs.Common.{length}
use Rattle.cyg_script.proofs.reader.+first_past.Given as goal

abbrev pub decreases-first_past : goal.decreases-first_past
decreases-first_past l = length l.code.now
