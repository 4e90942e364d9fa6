use Rattle.std.proofs.Common.{length}
use Rattle.log_text.proofs.within.+has_program.Given as goal

abbrev pub decreases-has_program : goal.decreases-has_program
decreases-has_program l = length l.programs.now
