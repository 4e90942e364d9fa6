use Rattle.std.proofs.Common.{length}
use Rattle.log_text.proofs.within.+has_module.Given as goal

abbrev pub decreases-has_module : goal.decreases-has_module
decreases-has_module l = length l.modules.now
