use Rattle.std.proofs.Common.{length}
use Rattle.cyg_script.proofs.reader.+has_module.Given as goal

abbrev pub decreases-has_module : goal.decreases-has_module
decreases-has_module l = length l.modules.now
