use Rattle.std.proofs.Common.{take}
use Rattle.log_text.specs.Callers.{IsNext}
use Rattle.log_text.proofs.caller.next_number.Given as goal

abbrev pub invariant-loop-entry : goal.invariant-loop-entry
invariant-loop-entry l = IsNext l.least l.next (take l.entry-index l.entries)
