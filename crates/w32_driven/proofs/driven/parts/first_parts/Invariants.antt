use Rattle.std.proofs.Common.{◌<◌}
use Rattle.w32_machine.specs.Lent.{HasFewThreads}
use Rattle.w32_driven.proofs.FirstParts.{OpensBelow}
use Rattle.w32_driven.proofs.driven.parts.first_parts.Given as goal

abbrev pub invariant-loop-place : goal.invariant-loop-place
invariant-loop-place g l = record {
  opened : OpensBelow g.P.Part.posted_of g.P.Part.goes g.P.Whole.opening g.P.Whole.slot_of g.P.Whole.thread_of
      l.machine.win32 l.place l.parts.items;
  few : 0 < l.place → HasFewThreads l.machine.win32;
}
