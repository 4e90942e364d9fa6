use Rattle.std.proofs.Common.{length, ◌≤◌, ◌+◌}
use Rattle.cyg_script.specs.Parts.{parts_of, IsStaged}
use Rattle.cyg_script.specs.Scripts.{IsReadSoFar}
use Rattle.cyg_script.proofs.script.read_script.Given as goal

abbrev pub invariant-loop-rest : goal.invariant-loop-rest
invariant-loop-rest l = record {
  staged : IsStaged (parts_of l.reader);
  counted : l.line + length l.rest ≤ 1048577;
  read : IsReadSoFar l.bytes l.line l.rest (parts_of l.reader);
}

abbrev pub decreases-loop-rest : goal.decreases-loop-rest
decreases-loop-rest l = length l.rest
