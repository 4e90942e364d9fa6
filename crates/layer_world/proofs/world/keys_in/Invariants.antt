use Rattle.std.proofs.Common.{◌≡◌, ◌≤◌, take}
use Rattle.w32_machine.specs.Contract.{key_lines}
use Rattle.layer_world.proofs.world.keys_in.Given as goal

abbrev pub invariant-loop-line : goal.invariant-loop-line
invariant-loop-line l = (l.keys ≡ key_lines (take l.line-index l.lines)) × (l.keys ≤ l.line-index)
