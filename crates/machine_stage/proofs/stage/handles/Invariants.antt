use Rattle.std.proofs.Common.{◌≡◌, map, take}
use Rattle.machine_stage.specs.Trials.{handle_of}
use Rattle.machine_stage.proofs.stage.handles.Given as goal

abbrev pub invariant-loop-number : goal.invariant-loop-number
invariant-loop-number l = l.list ≡ map handle_of (take l.number-index l.few)
