use Rattle.w32_driven.specs.DrivenTurns.{called_by, came_by}
use Rattle.machine_bench.specs.Counted.{counted_turn}
use Rattle.machine_bench.proofs.take_turn.Goals as goal

pub returns : goal.returns
returns c =
    counted_turn c.args.taken c.args.slot c.args.thread (called_by c.turn.result) (came_by c.turn.result)
    c.args.driven.now c.turn.new.self c.requires.counted c.turn.ensures.step c.turn.ensures.script
