use Rattle.w32_machine.proofs.Running.{some-there, memory-now}
use Rattle.w32_machine.proofs.TerminalLines.{buffer-is}
use Rattle.std.proofs.Common.{◌∙◌}
use Rattle.w32_machine.proofs.machine.Machine.is_buffer.Goals as goal

pub own-requires : goal.own-requires
own-requires c =
    some-there c.self.inside c.self.invariant c.args.self.now c.self.view_is c.args.by.now c.requires

pub returns-then-count-le-MOST_MOVED : goal.returns-then-count-le-MOST_MOVED
returns-then-count-le-MOST_MOVED c =
    buffer-is c.own.result.now _ c.args.place c.args.count c.len-size.result c.lies_inside.result
    (c.own.ensures ∙ memory-now c.self.inside c.self.invariant c.args.self.now c.self.view_is c.args.by.now c.requires)
    c.len-size.ensures c.lies_inside.ensures c.if-count-le-MOST_MOVED.true
