use Rattle.w32_machine.proofs.Writing.{slot-there, read-done}
use Rattle.w32_machine.proofs.machine.Machine.read.Goals as goal

pub own-requires : goal.own-requires
own-requires c =
    slot-there c.self.inside c.self.invariant c.args.self.now c.self.view_is c.args.from.now.slot c.requires

pub returns : goal.returns
returns c =
    read-done c.self.inside c.self.invariant c.args.self.now c.self.view_is c.args.from.now.slot c.args.from.now.region
    c.args.from.now.place c.args.bytes.now c.read_own.new.into c.own.result.now c.own.ensures c.read_own.result
    c.read_own.ensures.outside c.read_own.ensures.bytes c.read_own.ensures.unchanged c.is_ok.result
    c.is_ok.ensures.value
