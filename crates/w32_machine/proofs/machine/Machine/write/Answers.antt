use Rattle.w32_machine.proofs.Writing.{slot-there, write-sound, write-done}
use Rattle.w32_machine.proofs.machine.Machine.write.Goals as goal

pub own_mut-requires : goal.own_mut-requires
own_mut-requires c =
    slot-there c.self.inside c.self.invariant c.args.self.now c.self.view_is c.args.into.now.slot c.requires

pub invariant_of-self : goal.invariant_of-self
invariant_of-self c =
    write-sound c.self.inside c.self.invariant c.args.self.now c.self.view_is c.args.into.now.slot
    c.args.into.now.region
    c.args.into.now.place c.args.bytes.now c.own_mut.result.now c.write_own.new.own c.own_mut.ensures.value
    c.write_own.result c.write_own.ensures.outside c.write_own.ensures.bytes c.write_own.ensures.unchanged
    c.requires

pub returns-clause-written : goal.returns-clause-written
returns-clause-written c =
    write-done c.self.inside c.self.invariant c.args.self.now c.self.view_is c.args.into.now.slot c.args.into.now.region
    c.args.into.now.place c.args.bytes.now c.own_mut.result.now c.write_own.new.own c.own_mut.ensures.value
    c.write_own.result c.write_own.ensures.outside c.write_own.ensures.bytes c.write_own.ensures.unchanged
    c.is_ok.result c.is_ok.ensures.value
