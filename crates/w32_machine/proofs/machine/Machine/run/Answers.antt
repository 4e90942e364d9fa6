use Rattle.w32_machine.proofs.Running.{some-there, idle-step, within-programs, data-size, run-sound, run-step}
use Rattle.w32_machine.proofs.machine.Machine.run.Goals as goal

pub program-requires : goal.program-requires
program-requires c =
    some-there c.self.inside c.self.invariant c.args.self.now c.self.view_is c.args.by.now c.requires

pub bounds-as_slice-from : goal.bounds-as_slice-from
bounds-as_slice-from c =
    within-programs c.self.inside c.self.invariant c.args.self.now c.self.view_is c.args.by.now c.requires
    c.in-Some.number c.program.result c.program.ensures c.in-Some.is c.as_slice.result.now c.as_slice.ensures.value
    c.from.result c.from.ensures

pub own_mut-requires : goal.own_mut-requires
own_mut-requires c =
    some-there c.self.inside c.self.invariant c.args.self.now c.self.view_is c.args.by.now c.requires

pub run_next-requires : goal.run_next-requires
run_next-requires c =
    data-size c.self.inside c.self.invariant c.args.self.now c.self.view_is c.args.by.now c.requires
    c.in-Some.number c.program.result c.program.ensures c.in-Some.is c.own_mut.result.now c.own_mut.ensures.value

pub invariant_of-self : goal.invariant_of-self
invariant_of-self c =
    run-sound c.self.inside c.self.invariant c.args.self.now c.self.view_is c.args.by.now c.requires c.in-Some.number
    c.program.result c.program.ensures c.in-Some.is c.as_slice.result.now c.as_slice.ensures.value c.from.result
    c.from.ensures c.index-as_slice-from.result c.index-as_slice-from.is c.own_mut.result.now c.run_next.new.own
    c.own_mut.ensures.value c.run_next.result c.run_next.ensures.length c.run_next.ensures.image
    c.run_next.ensures.sizes

pub returns-in-Some-clause-step : goal.returns-in-Some-clause-step
returns-in-Some-clause-step c =
    run-step c.self.inside c.self.invariant c.args.self.now c.self.view_is c.args.by.now c.requires c.in-Some.number
    c.program.result c.program.ensures c.in-Some.is c.as_slice.result.now c.as_slice.ensures.value c.from.result
    c.from.ensures c.index-as_slice-from.result c.index-as_slice-from.is c.own_mut.result.now c.run_next.new.own
    c.own_mut.ensures.value c.run_next.result c.run_next.ensures.length c.run_next.ensures.image
    c.run_next.ensures.sizes

pub returns-in-None-clause-step : goal.returns-in-None-clause-step
returns-in-None-clause-step c =
    idle-step c.self.inside c.self.invariant c.args.self.now c.self.view_is c.args.by.now c.requires c.program.result
    c.program.ensures c.in-None.is
