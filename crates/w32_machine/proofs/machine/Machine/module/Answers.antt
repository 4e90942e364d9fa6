use Rattle.std.proofs.Common.{◌∙◌, ◌-◌, ◌≤◌, refl, sym, ap, subst}
use Rattle.win32_spec.specs.Placing.{base_in, taken_pages}
use Rattle.win32_spec.specs.Regions.{IsPlaceFor}
use Rattle.w32_machine.proofs.ModuleSteps.{the-program, no-program, host-step, absent-step, creation-there, read-twice}
use Rattle.w32_machine.proofs.ModuleSteps.{placed-step, room, place-done, place-sound}
use Rattle.w32_machine.proofs.Running.{some-there}
use Rattle.w32_machine.proofs.machine.Machine.module.Goals as goal

pub program-requires : goal.program-requires
program-requires c =
    some-there c.self.inside c.self.invariant c.args.self.now c.self.view_is c.args.by.now c.requires

pub returns-then-is_none-clause-step : goal.returns-then-is_none-clause-step
returns-then-is_none-clause-step c =
    host-step c.self.inside c.self.invariant c.args.self.now c.self.view_is c.args.by.now c.requires c.args.m
    c.program.result
    c.program.ensures
    (no-program c.program.result c.is_none.result c.is_none.ensures c.if-is_none.true)

pub returns-then-m-len-clause-step : goal.returns-then-m-len-clause-step
returns-then-m-len-clause-step c =
    absent-step c.self.inside c.self.invariant c.args.self.now c.self.view_is c.args.by.now c.requires c.args.m
    c.program.result
    c.program.ensures
    (the-program c.program.result c.is_none.result c.is_none.ensures c.if-is_none.false).0 (the-program
    c.program.result c.is_none.result c.is_none.ensures c.if-is_none.false).1 c.len.result c.len.ensures.value
    c.if-m-len.true

pub returns-in-Some-clause-step : goal.returns-in-Some-clause-step
returns-in-Some-clause-step c =
    placed-step c.self.inside c.self.invariant c.args.self.now c.self.view_is c.args.by.now c.requires c.args.m
    c.program.result
    c.program.ensures
    (the-program c.program.result c.is_none.result c.is_none.ensures c.if-is_none.false).0 (the-program
    c.program.result c.is_none.result c.is_none.ensures c.if-is_none.false).1
    c.len.result c.from-slot.result c.len.ensures.value c.len.ensures.range c.if-m-len.false
    (c.from-slot.ensures ∙ c.get.ensures.value) c.as_slice.result.now c.as_slice.ensures.value c.index-as_slice-m.result
    c.index-as_slice-m.is c.args.m refl c.index.result.now c.index.ensures c.in-Some.base
    (sym c.base.ensures ∙ c.in-Some.is)

pub overflow_sub-creation : goal.overflow_sub-creation
overflow_sub-creation c =
    subst (λ n. 1 ≤ n) (sym c.get-creation.ensures.value)
    (creation-there c.self.inside c.self.invariant c.args.self.now c.self.view_is c.args.by.now c.requires c.args.m
    c.program.result
    c.program.ensures
    (the-program c.program.result c.is_none.result c.is_none.ensures c.if-is_none.false).0 (the-program
    c.program.result c.is_none.result c.is_none.ensures c.if-is_none.false).1)

pub push-requires : goal.push-requires
push-requires c =
    room c.self.inside c.self.invariant c.args.self.now c.self.view_is c.args.by.now c.requires c.args.m
    c.program.result
    c.program.ensures
    (the-program c.program.result c.is_none.result c.is_none.ensures c.if-is_none.false).0 (the-program
    c.program.result c.is_none.result c.is_none.ensures c.if-is_none.false).1
    c.len.result c.from-slot.result c.len.ensures.value c.len.ensures.range c.if-m-len.false
    (c.from-slot.ensures ∙ c.get.ensures.value) c.as_slice.result.now c.as_slice.ensures.value c.index-as_slice-m.result
    c.index-as_slice-m.is c.args.m refl c.index_mut.result.now c.index_mut.ensures.value
    (ap (λ xs. base_in xs c.args.m)
    (read-twice c.self.inside c.self.invariant c.args.self.now c.self.view_is c.args.by.now c.requires c.args.m
    c.program.result
    c.program.ensures c.from-slot.result (c.from-slot.ensures ∙ c.get.ensures.value)
    c.index_mut.result.now c.index.result.now c.index_mut.ensures.value c.index.ensures)
    ∙ sym c.base.ensures ∙ c.in_default.is)

pub invariant_of-self : goal.invariant_of-self
invariant_of-self c =
    place-sound c.self.inside c.self.invariant c.args.self.now c.self.view_is c.args.by.now c.requires c.args.m
    c.program.result
    c.program.ensures
    (the-program c.program.result c.is_none.result c.is_none.ensures c.if-is_none.false).0 (the-program
    c.program.result c.is_none.result c.is_none.ensures c.if-is_none.false).1
    c.len.result c.from-slot.result c.len.ensures.value c.len.ensures.range c.if-m-len.false
    (c.from-slot.ensures ∙ c.get.ensures.value) c.as_slice.result.now c.as_slice.ensures.value c.index-as_slice-m.result
    c.index-as_slice-m.is c.args.m refl c.index_mut.result.now c.index_mut.ensures.value
    (ap (λ xs. base_in xs c.args.m)
    (read-twice c.self.inside c.self.invariant c.args.self.now c.self.view_is c.args.by.now c.requires c.args.m
    c.program.result
    c.program.ensures c.from-slot.result (c.from-slot.ensures ∙ c.get.ensures.value)
    c.index_mut.result.now c.index.result.now c.index_mut.ensures.value c.index.ensures)
    ∙ sym c.base.ensures ∙ c.in_default.is)
    (c.get-creation.result - 1) c.place_for-base.result (ap (λ n. n - 1) c.get-creation.ensures.value)
    (subst (λ xs. IsPlaceFor (taken_pages c.self.inside.script (c.get-creation.result - 1) xs)
    c.index-as_slice-m.result.base c.index-as_slice-m.result.size c.place_for-base.result)
    (read-twice c.self.inside c.self.invariant c.args.self.now c.self.view_is c.args.by.now c.requires c.args.m
    c.program.result
    c.program.ensures c.from-slot.result (c.from-slot.ensures ∙ c.get.ensures.value)
    c.index-2.result.now c.index_mut.result.now c.index-2.ensures c.index_mut.ensures.value) c.place_for-base.ensures)
    c.push.new.self c.push.ensures

pub returns-clause-step : goal.returns-clause-step
returns-clause-step c =
    place-done c.self.inside c.self.invariant c.args.self.now c.self.view_is c.args.by.now c.requires c.args.m
    c.program.result
    c.program.ensures
    (the-program c.program.result c.is_none.result c.is_none.ensures c.if-is_none.false).0 (the-program
    c.program.result c.is_none.result c.is_none.ensures c.if-is_none.false).1
    c.len.result c.from-slot.result c.len.ensures.value c.len.ensures.range c.if-m-len.false
    (c.from-slot.ensures ∙ c.get.ensures.value) c.as_slice.result.now c.as_slice.ensures.value c.index-as_slice-m.result
    c.index-as_slice-m.is c.args.m refl c.index_mut.result.now c.index_mut.ensures.value
    (ap (λ xs. base_in xs c.args.m)
    (read-twice c.self.inside c.self.invariant c.args.self.now c.self.view_is c.args.by.now c.requires c.args.m
    c.program.result
    c.program.ensures c.from-slot.result (c.from-slot.ensures ∙ c.get.ensures.value)
    c.index_mut.result.now c.index.result.now c.index_mut.ensures.value c.index.ensures)
    ∙ sym c.base.ensures ∙ c.in_default.is)
    (c.get-creation.result - 1) c.place_for-base.result (ap (λ n. n - 1) c.get-creation.ensures.value)
    (subst (λ xs. IsPlaceFor (taken_pages c.self.inside.script (c.get-creation.result - 1) xs)
    c.index-as_slice-m.result.base c.index-as_slice-m.result.size c.place_for-base.result)
    (read-twice c.self.inside c.self.invariant c.args.self.now c.self.view_is c.args.by.now c.requires c.args.m
    c.program.result
    c.program.ensures c.from-slot.result (c.from-slot.ensures ∙ c.get.ensures.value)
    c.index-2.result.now c.index_mut.result.now c.index-2.ensures c.index_mut.ensures.value) c.place_for-base.ensures)
    c.push.new.self c.push.ensures
