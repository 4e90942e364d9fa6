use Rattle.std.proofs.Common.{◌≡◌, ◌∙◌, slice_get, slice_index_or, refl, sym, ap, subst, arith}
use Rattle.std.specs.Vec.{with_item}
use Rattle.win32_spec.specs.Lookup.{IsLowestFreeSlot, AreAllOccupied}
use Rattle.win32_spec.specs.Named.{is_full}
use Rattle.w32_process.specs.Table.{with_handles}
use Rattle.w32_machine.specs.Running.{Running}
use Rattle.w32_machine.proofs.CreateSteps.{none_absent, some_absent, at-index, past-index, there-index}
use Rattle.w32_machine.proofs.CreateSteps.{some_slot, no_slot}
use Rattle.w32_machine.proofs.CreateSteps.{absent-step, index-step, slot-step, full-step}
use Rattle.w32_machine.proofs.Creates.{has_process, handles_now, spare-for, room-listed, not-all, stands-after}
use Rattle.w32_machine.proofs.Creates.{not-full, create-sound, create-done}
use Rattle.w32_machine.proofs.machine.Machine.create.Goals as goal

pub handles-requires : goal.handles-requires
handles-requires c =
    has_process c.self.inside c.self.invariant c.args.self.now c.self.view_is c.args.by.now c.requires.caller
    c.args.list.now

pub returns-in_default-clause-step : goal.returns-in_default-clause-step
returns-in_default-clause-step c =
    absent-step c.args.self.now.script c.args.self.now.win32 c.args.by.now.process c.args.program c.args.list.now
    c.handles.result.now
    (handles_now c.self.inside c.self.invariant c.args.self.now c.self.view_is c.args.by.now c.requires.caller
    c.args.list.now c.handles.result.now c.handles.ensures)
    (some_absent c.handles.result.now c.args.list.now
    (λ all. let e = c.in_default.ensures.all.1 all in cc))

pub hold_all-requires : goal.hold_all-requires
hold_all-requires c =
    let free = some_slot (AreAllOccupied c.args.self.now.script.setup.limits.slots c.args.self.now.win32.processes)
    (IsLowestFreeSlot c.args.self.now.script.setup.limits.slots c.args.self.now.win32.processes) c.free_slot.result
    c.is_none.result c.free_slot.ensures c.is_none.ensures c.if-is_none.false in
    room-listed c.self.inside c.self.invariant c.args.self.now c.self.view_is c.args.by.now c.requires.caller
    c.args.list.now c.handles.result.now c.handles.ensures free.0 free.1 c.in-Ok.handles c.in-Ok.ensures.kept

pub unreachable-requires : goal.unreachable-requires
unreachable-requires c =
    let free = some_slot (AreAllOccupied c.args.self.now.script.setup.limits.slots c.args.self.now.win32.processes)
    (IsLowestFreeSlot c.args.self.now.script.setup.limits.slots c.args.self.now.win32.processes) c.free_slot.result
    c.is_none.result c.free_slot.ensures c.is_none.ensures c.if-is_none.false in
    not-all c.self.inside c.self.invariant c.args.self.now c.self.view_is c.args.by.now c.requires.caller
    c.args.list.now c.handles.result.now c.handles.ensures free.0 free.1 (c.in_default-create.ensures.full.0 refl)

pub add-o-requires : goal.add-o-requires
add-o-requires c =
    spare-for c.self.inside c.self.invariant c.args.self.now c.self.view_is c.args.by.now c.requires.caller
    c.args.list.now c.handles.result.now c.handles.ensures (sym c.is_full.ensures ∙ c.if-is_full.false)
    c.hold_all.new.objects c.hold_all.ensures.spare

pub handles_mut-requires : goal.handles_mut-requires
handles_mut-requires c =
    stands-after c.self.inside c.self.invariant c.args.self.now c.self.view_is c.args.by.now c.requires.caller
    c.args.list.now c.handles.result.now c.handles.ensures _ c.in-Ok-create.ensures.lowest _ _ c.in-Ok.handles
    c.in-Ok.ensures.kept c.create.new.self c.in-Ok-create.ensures.made

pub unreachable-requires-in_default-open : goal.unreachable-requires-in_default-open
unreachable-requires-in_default-open c =
    not-full c.self.inside c.self.invariant c.args.self.now c.self.view_is c.args.by.now c.requires.caller
    c.args.list.now c.handles.result.now c.handles.ensures _ c.in-Ok-create.ensures.lowest _ _ c.in-Ok.handles
    c.in-Ok.ensures.kept c.create.new.self c.in-Ok-create.ensures.made c.handles_mut.result.now
    c.handles_mut.ensures.value (sym c.is_full.ensures ∙ c.if-is_full.false) (c.in_default-open.ensures.full.0 refl)

pub returns-then-program-len-clause-step : goal.returns-then-program-len-clause-step
returns-then-program-len-clause-step c =
    index-step c.args.self.now.script c.args.self.now.win32 c.args.by.now.process c.args.program c.args.list.now
    c.handles.result.now
    (handles_now c.self.inside c.self.invariant c.args.self.now c.self.view_is c.args.by.now c.requires.caller
    c.args.list.now c.handles.result.now c.handles.ensures)
    (none_absent c.handles.result.now c.args.list.now (c.in-Ok.ensures.all.0 refl))
    (ap (λ (r : Running). slice_get r.script.setup.programs c.args.program) (sym c.self.view_is)
    ∙ past-index c.self.inside.script.setup.programs c.args.program
    (omega (arith, c.len.ensures.value, c.if-program-len.true)))

pub returns-then-is_none-clause-step : goal.returns-then-is_none-clause-step
returns-then-is_none-clause-step c =
    let it = there-index c.self.inside.script.setup.programs c.args.program
    (omega (arith, c.len.ensures.value, c.if-program-len.false)) in
    slot-step c.args.self.now.script c.args.self.now.win32 c.args.by.now.process c.args.program c.args.list.now
    c.handles.result.now
    (handles_now c.self.inside c.self.invariant c.args.self.now c.self.view_is c.args.by.now c.requires.caller
    c.args.list.now c.handles.result.now c.handles.ensures)
    (none_absent c.handles.result.now c.args.list.now (c.in-Ok.ensures.all.0 refl)) it.0
    (ap (λ (r : Running). slice_get r.script.setup.programs c.args.program) (sym c.self.view_is) ∙ it.1)
    (no_slot _ _ c.free_slot.result c.is_none.result c.free_slot.ensures c.is_none.ensures c.if-is_none.true)

pub returns-then-is_full-clause-step : goal.returns-then-is_full-clause-step
returns-then-is_full-clause-step c =
    let it = there-index c.self.inside.script.setup.programs c.args.program
    (omega (arith, c.len.ensures.value, c.if-program-len.false)) in
    let free = some_slot (AreAllOccupied c.args.self.now.script.setup.limits.slots c.args.self.now.win32.processes)
    (IsLowestFreeSlot c.args.self.now.script.setup.limits.slots c.args.self.now.win32.processes) c.free_slot.result
    c.is_none.result c.free_slot.ensures c.is_none.ensures c.if-is_none.false in
    let hs = handles_now c.self.inside c.self.invariant c.args.self.now c.self.view_is c.args.by.now c.requires.caller
    c.args.list.now c.handles.result.now c.handles.ensures in
    full-step c.args.self.now.script c.args.self.now.win32 c.args.by.now.process c.args.program c.args.list.now
    c.handles.result.now hs
    (none_absent c.handles.result.now c.args.list.now (c.in-Ok.ensures.all.0 refl)) it.0
    (ap (λ (r : Running). slice_get r.script.setup.programs c.args.program) (sym c.self.view_is) ∙ it.1)
    free.0 free.1 (ap (λ xs. is_full xs 1) (sym hs) ∙ sym c.is_full.ensures ∙ c.if-is_full.true)

pub invariant_of-self : goal.invariant_of-self
invariant_of-self c =
    create-sound c.self.inside c.self.invariant c.args.self.now c.self.view_is c.args.by.now c.requires.caller
    c.args.list.now c.handles.result.now c.handles.ensures _ c.in-Ok-create.ensures.lowest c.args.program
    c.index-as_slice-program.result c.in-Ok.handles
    c.in-Ok.ensures.kept c.create.new.self c.in-Ok-create.ensures.made c.handles_mut.result.now
    c.handles_mut.ensures.value c.in-Ok-open.h c.add-o.result _ c.open.new.self c.in-Ok-open.ensures.opened
    (record c.self.inside {
      processes = with_handles c.create.new.self c.args.by.now.slot c.open.new.self;
      objects = c.add-o.new.self;
      posted = c.open_threads.new.posted;
      placed = with_item c.self.inside.placed c.from.result c.new.result;
    }) refl refl refl c.open_threads.ensures c.from.result (c.from.ensures ∙ c.get.ensures.value) c.new.result
    c.new.ensures refl refl c.hold_all.new.objects c.hold_all.ensures.held c.hold_all.ensures.spare
    c.add-o.ensures.even c.add-o.ensures.unused c.in-Ok-create.ensures.number c.add-o.ensures.added
    c.add-o.ensures.spare c.in-Ok-open.ensures.lowest
    (at-index c.self.inside.script.setup.programs c.args.program c.index-as_slice-program.result
    (omega (arith, c.len.ensures.value, c.if-program-len.false))
    (subst (λ xs. c.index-as_slice-program.result ≡ slice_index_or xs c.args.program c.index-as_slice-program.result)
    c.as_slice.ensures.value c.index-as_slice-program.is))
    (sym c.is_full.ensures ∙ c.if-is_full.false)

pub returns-clause-step : goal.returns-clause-step
returns-clause-step c =
    create-done c.self.inside c.self.invariant c.args.self.now c.self.view_is c.args.by.now c.requires.caller
    c.args.list.now c.handles.result.now c.handles.ensures _ c.in-Ok-create.ensures.lowest c.args.program
    c.index-as_slice-program.result c.in-Ok.handles
    c.in-Ok.ensures.kept c.create.new.self c.in-Ok-create.ensures.made c.handles_mut.result.now
    c.handles_mut.ensures.value c.in-Ok-open.h c.add-o.result _ c.open.new.self c.in-Ok-open.ensures.opened
    (record c.self.inside {
      processes = with_handles c.create.new.self c.args.by.now.slot c.open.new.self;
      objects = c.add-o.new.self;
      posted = c.open_threads.new.posted;
      placed = with_item c.self.inside.placed c.from.result c.new.result;
    }) refl refl refl c.open_threads.ensures c.from.result (c.from.ensures ∙ c.get.ensures.value) c.new.result
    c.new.ensures refl refl c.hold_all.new.objects c.hold_all.ensures.held c.hold_all.ensures.spare
    c.add-o.ensures.even c.add-o.ensures.unused c.in-Ok-create.ensures.number c.add-o.ensures.added
    c.add-o.ensures.spare c.in-Ok-open.ensures.lowest
    (at-index c.self.inside.script.setup.programs c.args.program c.index-as_slice-program.result
    (omega (arith, c.len.ensures.value, c.if-program-len.false))
    (subst (λ xs. c.index-as_slice-program.result ≡ slice_index_or xs c.args.program c.index-as_slice-program.result)
    c.as_slice.ensures.value c.index-as_slice-program.is))
    (sym c.is_full.ensures ∙ c.if-is_full.false)
    (none_absent c.handles.result.now c.args.list.now (c.in-Ok.ensures.all.0 refl))
