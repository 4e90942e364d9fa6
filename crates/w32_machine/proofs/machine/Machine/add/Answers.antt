use Rattle.std.proofs.Common.{◌∙◌, List, sym, ap, subst, arith}
use Rattle.win32_spec.specs.Handles.{Handle, IsLowestFree}
use Rattle.win32_spec.specs.Named.{handles_by}
use Rattle.w32_process.specs.Table.{Table}
use Rattle.w32_machine.specs.Sound.{IsSound}
use Rattle.w32_machine.specs.View.{view_of}
use Rattle.w32_machine.proofs.Slots.{is_there}
use Rattle.w32_machine.proofs.Handing.{stands, handles-are, some-room}
use Rattle.w32_machine.proofs.Adding.{some-spare, fresh, added-after, added-sound, handles-then}
use Rattle.w32_machine.proofs.machine.Machine.add.Goals as goal

pub add-o-requires : goal.add-o-requires
add-o-requires c =
    some-spare c.self.inside c.self.invariant c.args.self.now c.self.view_is c.args.by.now c.requires.caller
    c.requires.room

pub open_handle-handle-requires-clause-stands : goal.open_handle-handle-requires-clause-stands
open_handle-handle-requires-clause-stands c =
    is_there _ c.args.by.now.process
    (stands c.self.inside c.self.invariant c.args.self.now c.self.view_is c.args.by.now c.requires.caller)

pub open_handle-handle-requires-clause-room : goal.open_handle-handle-requires-clause-room
open_handle-handle-requires-clause-room c =
    omega (
      arith,
      some-room c.self.inside c.self.invariant c.args.self.now c.self.view_is c.args.by.now c.requires.caller
          c.requires.room,
    )

pub invariant_of-self : goal.invariant_of-self
invariant_of-self c =
    let lowest = subst (λ (hs : List Handle). IsLowestFree hs c.open_handle-handle.result)
    (handles-are c.self.inside c.self.invariant c.args.self.now c.self.view_is c.args.by.now c.requires.caller)
    c.open_handle-handle.ensures.lowest in
    subst (λ (t : Table). IsSound (record c.self.inside { processes = t; objects = c.add-o.new.self }))
    (sym c.open_handle-handle.ensures.opened)
    (added-sound c.self.inside c.self.invariant c.args.self.now c.self.view_is c.args.by.now c.requires.caller
    c.open_handle-handle.result c.add-o.result c.add-o.new.self c.args.k c.add-o.ensures.even c.add-o.ensures.unused
    c.add-o.ensures.added c.add-o.ensures.spare c.requires.kind c.requires.room lowest)

pub returns-clause-fresh : goal.returns-clause-fresh
returns-clause-fresh c =
    fresh c.self.inside c.self.invariant c.args.self.now c.self.view_is c.args.by.now c.requires.caller
    c.open_handle-handle.result c.add-o.result c.add-o.new.self c.args.k c.add-o.ensures.even c.add-o.ensures.unused
    c.add-o.ensures.added c.add-o.ensures.spare c.requires.kind

pub returns-clause-lowest : goal.returns-clause-lowest
returns-clause-lowest c =
    subst (λ (hs : List Handle). IsLowestFree hs c.open_handle-handle.result)
    (handles-are c.self.inside c.self.invariant c.args.self.now c.self.view_is c.args.by.now c.requires.caller)
    c.open_handle-handle.ensures.lowest

pub returns-clause-after : goal.returns-clause-after
returns-clause-after c =
    ap (λ (t : Table). (view_of (record c.self.inside { processes = t; objects = c.add-o.new.self })).win32)
    c.open_handle-handle.ensures.opened
    ∙ added-after c.self.inside c.self.invariant c.args.self.now c.self.view_is c.args.by.now c.requires.caller
    c.open_handle-handle.result c.add-o.result c.add-o.new.self c.args.k c.add-o.ensures.even c.add-o.ensures.unused
    c.add-o.ensures.added c.add-o.ensures.spare c.requires.kind

pub returns-clause-handles : goal.returns-clause-handles
returns-clause-handles c =
    ap (λ (t : Table). handles_by (view_of (record c.self.inside { processes = t; objects = c.add-o.new.self })).win32
    c.args.by.now.process) c.open_handle-handle.ensures.opened
    ∙ handles-then c.self.inside c.self.invariant c.args.self.now c.self.view_is c.args.by.now c.requires.caller
    c.open_handle-handle.result c.add-o.result c.add-o.new.self c.args.k c.add-o.ensures.even c.add-o.ensures.unused
    c.add-o.ensures.added c.add-o.ensures.spare c.requires.kind
