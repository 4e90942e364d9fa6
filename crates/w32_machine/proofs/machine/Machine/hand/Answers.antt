use Rattle.std.proofs.Common.{◌∙◌, List, sym, ap, subst, arith}
use Rattle.win32_spec.specs.Handles.{Handle, IsLowestFree}
use Rattle.w32_process.specs.Table.{Table}
use Rattle.w32_machine.specs.Sound.{IsSound}
use Rattle.w32_machine.specs.View.{view_of}
use Rattle.w32_machine.proofs.Slots.{is_there}
use Rattle.w32_machine.proofs.Handing.{stands, handles-are, some-room, kept-at, may-hold, held-after, held-sound}
use Rattle.w32_machine.proofs.machine.Machine.hand.Goals as goal

pub hold_object-requires : goal.hold_object-requires
hold_object-requires c =
    may-hold c.self.inside c.self.invariant c.args.self.now c.self.view_is c.args.by.now c.requires.caller c.args.o
    c.requires.listed c.requires.room

pub open_handle-requires-clause-stands : goal.open_handle-requires-clause-stands
open_handle-requires-clause-stands c =
    is_there _ c.args.by.now.process
    (stands c.self.inside c.self.invariant c.args.self.now c.self.view_is c.args.by.now c.requires.caller)

pub open_handle-requires-clause-room : goal.open_handle-requires-clause-room
open_handle-requires-clause-room c =
    omega (
      arith,
      some-room c.self.inside c.self.invariant c.args.self.now c.self.view_is c.args.by.now c.requires.caller
          c.requires.room,
    )

pub invariant_of-self : goal.invariant_of-self
invariant_of-self c =
    let at = kept-at c.self.inside c.self.invariant c.args.self.now c.self.view_is c.args.by.now c.requires.caller
    c.args.o c.requires.listed in
    let lowest = subst (λ (hs : List Handle). IsLowestFree hs c.open_handle.result)
    (handles-are c.self.inside c.self.invariant c.args.self.now c.self.view_is c.args.by.now c.requires.caller)
    c.open_handle.ensures.lowest in
    subst (λ (t : Table). IsSound (record c.self.inside { processes = t; objects = c.hold_object.new.objects }))
    (sym c.open_handle.ensures.opened)
    (held-sound c.self.inside c.self.invariant c.args.self.now c.self.view_is c.args.by.now c.requires.caller
    c.open_handle.result c.args.o c.hold_object.new.objects at.0 at.1 c.hold_object.ensures.held
    c.hold_object.ensures.spare c.requires.room lowest c.requires.listed)

pub returns-clause-lowest : goal.returns-clause-lowest
returns-clause-lowest c =
    subst (λ (hs : List Handle). IsLowestFree hs c.open_handle.result)
    (handles-are c.self.inside c.self.invariant c.args.self.now c.self.view_is c.args.by.now c.requires.caller)
    c.open_handle.ensures.lowest

pub returns-clause-after : goal.returns-clause-after
returns-clause-after c =
    let at = kept-at c.self.inside c.self.invariant c.args.self.now c.self.view_is c.args.by.now c.requires.caller
    c.args.o c.requires.listed in
    ap (λ (t : Table). (view_of (record c.self.inside { processes = t; objects = c.hold_object.new.objects })).win32)
    c.open_handle.ensures.opened
    ∙ held-after c.self.inside c.self.invariant c.args.self.now c.self.view_is c.args.by.now c.requires.caller
    c.open_handle.result c.args.o c.hold_object.new.objects at.0 at.1 c.hold_object.ensures.held
    c.hold_object.ensures.spare
