-- What a handle of a caller names, and what another object in its place leaves.
use Rattle.std.proofs.Common.{◌≡◌, ◌∙◌, inl, inr, ℕ, ◌+◌, ◌*◌, ◌/◌, ◌≤◌, List, length, Option, Some, None}
use Rattle.std.proofs.Common.{IsSome, [], ◌∷◌, slice_index_or, refl, sym, ap, subst, arith}
use Rattle.std.specs.Option.{IsSomeAnd}
use Rattle.std.proofs.lemmas.Bool.{cases_eq}
use Rattle.win32_spec.specs.Handles.{handle_of}
use Rattle.win32_spec.specs.State.{Object, NumberedObject, Process, Win32State}
use Rattle.win32_spec.specs.Lookup.{object_number, object_of, change_object, with_object}
use Rattle.win32_spec.specs.Named.{named_by, number_or_zero, object_number_by, object_at, object_by}
use Rattle.win32_spec.specs.WellFormed.{IsListed, IsWellFormed}
use Rattle.win32_spec.specs.FormedLaws.{from_listed}
use Rattle.w32_handles.specs.Table.{HeldObject, Table, instead}
use Rattle.w32_handles.specs.Table as table
use Rattle.w32_handles.specs.Shown.{object_shown, objects_of}
use Rattle.w32_handles.specs.ShownLaws.{object_of-named}
use Rattle.w32_handles.specs.PlaceLaws.{Changes-with_object, objects-change, objects-stay}
use Rattle.w32_process.specs.Places.{Place}
use Rattle.w32_process.specs.Table.{number_at}
use Rattle.w32_machine.specs.Contract.{IsCaller}
use Rattle.w32_machine.specs.declared.caller.Caller.{Caller}
use Rattle.w32_kinds.specs.declared.kind.Kind.{Kind}
use Rattle.w32_machine.specs.declared.machine.Machine.TheInside.{Inside}
use Rattle.w32_machine.specs.Running.{Running}
use Rattle.w32_kinds.specs.Shown.{shown}
use Rattle.w32_machine.specs.View.{view_of}
use Rattle.w32_machine.specs.Sound.{IsKind, IsHeld, IsSound}
use Rattle.w32_machine.proofs.Slots.{caller-at, handles_at, its_facts}

-- what the code keeps of an object stays
abbrev pub KeepsKind : Kind → Kind → Type 0
KeepsKind x y = (slots : List Place) (ps : List Process) (section o : ℕ) → IsKind slots ps section o x
    → IsKind slots ps section o y

-- what was lent is what stands there
pub lent : (o : Option (HeldObject Kind)) (x : Kind) → IsSomeAnd o (λ kept. kept.object ≡ x)
    → (kept : HeldObject Kind) × (o ≡ Some kept) × (kept.object ≡ x)
lent (Some kept) x e = (kept, refl, e)
lent None x e = absurd e

-- an object that becomes itself changes nothing
length-change : (o : ℕ) (y : Object) (xs : List NumberedObject) → length (change_object o y xs) ≡ length xs
length-change o y [] = refl
length-change o y (x ∷ xs) = omega (arith, length-change o y xs)

module _ (m : Inside) (sound : IsSound m) (now : Running) (shows : view_of m ≡ now) (by : Caller)
    (caller : IsCaller now.win32 by) (h o : ℕ) (named : Some o ≡ named_by now.win32 by.process h) where
  pub at : number_at m.processes.slots by.slot ≡ Some by.process
  at = caller-at m sound now shows by.slot by.process caller.process

  pub named_here : named_by (view_of m).win32 by.process h ≡ Some o
  named_here = subst (λ (r : Running). named_by r.win32 by.process h ≡ Some o) (sym shows) (sym named)

  listed : IsListed (view_of m).win32.objects o
  listed = (its_facts m sound by.slot by.process at).naming h o
      (ap (λ hs. handle_of hs h) (sym (handles_at m sound by.slot by.process at)) ∙ named_here)

  pub stands : (kept : HeldObject Kind) × (table.object_at m.objects o ≡ Some kept)
  stands = by_answer (table.object_at m.objects o) refl
    where
      by_answer : (found : Option (HeldObject Kind)) → table.object_at m.objects o ≡ found
          → (kept : HeldObject Kind) × (table.object_at m.objects o ≡ Some kept)
      by_answer (Some kept) e = (kept, e)
      by_answer None e =
          let f = from_listed (view_of m).win32.objects o listed in
          absurd (let g : Some f.0 ≡ None = sym f.1 ∙ object_of-named shown m.objects o ∙ ap (object_shown shown) e
          in cc)

  pub some_at : IsSome (table.object_at m.objects o)
  some_at = rw (stands.1) refl

  pub number_is : object_number_by now.win32 by.process h ≡ object_number o
  number_is = ap number_or_zero (sym named)

  -- the object that was lent
  module _ (x : Kind) (was : IsSomeAnd (table.object_at m.objects o) (λ kept. kept.object ≡ x)) where
    it : (kept : HeldObject Kind) × (table.object_at m.objects o ≡ Some kept) × (kept.object ≡ x)
    it = lent (table.object_at m.objects o) x was

    shown_at : object_shown shown (table.object_at m.objects o) ≡ Some (shown x)
    shown_at = ap (object_shown shown) it.1 ∙ ap (λ k. Some (shown k)) it.2

    pub object_is : object_by now.win32 by.process h ≡ Some (shown x)
    object_is =
        ap (object_at now.win32) (sym named)
        ∙ ap (λ (r : Running). object_of r.win32.objects (object_number o)) (sym shows)
        ∙ object_of-named shown m.objects o ∙ shown_at

    pub kind_is : IsKind m.processes.slots (view_of m).win32.processes m.section (object_number o) x
    kind_is = subst (IsKind m.processes.slots (view_of m).win32.processes m.section (object_number o)) it.2
        (sound.held o it.0 it.1).kind

    -- another object in its place
    module _ (y : Kind) where
      abbrev pub changed : Inside
      changed = record m { objects = table.with_object m.objects o y }

      its_change : table.Changes m.objects changed.objects o (instead y (table.object_at m.objects o))
      its_change = Changes-with_object m.objects o y some_at

      shown_after : object_shown shown (instead y (table.object_at m.objects o)) ≡ Some (shown y)
      shown_after = ap (λ k. object_shown shown (instead y k)) it.1

      pub after : (view_of changed).win32 ≡ with_object now.win32 (object_number o) (shown y)
      after =
          ap (λ (xs : List NumberedObject). record (view_of m).win32 { objects = xs })
          (objects-change shown m.objects changed.objects o (instead y (table.object_at m.objects o)) (shown x)
          (shown y) its_change shown_at shown_after)
          ∙ ap (λ (r : Running). with_object r.win32 (object_number o) (shown y)) shows

      pub unchanged : y ≡ x → (view_of changed).win32 ≡ now.win32
      unchanged e =
          ap (λ (xs : List NumberedObject). record (view_of m).win32 { objects = xs })
          (objects-stay shown m.objects changed.objects o (instead y (table.object_at m.objects o)) its_change
          (shown_after ∙ ap (λ k. Some (shown k)) e ∙ sym shown_at))
          ∙ ap (λ (r : Running). r.win32) shows

      pub sound_after : IsWellFormed m.script (view_of changed).win32 → KeepsKind x y → IsSound changed
      sound_after formed keeps = record {
        state = formed;
        table = sound.table;
        slots = sound.slots;
        posted = sound.posted;
        placed = sound.placed;
        held = held_after;
        room = room_after;
        keys = sound.keys;
      }
        where
          room_after : 4160 ≤ length (objects_of shown changed.objects.places) + m.objects.spare
          room_after =
              omega (
                arith,
                sound.room,
                ap (λ (s : Win32State). length s.objects) after,
                ap (λ (r : Running). length r.win32.objects) shows,
                length-change (object_number o) (shown y) now.win32.objects,
              )

          held_after : (a : ℕ) (kept : HeldObject Kind) → table.object_at changed.objects a ≡ Some kept
              → IsHeld m.processes.slots (view_of m).win32.processes m.section (object_number a) kept
          held_after a kept e =
              elim (cases_eq (a / 2) (o / 2)) [
                | inr d ↦ sound.held a kept (sym (its_change.others a d) ∙ e)
                | inl n ↦
                    let there : table.object_at changed.objects a ≡ table.object_at changed.objects o =
                    ap (λ i. slice_index_or changed.objects.places i None) n in
                    let f : Some (record it.0 { object = y }) ≡ Some kept =
                    sym (ap (instead y) it.1) ∙ sym its_change.here ∙ sym there ∙ e in
                    let g : record it.0 { object = y } ≡ kept = cc in
                    let number : object_number a ≡ object_number o = ap (λ i. 2 * i) n in
                    let old = sound.held o it.0 it.1 in
                    rw number (subst (IsHeld m.processes.slots (view_of m).win32.processes m.section
                    (object_number o)) g
                    (record {
                      holders = old.holders;
                      kind = keeps m.processes.slots (view_of m).win32.processes m.section (object_number o) kind_is;
                    }))
              ]
