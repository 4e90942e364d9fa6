-- The objects have room for the handles of a process that is to be made.
use Rattle.std.proofs.Common.{◌≡◌, ◌∙◌, inl, inr, ℕ, ◌+◌, ◌≤◌, ◌<◌, Bool, true, false, if◌then◌else◌, List, [], ◌∷◌}
use Rattle.std.proofs.Common.{length, Some, None, refl, sym, ap, arith}
use Rattle.std.proofs.lemmas.Bool.{cases_lt}
use Rattle.win32_spec.specs.Handles.{Handle, listed_handles, is_listed, holders_of, AreRisingFrom}
use Rattle.win32_spec.specs.State.{Process}
use Rattle.win32_spec.specs.Lookup.{object_number, object_of}
use Rattle.win32_spec.specs.Ends.{is_object_held}
use Rattle.win32_spec.specs.LookupLaws.{before}
use Rattle.win32_spec.specs.HandleLaws.{rising-listed, listed_handle}
use Rattle.win32_spec.specs.HolderLaws.{length-rising}
use Rattle.win32_spec.specs.HeldLaws.{held-by}
use Rattle.win32_spec.specs.FormedLaws.{from_listed, of_live, have_rising}
use Rattle.w32_handles.specs.Table.{object_at}
use Rattle.w32_handles.specs.Shown.{object_shown}
use Rattle.w32_handles.specs.ShownLaws.{object_of-named}
use Rattle.w32_handles.specs.CountLaws.{held-counted}
use Rattle.w32_handles.specs.Counted.{holders_on, all_holders_on}
use Rattle.w32_handles.specs.BoundLaws.{holders_on-le}
use Rattle.w32_process.specs.Table.{place_at, number_at}
use Rattle.w32_sync.specs.declared.PipeEnd.TheVariants.{Read, Write}
use Rattle.w32_kinds.specs.declared.kind.Kind.{Kind}
use Rattle.w32_kinds.specs.declared.kind.Kind.TheVariants as kind
use Rattle.w32_machine.specs.declared.machine.Machine.TheInside.{Inside}
use Rattle.w32_kinds.specs.Kinds.{ends_on}
use Rattle.w32_kinds.specs.Shown.{shown}
use Rattle.w32_machine.specs.View.{posted_in, placed_in, view_of}
use Rattle.w32_machine.specs.Sound.{IsKind, IsSound}
use Rattle.w32_machine.specs.Creating.{HaveRoom}
use Rattle.w32_machine.proofs.Slots.{rising_at}
use Rattle.w32_machine.proofs.Closing.{there}
use Rattle.w32_machine.proofs.HandlesRoom.{holders-empty}

-- no more of the listed handles than of all
pub listed-le : (hs : List Handle) (ns : List ℕ) (q : ℕ) → holders_of (listed_handles hs ns) q ≤ holders_of hs q
listed-le [] ns q = omega arith
listed-le (p ∷ ps) ns q = by_test (is_listed ns p.number) (listed-le ps ns q)
  where
    by_test : (b : Bool) → holders_of (listed_handles ps ns) q ≤ holders_of ps q
        → holders_of (if b then p ∷ listed_handles ps ns else listed_handles ps ns) q ≤ holders_of (p ∷ ps) q
    by_test true l = omega arith
    by_test false l = omega arith

module _ (m : Inside) (sound : IsSound m) (at_slot w : ℕ) (stands : number_at m.processes.slots at_slot ≡ Some w)
    (list : List ℕ) where
  abbrev pub hs : List Handle
  hs = (place_at m.processes.slots at_slot).handles

  abbrev pub listed : List Handle
  listed = listed_handles hs list

  abbrev ps : List Process
  ps = (view_of m).win32.processes

  rising_hs : AreRisingFrom 1 hs
  rising_hs = rising_at m sound at_slot w stands

  rising_listed : AreRisingFrom 1 listed
  rising_listed = rising-listed 1 hs list rising_hs

  few_listed : (n : ℕ) → object_number n ≡ n → holders_on listed n ≤ 64
  few_listed n even =
      omega (arith, holders_on-le listed n even, length-rising 1 listed (omega arith) rising_listed)

  -- the objects have room for the handles of a process in an empty slot
  pub have-room : (slot : ℕ) → slot < length m.processes.slots → number_at m.processes.slots slot ≡ None
      → HaveRoom listed m.objects
  have-room slot within empty = record {
    rising = rising_listed;
    there = λ h names e.
        let at = there m sound at_slot w stands h names (listed_handle 1 hs list h names rising_hs e) in
        rw (at.1) refl;
    holders = λ o kept e.
        omega (
          arith,
          (sound.held o kept e).holders,
          all_few (object_number o) (omega arith),
          few_listed (object_number o) (omega arith),
        );
    first = λ o kept e. first_few (object_number o) (omega arith) kept.object (sound.held o kept e).kind;
    second = λ o kept e. second_few (object_number o) (omega arith) kept.object (sound.held o kept e).kind;
  }
    where
      all_few : (n : ℕ) → object_number n ≡ n → all_holders_on ps n + 64 ≤ 4160
      all_few n even =
          holders-empty m.script (posted_in m.posted.items) (placed_in m.placed.items) shown m.processes sound.table
          m.objects.places m.keys.items sound.state slot within empty n even

      first_few : (n : ℕ) → object_number n ≡ n → (x : Kind) → IsKind m.processes.slots ps m.section n x
          → ends_on x Read + holders_of listed n ≤ 4160
      first_few n even (kind.Pipe p) h = omega (arith, h.0, all_few n even, few_listed n even)
      first_few n even (kind.Section words) h = omega (arith, few_listed n even)
      first_few n even (kind.Event e) h = omega (arith, few_listed n even)
      first_few n even (kind.Mutex owner) h = omega (arith, few_listed n even)
      first_few n even (kind.Process v s) h = omega (arith, few_listed n even)
      first_few n even (kind.Terminal terminal) h = omega (arith, few_listed n even)

      second_few : (n : ℕ) → object_number n ≡ n → (x : Kind) → IsKind m.processes.slots ps m.section n x
          → ends_on x Write + holders_of listed (n + 1) ≤ 4160
      second_few n even (kind.Pipe p) h = omega (arith, h.1, all_few n even, few_listed n even)
      second_few n even (kind.Section words) h = omega (arith, few_listed n even)
      second_few n even (kind.Event e) h = omega (arith, few_listed n even)
      second_few n even (kind.Mutex owner) h = omega (arith, few_listed n even)
      second_few n even (kind.Process v s) h = omega (arith, few_listed n even)
      second_few n even (kind.Terminal terminal) h = omega (arith, few_listed n even)

-- an object that isn't there has no holder
pub nobody : (m : Inside) (sound : IsSound m) (o : ℕ) → object_number o ≡ o → object_at m.objects o ≡ None
    → all_holders_on (view_of m).win32.processes o ≡ 0
nobody m sound o whole free =
    elim (cases_lt 0 (all_holders_on (view_of m).win32.processes o)) [
      | inl l ↦ absurd (not_listed (held-counted (view_of m).win32.processes o whole
          ∙ before 0 (all_holders_on (view_of m).win32.processes o) l))
      | inr l ↦ omega arith
    ]
  where
    not_listed : is_object_held (view_of m).win32.processes o ≡ true → ⊥
    not_listed e =
        let at = held-by 1 m.processes.next (view_of m).win32.processes o sound.state.formed.processes
        (have_rising m.script (view_of m).win32 sound.state.formed) e in
        let live = of_live m.script (view_of m).win32.objects at.process at.process.life at.alive
        (sound.state.formed.process at.number at.process at.found) in
        let it = from_listed (view_of m).win32.objects at.names (live.naming at.handle at.names at.named) in
        let none : object_of (view_of m).win32.objects o ≡ None =
        ap (object_of (view_of m).win32.objects) (sym whole) ∙ object_of-named shown m.objects o
        ∙ ap (object_shown shown) free in
        let f : Some it.0 ≡ None =
        sym it.1 ∙ ap (object_of (view_of m).win32.objects) at.object ∙ none in cc
