-- A process that is made in the tables: they stay sound.
use Rattle.std.proofs.Common.{◌≡◌, ◌≢◌, ◌∙◌, ◌⊎◌, inl, inr, ℕ, ◌+◌, ◌*◌, ◌/◌, ◌≤◌, ◌<◌, false, nat_eq}
use Rattle.std.proofs.Common.{if◌then◌else◌, List, [], length, Option, Some, None, slice_get}
use Rattle.std.proofs.Common.{slice_index_or, slice_set, refl, sym, ap, subst, arith}
use Rattle.std.specs.VecDeque.{deque_capacity}
use Rattle.std.proofs.lemmas.Bool.{cases_eq}
use Rattle.std.proofs.lemmas.List.{length-set}
use Rattle.w32_base.specs.declared.call.Call.{Call}
use Rattle.w32_base.specs.declared.call.Reply.TheVariants as reply
use Rattle.w32_base.specs.declared.setup.Program.{Program}
use Rattle.script_spec.specs.declared.script.Script.{Script}
use Rattle.win32_spec.specs.Handles.{Handle, with_handle, listed_handles, holders_of}
use Rattle.win32_spec.specs.State.{ProcessObject, NumberedObject, PlacedModule, Process, Win32State}
use Rattle.win32_spec.specs.Lookup.{process_of, object_number, object_of, add_process, add_object}
use Rattle.win32_spec.specs.Lookup.{with_handles}
use Rattle.win32_spec.specs.Making.{opening_call, new_process}
use Rattle.win32_spec.specs.Named.{handles_by, is_full}
use Rattle.win32_spec.specs.Pipes.{all_holders_of}
use Rattle.win32_spec.specs.ProcessCalls.{with_made, IsMade}
use Rattle.win32_spec.specs.WellFormed.{IsWellFormed}
use Rattle.win32_spec.specs.LookupLaws.{same, differs, not_none, process_of-add_kept}
use Rattle.win32_spec.specs.LookupLaws.{rising-add_process}
use Rattle.win32_spec.specs.HolderLaws.{all_holders-change}
use Rattle.win32_spec.specs.NewProcessLaws.{wellformed-made}
use Rattle.w32_handles.specs.Table.{HeldObject, Table, object_at, Changes}
use Rattle.w32_handles.specs.Shown.{object_shown, objects_of}
use Rattle.w32_handles.specs.ShownLaws.{object_of-named}
use Rattle.w32_handles.specs.CountLaws.{all_holders-add, all_holders-open}
use Rattle.w32_handles.specs.BoundLaws.{length-add}
use Rattle.w32_process.specs.Places.{Place, made_place}
use Rattle.w32_process.specs.Table as processes
use Rattle.w32_process.specs.Table.{place_at, number_at, IsLowestEmpty}
use Rattle.w32_process.specs.Sound as process_sound
use Rattle.w32_process.specs.SoundLaws.{number_at-set_same, number_at-set_other, number_at-set_kept, within_slots}
use Rattle.w32_process.specs.SoundLaws.{IsSound-same}
use Rattle.w32_process.specs.FoundLaws.{process_of-next}
use Rattle.w32_process.specs.MadeLaws.{IsSound-made}
use Rattle.w32_process.specs.StateMade.{lowest-free}
use Rattle.w32_kinds.specs.declared.kind.Kind.{Kind}
use Rattle.w32_kinds.specs.declared.kind.Kind.TheVariants as kind
use Rattle.w32_machine.specs.declared.machine.Machine.TheInside.{Inside}
use Rattle.w32_machine.specs.Contract.{key_lines}
use Rattle.w32_kinds.specs.Shown.{shown}
use Rattle.w32_machine.specs.View.{posted_in, placed_in, view_of}
use Rattle.w32_machine.specs.Sound.{IsKind, IsHeld, IsSound}
use Rattle.w32_machine.specs.Creating.{kind_with, kept_with, HoldsEach, opened}
use Rattle.w32_machine.proofs.Slots.{its_process, found}
use Rattle.w32_machine.proofs.CreateRoom.{listed-le, nobody}

module _ (m : Inside) (sound : IsSound m) (at_slot w : ℕ) (stands : number_at m.processes.slots at_slot ≡ Some w)
    (list : List ℕ) where
  abbrev hs : List Handle
  hs = (place_at m.processes.slots at_slot).handles

  abbrev listed : List Handle
  listed = listed_handles hs list

  abbrev ps : List Process
  ps = (view_of m).win32.processes

  -- a process in the lowest empty slot
  module _ (slot : ℕ) (lowest : IsLowestEmpty m.processes.slots slot) (number : ℕ) (program : Program) where
    abbrev mp : Place
    mp = made_place m.processes.next number program listed

    abbrev new_p : Process
    new_p = new_process m.processes.next slot number program 1 listed

    abbrev with_process : processes.Table
    with_process = processes.with_made m.processes slot number program listed

    -- with a handle of its maker on it
    module _ (o h : ℕ) where
      abbrev with_both : processes.Table
      with_both = processes.with_handles with_process at_slot (with_handle hs h o)

      module _ (m' : Inside) (script : m'.script ≡ m.script) (procs : m'.processes ≡ with_both)
          (section : m'.section ≡ m.section) (posts : m'.posted.items ≡ opened slot m.posted.items)
          (places : m'.placed.items ≡ slice_set m.placed.items slot [])
          (keys_room : deque_capacity m'.keys ≡ deque_capacity m.keys) (held : Table Kind)
          (holds : HoldsEach listed m.objects held) (held_spare : held.spare ≡ m.objects.spare)
          (added : Changes held m'.objects o (Some (record {
            object = kind.Process m.processes.next slot;
            holders = 1;
          })))
          (left_spare : m'.objects.spare + 1 ≡ held.spare) (whole : object_number o ≡ o)
          (free : object_at m.objects o ≡ None)
          (shows : objects_of shown m'.objects.places ≡
          add_object o (ProcessObject m.processes.next) (objects_of shown m.objects.places))
          (made-is : (view_of m').win32 ≡
          with_handles (with_made (view_of m).win32 o new_p) w (with_handle hs h o))
          (is-made : IsMade (view_of m).win32 w slot number program list (reply.Made h m.processes.next)
          (view_of m').win32) where
        -- how many handles name an object
        holders : (q : ℕ) → all_holders_of (view_of m').win32.processes q ≡
            all_holders_of ps q + holders_of listed q + (if nat_eq o q then 1 else 0)
        holders q =
            ap (λ (s : Win32State). all_holders_of s.processes q) made-is
            ∙ all_holders-open 1 (m.processes.next + 1) (add_process new_p ps) w (its_process m sound at_slot w stands)
            (rising-add_process 1 m.processes.next new_p ps sound.state.formed.processes
            (omega (arith, sound.state.formed.next)) refl)
            (process_of-add_kept new_p ps w (its_process m sound at_slot w stands) (found m sound at_slot w stands))
            refl
            h o q
            ∙ ap (λ n. n + (if nat_eq o q then 1 else 0)) (all_holders-add new_p refl ps q)

        holders_here : all_holders_of (view_of m').win32.processes o ≡
            all_holders_of ps o + holders_of listed o + 1
        holders_here = let s = same o o refl in rw s at (holders o)

        holders_aside : (q : ℕ) → o ≢ q
            → all_holders_of (view_of m').win32.processes q ≡ all_holders_of ps q + holders_of listed q
        holders_aside q d =
            let s = differs o q d in
            let e : all_holders_of (view_of m').win32.processes q ≡ all_holders_of ps q + holders_of listed q + 0 =
            rw s at (holders q) in
            omega arith

        listed_few : (q : ℕ) → holders_of listed q ≤ all_holders_of ps q
        listed_few q =
            omega (
              arith,
              listed-le hs list q,
              all_holders-change 1 m.processes.next ps w (its_process m sound at_slot w stands) [] q
                  sound.state.formed.processes (found m sound at_slot w stands) refl,
            )

        -- the slots
        within_both : at_slot < length with_process.slots
        within_both =
            omega (
              arith,
              length-set {A = Place} m.processes.slots slot mp,
              within_slots m.processes.slots at_slot w stands,
            )

        numbers_is : (k : ℕ) → number_at m'.processes.slots k ≡ number_at with_process.slots k
        numbers_is k =
            ap (λ (t : processes.Table). number_at t.slots k) procs
            ∙ number_at-set_kept with_process.slots at_slot k
            (record (place_at with_process.slots at_slot) { handles = with_handle hs h o }) within_both refl

        old_or_new : (k v : ℕ) → number_at m'.processes.slots k ≡ Some v
            → (number_at m.processes.slots k ≡ Some v) ⊎ ((k ≡ slot) × (v ≡ m.processes.next))
        old_or_new k v e =
            elim (cases_eq k slot) [
              | inl n ↦ inr (
                n,
                let f : Some v ≡ Some m.processes.next = sym e ∙ numbers_is k
                    ∙ ap (number_at with_process.slots) n
                    ∙ number_at-set_same m.processes.slots slot mp lowest.within in cc,
              )
              | inr d ↦ inl (sym (number_at-set_other m.processes.slots slot k mp d) ∙ sym (numbers_is k) ∙ e)
            ]

        table_after : process_sound.IsSound m'.processes
        table_after =
            subst process_sound.IsSound (sym procs)
            (IsSound-same (m.processes.next + 1) with_process.slots m.processes.kept at_slot
            (record (place_at with_process.slots at_slot) { handles = with_handle hs h o }) within_both refl
            (IsSound-made m.processes sound.table slot lowest.within lowest.empty number program listed))

        -- the objects
        kind_after : (a : ℕ) (x : Kind) → object_of (view_of m).win32.objects (object_number a) ≡ Some (shown x)
            → a / 2 ≢ o / 2 → IsKind m.processes.slots ps m.section (object_number a) x
            → IsKind m'.processes.slots (view_of m').win32.processes m'.section (object_number a)
            (kind_with (holders_of listed (object_number a)) (holders_of listed (object_number a + 1)) x)
        kind_after a (kind.Section words) is d k = k ∙ sym section
        kind_after a (kind.Event e) is d k = tt
        kind_after a (kind.Mutex owner) is d k = tt
        kind_after a (kind.Pipe p) is d k = (
          omega (arith, k.0, holders_aside (object_number a) (λ e. d (omega arith))),
          omega (arith, k.1, holders_aside (object_number a + 1) (λ e. d (omega arith))),
        )
        kind_after a (kind.Process v s) is d k = λ j e. elim (old_or_new j v e) [
          | inl old ↦ k j old
          | inr new ↦
              let it = sound.state.formed.object (object_number a) (ProcessObject v) is in
              absurd (not_none (process_of ps m.processes.next) it.0
              (ap (process_of ps) (sym new.1) ∙ it.1)
              (process_of-next (posted_in m.posted.items) (placed_in m.placed.items) m.processes sound.table))
        ]
        kind_after a (kind.Terminal terminal) is d k = tt

        held_after : (a : ℕ) (kept : HeldObject Kind) → object_at m'.objects a ≡ Some kept
            → IsHeld m'.processes.slots (view_of m').win32.processes m'.section (object_number a) kept
        held_after a kept e =
            elim (cases_eq (a / 2) (o / 2)) [
              | inl place ↦
                  let number_is : object_number a ≡ o = ap (λ i. 2 * i) place ∙ whole in
                  let f : Some (record { object = kind.Process m.processes.next slot; holders = 1 }) ≡ Some kept =
                  sym added.here ∙ ap (λ i. slice_index_or m'.objects.places i None) (sym place) ∙ e in
                  let g : record { object = kind.Process m.processes.next slot; holders = 1 } ≡ kept = cc in
                  rw number_is (subst (IsHeld m'.processes.slots (view_of m').win32.processes m'.section o) g
                  (record {
                    holders = omega (
                      arith,
                      holders_here,
                      holders_aside (o + 1) (λ n. omega arith),
                      nobody m sound o whole free,
                      listed_few o,
                      listed_few (o + 1),
                    );
                    kind = λ k i. elim (old_or_new k m.processes.next i) [
                      | inl old ↦ absurd (omega (arith, sound.table.numbers.below k m.processes.next old))
                      | inr new ↦ new.0
                    ];
                  }))
              | inr d ↦ by_old d (object_at m.objects a) refl (sym (holds a) ∙ sym (added.others a d) ∙ e)
            ]
          where
            by_old : a / 2 ≢ o / 2 → (x : Option (HeldObject Kind)) → object_at m.objects a ≡ x
                → kept_with (holders_of listed (object_number a)) (holders_of listed (object_number a + 1))
                (object_at m.objects a) ≡ Some kept
                → IsHeld m'.processes.slots (view_of m').win32.processes m'.section (object_number a) kept
            by_old d None f g =
                absurd (let i : None ≡ Some kept = sym (ap (kept_with (holders_of listed (object_number a))
                (holders_of listed (object_number a + 1))) f) ∙ g in cc)
            by_old d (Some was) f g =
                let i : kept_with (holders_of listed (object_number a)) (holders_of listed (object_number a + 1))
                (Some was) ≡ Some kept = sym (ap (kept_with (holders_of listed (object_number a))
                (holders_of listed (object_number a + 1))) f) ∙ g in
                let j : record {
                  object = kind_with (holders_of listed (object_number a)) (holders_of listed (object_number a + 1))
                      was.object;
                  holders = was.holders
                      + (holders_of listed (object_number a) + holders_of listed (object_number a + 1));
                } ≡ kept = cc in
                let old = sound.held a was f in
                subst (IsHeld m'.processes.slots (view_of m').win32.processes m'.section (object_number a)) j
                (record {
                  holders = omega (
                    arith,
                    old.holders,
                    holders_aside (object_number a) (λ n. d (omega arith)),
                    holders_aside (object_number a + 1) (λ n. d (omega arith)),
                  );
                  kind = kind_after a was.object
                      (object_of-named shown m.objects a ∙ ap (object_shown shown) f) d old.kind;
                })

        same_length : length m'.processes.slots ≡ length m.processes.slots
        same_length =
            ap (λ (t : processes.Table). length t.slots) procs
            ∙ length-set {A = Place} with_process.slots at_slot _
            ∙ length-set {A = Place} m.processes.slots slot mp

        length_opened : length (opened slot m.posted.items) ≡ length m.posted.items
        length_opened =
            length-set {A = Call} _ (3 * slot + 2) opening_call ∙ length-set {A = Call} _ (3 * slot + 1) opening_call
            ∙ length-set {A = Call} m.posted.items (3 * slot) opening_call

        pub made-sound : slice_get m.script.setup.programs number ≡ Some program
            → is_full (handles_by (view_of m).win32 w) 1 ≡ false
            → IsSound m'
        made-sound wanted room = record {
          state = subst (λ x. IsWellFormed x (view_of m').win32) (sym script)
              (wellformed-made m.script (view_of m).win32 w (its_process m sound at_slot w stands) sound.state
              (found m sound at_slot w stands) refl slot number program list (reply.Made h m.processes.next)
              (view_of m').win32 wanted
              (lowest-free (posted_in m.posted.items) (placed_in m.placed.items) m.processes sound.table
              m.script.setup.limits.slots slot sound.slots lowest) room is-made);
          table = table_after;
          slots = same_length ∙ sound.slots
              ∙ ap (λ (x : Script). x.setup.limits.slots + 1) (sym script);
          posted = omega (arith, ap (λ (xs : List Call). length xs) posts, length_opened, sound.posted, same_length);
          placed = omega (
            arith,
            ap (λ (xs : List (List PlacedModule)). length xs) places,
            length-set {A = List PlacedModule} m.placed.items slot [],
            sound.placed,
            same_length,
          );
          held = held_after;
          room = omega (
            arith,
            ap (λ (xs : List NumberedObject). length xs) shows,
            length-add o (ProcessObject m.processes.next) (objects_of shown m.objects.places),
            sound.room,
            held_spare,
            left_spare,
          );
          keys = omega (arith, ap (λ (x : Script). key_lines x.directives) script, keys_room, sound.keys);
        }
