-- A process that is made in the tables: they show the state with it.
use Rattle.std.proofs.Common.{◌≡◌, ◌≢◌, ◌∙◌, inl, inr, ℕ, ◌+◌, ◌*◌, ◌%◌, ◌<◌}
use Rattle.std.proofs.Common.{List, [], length, Option, Some, None}
use Rattle.std.proofs.Common.{slice_index_or, slice_set, refl, sym, ap, subst, arith}
use Rattle.std.specs.VecDeque.{deque_capacity}
use Rattle.std.proofs.lemmas.Bool.{cases_lt}
use Rattle.std.proofs.lemmas.List.{length-set, get_or-set_same, get_or-set_other}
use Rattle.w32_base.specs.declared.call.Call.{Call}
use Rattle.w32_base.specs.declared.call.Reply.TheVariants as reply
use Rattle.w32_base.specs.declared.setup.Program.{Program}
use Rattle.win32_spec.specs.Handles.{Handle, with_handle, listed_handles, holders_of}
use Rattle.win32_spec.specs.Handles.{IsLowestFree}
use Rattle.win32_spec.specs.State.{ProcessObject, Process}
use Rattle.win32_spec.specs.Lookup.{object_number, add_object}
use Rattle.win32_spec.specs.Lookup.{with_handles}
use Rattle.win32_spec.specs.Making.{opening_call, new_process}
use Rattle.win32_spec.specs.ProcessCalls.{with_made, IsMade}
use Rattle.win32_spec.specs.LookupLaws.{before, not_before}
use Rattle.w32_handles.specs.Table.{HeldObject, Table, object_at, Changes}
use Rattle.w32_handles.specs.Shown.{object_shown, objects_of}
use Rattle.w32_handles.specs.ShownLaws.{are_same, rising-objects, object_of-place}
use Rattle.w32_handles.specs.PlaceLaws.{at_place, objects-add, is_fresh}
use Rattle.w32_process.specs.Places.{Place, made_place}
use Rattle.w32_process.specs.Table as processes
use Rattle.w32_process.specs.Table.{place_at, number_at, IsLowestEmpty}
use Rattle.w32_process.specs.SoundLaws.{number_at-set_other}
use Rattle.w32_process.specs.MadeLaws.{KnowsMade}
use Rattle.w32_process.specs.StateMade.{state-made}
use Rattle.w32_process.specs.ClosedLaws.{state_of}
use Rattle.w32_kinds.specs.declared.kind.Kind.{Kind}
use Rattle.w32_kinds.specs.declared.kind.Kind.TheVariants as kind
use Rattle.w32_machine.specs.declared.machine.Machine.TheInside.{Inside}
use Rattle.w32_kinds.specs.Shown.{shown}
use Rattle.w32_machine.specs.View.{posted_in, placed_in, view_of}
use Rattle.w32_machine.specs.Sound.{IsSound}
use Rattle.w32_machine.specs.Creating.{kind_with, kept_with, HoldsEach, opened}
use Rattle.w32_machine.proofs.Slots.{handles_at}

shown-with : (a b : ℕ) (x : Option (HeldObject Kind)) → object_shown shown (kept_with a b x) ≡ object_shown shown x
shown-with a b None = refl
shown-with a b (Some kept) = ap Some (by_kind kept.object)
  where
    by_kind : (x : Kind) → shown (kind_with a b x) ≡ shown x
    by_kind (kind.Pipe p) = refl
    by_kind (kind.Section words) = refl
    by_kind (kind.Event e) = refl
    by_kind (kind.Mutex owner) = refl
    by_kind (kind.Process w slot) = refl
    by_kind (kind.Terminal terminal) = refl

module _ (m : Inside) (sound : IsSound m) (at_slot w : ℕ) (stands : number_at m.processes.slots at_slot ≡ Some w)
    (list : List ℕ) where
  abbrev hs : List Handle
  hs = (place_at m.processes.slots at_slot).handles

  abbrev listed : List Handle
  listed = listed_handles hs list

  abbrev ps : List Process
  ps = (view_of m).win32.processes

  -- a process in the lowest empty slot
  module _ (slot : ℕ) (lowest : IsLowestEmpty m.processes.slots slot) (number : ℕ) (program : Program) where
    abbrev mp : Place
    mp = made_place m.processes.next number program listed

    abbrev new_p : Process
    new_p = new_process m.processes.next slot number program 1 listed

    aside : at_slot ≢ slot
    aside n = let g : Some w ≡ None = sym stands ∙ ap (number_at m.processes.slots) n ∙ lowest.empty in cc

    abbrev pub with_process : processes.Table
    with_process = processes.with_made m.processes slot number program listed

    pub still_stands : number_at with_process.slots at_slot ≡ Some w
    still_stands = number_at-set_other m.processes.slots slot at_slot mp aside ∙ stands

    pub still_handles : (place_at with_process.slots at_slot).handles ≡ hs
    still_handles = ap (λ (p : Place). p.handles) (get_or-set_other m.processes.slots slot at_slot mp _ aside)

    -- with a handle of its maker on it
    module _ (o h : ℕ) where
      abbrev pub with_both : processes.Table
      with_both = processes.with_handles with_process at_slot (with_handle hs h o)

      module _ (m' : Inside) (script : m'.script ≡ m.script) (procs : m'.processes ≡ with_both)
          (section : m'.section ≡ m.section) (posts : m'.posted.items ≡ opened slot m.posted.items)
          (places : m'.placed.items ≡ slice_set m.placed.items slot []) (keys : m'.keys.items ≡ m.keys.items)
          (keys_room : deque_capacity m'.keys ≡ deque_capacity m.keys) (held : Table Kind)
          (holds : HoldsEach listed m.objects held) (held_spare : held.spare ≡ m.objects.spare) (even : o % 2 ≡ 0)
          (unused : object_at held o ≡ None)
          (added : Changes held m'.objects o (Some (record {
            object = kind.Process m.processes.next slot;
            holders = 1;
          })))
          (left_spare : m'.objects.spare + 1 ≡ held.spare) (lowest_h : IsLowestFree hs h) where
        pub whole : object_number o ≡ o
        whole = omega (arith, even)

        abbrev calls : List Call
        calls = m.posted.items

        abbrev c1 : List Call
        c1 = slice_set calls (3 * slot) opening_call

        abbrev c2 : List Call
        c2 = slice_set c1 (3 * slot + 1) opening_call

        -- what is known of its threads and modules
        known : KnowsMade (posted_in m.posted.items) (posted_in m'.posted.items) (placed_in m.placed.items)
            (placed_in m'.placed.items) slot
        known = record {
          first =
              ap (λ xs. slice_index_or xs (3 * slot + 0) opening_call) posts
              ∙ get_or-set_other c2 (3 * slot + 2) (3 * slot + 0) opening_call opening_call (λ e. omega arith)
              ∙ get_or-set_other c1 (3 * slot + 1) (3 * slot + 0) opening_call opening_call (λ e. omega arith)
              ∙ ap (λ i. slice_index_or c1 i opening_call) (let z : 3 * slot + 0 ≡ 3 * slot = omega arith in z)
              ∙ get_or-set_same calls (3 * slot) opening_call opening_call (omega (arith, room_for));
          second =
              ap (λ xs. slice_index_or xs (3 * slot + 1) opening_call) posts
              ∙ get_or-set_other c2 (3 * slot + 2) (3 * slot + 1) opening_call opening_call (λ e. omega arith)
              ∙ get_or-set_same c1 (3 * slot + 1) opening_call opening_call
              (omega (arith, room_for, length-set {A = Call} calls (3 * slot) opening_call));
          third =
              ap (λ xs. slice_index_or xs (3 * slot + 2) opening_call) posts
              ∙ get_or-set_same c2 (3 * slot + 2) opening_call opening_call
              (omega (
                arith,
                room_for,
                length-set {A = Call} calls (3 * slot) opening_call,
                length-set {A = Call} c1 (3 * slot + 1) opening_call,
              ));
          no_module =
              ap (λ xs. slice_index_or xs slot []) places
              ∙ get_or-set_same m.placed.items slot [] [] (omega (arith, sound.placed, lowest.within));
          posted_aside = others;
          placed_aside = λ k d.
              ap (λ xs. slice_index_or xs k []) places ∙ get_or-set_other m.placed.items slot k [] [] d;
        }
          where
            room_for : 3 * slot + 2 < length calls
            room_for = omega (arith, sound.posted, lowest.within)

            others : (k u : ℕ) → k ≢ slot → posted_in m'.posted.items k u ≡ posted_in m.posted.items k u
            others k u d =
                elim (cases_lt u 3) [
                  | inl l ↦
                      let b = before u 3 l in
                      rw b (ap (λ xs. slice_index_or xs (3 * k + u) opening_call) posts
                      ∙ get_or-set_other c2 (3 * slot + 2) (3 * k + u) opening_call opening_call
                      (λ e. d (omega (arith, e, l)))
                      ∙ get_or-set_other c1 (3 * slot + 1) (3 * k + u) opening_call opening_call
                      (λ e. d (omega (arith, e, l)))
                      ∙ get_or-set_other calls (3 * slot) (3 * k + u) opening_call opening_call
                      (λ e. d (omega (arith, e, l))))
                  | inr l ↦ let b = not_before u 3 l in rw b refl
                ]

        -- its object
        pub free : object_at m.objects o ≡ None
        free = by_answer (object_at m.objects o) refl
          where
            by_answer : (x : Option (HeldObject Kind)) → object_at m.objects o ≡ x → x ≡ None
            by_answer None e = refl
            by_answer (Some was) e =
                let f = holds o ∙ ap (kept_with (holders_of listed (object_number o))
                (holders_of listed (object_number o + 1))) e in
                absurd (let g : None ≡ kept_with (holders_of listed (object_number o))
                (holders_of listed (object_number o + 1)) (Some was) = sym unused ∙ f in cc)

        same_held : objects_of shown held.places ≡ objects_of shown m.objects.places
        same_held =
            are_same shown (objects_of shown held.places) (objects_of shown m.objects.places)
            (rising-objects shown held.places) (rising-objects shown m.objects.places)
            (λ k. object_of-place shown held.places k
            ∙ ap (object_shown shown) (sym (at_place held k) ∙ holds (2 * k))
            ∙ shown-with (holders_of listed (object_number (2 * k))) (holders_of listed (object_number (2 * k) + 1))
            (object_at m.objects (2 * k))
            ∙ ap (object_shown shown) (at_place m.objects k) ∙ sym (object_of-place shown m.objects.places k))

        pub shows : objects_of shown m'.objects.places ≡
            add_object o (ProcessObject m.processes.next) (objects_of shown m.objects.places)
        shows =
            objects-add shown held m'.objects o (Some (record {
              object = kind.Process m.processes.next slot;
              holders = 1;
            })) (ProcessObject m.processes.next) added unused refl
            ∙ ap (λ n. add_object n (ProcessObject m.processes.next) (objects_of shown held.places)) whole
            ∙ ap (add_object o (ProcessObject m.processes.next)) same_held

        pub made-is : (view_of m').win32 ≡
            with_handles (with_made (view_of m).win32 o new_p) w (with_handle hs h o)
        made-is =
            ap (λ (t : processes.Table). state_of (posted_in m'.posted.items) (placed_in m'.placed.items) shown t
            m'.objects.places m'.keys.items) procs
            ∙ ap (state_of (posted_in m'.posted.items) (placed_in m'.placed.items) shown with_both m'.objects.places)
            keys
            ∙ state-made (posted_in m.posted.items) (posted_in m'.posted.items) (placed_in m.placed.items)
            (placed_in m'.placed.items) shown m.processes sound.table m.objects.places m'.objects.places m.keys.items
            slot lowest.within lowest.empty number program listed known o shows at_slot w stands (with_handle hs h o)

        pub is-made : IsMade (view_of m).win32 w slot number program list (reply.Made h m.processes.next)
            (view_of m').win32
        is-made = record {
          number = o;
          fresh = is_fresh shown (view_of m).win32 m.objects o refl even free;
          handled = record {
            handle = h;
            lowest = subst (λ xs. IsLowestFree xs h) (sym (handles_at m sound at_slot w stands)) lowest_h;
            answered = refl;
            after = made-is ∙ ap (λ xs. with_handles (with_made (view_of m).win32 o
                (new_process m.processes.next slot number program 1 (listed_handles xs list))) w
                (with_handle xs h o)) (sym (handles_at m sound at_slot w stands));
          };
        }
