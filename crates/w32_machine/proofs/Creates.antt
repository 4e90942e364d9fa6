-- `create` in the tables.
use Rattle.std.proofs.Common.{◌≡◌, ◌∙◌, ℕ, ◌+◌, ◌%◌, ◌≤◌, ◌<◌, false, List, [], length, Option, Some, None}
use Rattle.std.proofs.Common.{IsSome, slice_get, slice_set, sym, ap, subst, arith, true≢false}
use Rattle.std.specs.VecDeque.{deque_capacity}
use Rattle.w32_base.specs.declared.call.Reply.TheVariants as reply
use Rattle.w32_base.specs.declared.setup.Program.{Program}
use Rattle.win32_spec.specs.Handles.{Handle, with_handle, listed_handles, IsLowestFree}
use Rattle.win32_spec.specs.State.{PlacedModule}
use Rattle.win32_spec.specs.Lookup.{number_of, number_in, IsLowestFreeSlot}
use Rattle.win32_spec.specs.Named.{handles_by, has_absent, is_full}
use Rattle.win32_spec.specs.HandleLaws.{has_room}
use Rattle.win32_spec.specs.ProcessCalls.{CreateStep}
use Rattle.w32_handles.specs.Table.{Table, object_at, Changes}
use Rattle.w32_process.specs.Table as processes
use Rattle.w32_process.specs.Table.{place_at, number_at, IsLowestEmpty}
use Rattle.w32_process.specs.RoomLaws.{objects-room}
use Rattle.w32_process.specs.StateMade.{lowest-free}
use Rattle.w32_machine.specs.Contract.{IsCaller}
use Rattle.w32_machine.specs.declared.caller.Caller.{Caller}
use Rattle.w32_kinds.specs.declared.kind.Kind.{Kind}
use Rattle.w32_kinds.specs.declared.kind.Kind.TheVariants as kind
use Rattle.w32_machine.specs.declared.machine.Machine.TheInside.{Inside}
use Rattle.w32_machine.specs.Running.{Running}
use Rattle.w32_kinds.specs.Shown.{shown}
use Rattle.w32_machine.specs.View.{posted_in, placed_in, view_of}
use Rattle.w32_machine.specs.Sound.{IsSound}
use Rattle.w32_machine.specs.Creating.{HoldsEach, HaveRoom, opened}
use Rattle.w32_machine.proofs.Slots.{caller-at, handles_at, is_there, number_in-at}
use Rattle.w32_machine.proofs.CreateSteps.{made-step}
use Rattle.w32_machine.proofs.CreateRoom.{have-room}
use Rattle.w32_machine.proofs.Created.{with_process, still_stands, still_handles, with_both}
use Rattle.w32_machine.proofs.Created.{whole, free, shows, made-is}
use Rattle.w32_machine.proofs.Created.{is-made}
use Rattle.w32_machine.proofs.CreatedSound.{made-sound}

module _ (m : Inside) (sound : IsSound m) (now : Running) (view : view_of m ≡ now) (by : Caller)
    (caller : IsCaller now.win32 by) (list : List ℕ) where
  pub at : number_at m.processes.slots by.slot ≡ Some by.process
  at = caller-at m sound now view by.slot by.process caller.process

  pub has_process : IsSome (number_at m.processes.slots by.slot)
  has_process = is_there (number_at m.processes.slots by.slot) by.process at

  module _ (hs : List Handle) (its : hs ≡ (place_at m.processes.slots by.slot).handles) where
    pub handles_now : handles_by now.win32 by.process ≡ hs
    handles_now =
        ap (λ (r : Running). handles_by r.win32 by.process) (sym view)
        ∙ handles_at m sound by.slot by.process at ∙ sym its

    pub room-for : is_full (handles_by now.win32 by.process) 1 ≡ false
        → length (place_at m.processes.slots by.slot).handles + 1 ≤ 64
    room-for e =
        has_room (place_at m.processes.slots by.slot).handles 1
        (ap (λ xs. is_full xs 1) (sym (handles_now ∙ its)) ∙ e)

    pub spare-for : is_full (handles_by now.win32 by.process) 1 ≡ false → (held : Table Kind)
        → held.spare ≡ m.objects.spare → 0 < held.spare
    spare-for e held same_spare =
        omega (
          arith,
          same_spare,
          sound.room,
          objects-room m.script (posted_in m.posted.items) (placed_in m.placed.items) shown m.processes sound.table
              m.objects.places m.keys.items sound.state by.slot by.process 1 at (room-for e),
        )

    -- a slot that is free
    module _ (k : ℕ) (open_slot : IsLowestFreeSlot now.script.setup.limits.slots now.win32.processes k) where
      within : k < length m.processes.slots
      within = omega (
        arith,
        open_slot.most,
        sound.slots,
        ap (λ (r : Running). r.script.setup.limits.slots) view,
      )

      empty : number_at m.processes.slots k ≡ None
      empty =
          sym (number_in-at m sound k) ∙ ap (λ (r : Running). number_in r.win32 k) view ∙ ap number_of open_slot.free

      pub room-listed : (handles : List Handle) → handles ≡ listed_handles hs list → HaveRoom handles m.objects
      room-listed handles kept =
          subst (λ xs. HaveRoom xs m.objects) (sym (kept ∙ ap (λ xs. listed_handles xs list) its))
          (have-room m sound by.slot by.process at list k within empty)

      pub not-all : processes.AreAllOccupied m.processes.slots → ⊥
      not-all all =
          let some : IsSome (number_at m.processes.slots k) = all k open_slot.from_one within in
          true≢false (sym (subst (λ (o : Option ℕ). IsSome o) empty some))

    -- the tables with the process
    module _ (slot : ℕ) (lowest : IsLowestEmpty m.processes.slots slot) (number : ℕ) (program : Program)
        (handles : List Handle) (kept : handles ≡ listed_handles hs list) (made : processes.Table)
        (made_is : made ≡ processes.with_made m.processes slot number program handles) where
      pub is_with : made ≡ with_process m sound by.slot by.process at list slot lowest number program
      is_with =
          made_is
          ∙ ap (processes.with_made m.processes slot number program) (kept ∙ ap (λ xs. listed_handles xs list) its)

      pub stands-after : IsSome (number_at made.slots by.slot)
      stands-after =
          is_there (number_at made.slots by.slot) by.process
          (ap (λ (t : processes.Table). number_at t.slots by.slot) is_with
          ∙ still_stands m sound by.slot by.process at list slot lowest number program)

      module _ (old : List Handle) (old_is : old ≡ (place_at made.slots by.slot).handles) where
        pub same_handles : old ≡ (place_at m.processes.slots by.slot).handles
        same_handles =
            old_is ∙ ap (λ (t : processes.Table). (place_at t.slots by.slot).handles) is_with
            ∙ still_handles m sound by.slot by.process at list slot lowest number program

        pub not-full : is_full (handles_by now.win32 by.process) 1 ≡ false → length old ≡ 64 → ⊥
        not-full e long =
            omega (arith, room-for e, long, ap (λ (xs : List Handle). length xs) same_handles)

        module _ (h o v : ℕ) (more : List Handle) (more_is : more ≡ with_handle old h o) (m' : Inside)
            (script : m'.script ≡ m.script) (procs : m'.processes ≡ processes.with_handles made by.slot more)
            (section : m'.section ≡ m.section) (posts : m'.posted.items ≡ opened slot m.posted.items) (i : ℕ)
            (i_is : i ≡ slot) (none : List PlacedModule) (none_is : none ≡ [])
            (places : m'.placed.items ≡ slice_set m.placed.items i none) (keys : m'.keys ≡ m.keys) (held : Table Kind)
            (holds : HoldsEach handles m.objects held) (held_spare : held.spare ≡ m.objects.spare) (even : o % 2 ≡ 0)
            (unused : object_at held o ≡ None) (v_is : v ≡ m.processes.next)
            (added : Changes held m'.objects o (Some (record { object = kind.Process v slot; holders = 1 })))
            (left_spare : m'.objects.spare + 1 ≡ held.spare) (lowest_h : IsLowestFree old h)
            (wanted : slice_get m.script.setup.programs number ≡ Some program)
            (room : is_full (handles_by now.win32 by.process) 1 ≡ false) where
          procs_is : m'.processes ≡ with_both m sound by.slot by.process at list slot lowest number program o h
          procs_is =
              procs
              ∙ ap (λ (t : processes.Table). processes.with_handles t by.slot more) is_with
              ∙ ap (processes.with_handles (with_process m sound by.slot by.process at list slot lowest number program)
              by.slot) (more_is ∙ ap (λ xs. with_handle xs h o) same_handles)

          places_is : m'.placed.items ≡ slice_set m.placed.items slot []
          places_is =
              places ∙ ap (λ j. slice_set m.placed.items j none) i_is ∙ ap (slice_set m.placed.items slot) none_is

          holds_is : HoldsEach (listed_handles (place_at m.processes.slots by.slot).handles list) m.objects held
          holds_is = subst (λ xs. HoldsEach xs m.objects held) (kept ∙ ap (λ xs. listed_handles xs list) its) holds

          added_is : Changes held m'.objects o (Some (record {
            object = kind.Process m.processes.next slot;
            holders = 1;
          }))
          added_is =
              subst (λ n. Changes held m'.objects o (Some (record { object = kind.Process n slot; holders = 1 }))) v_is
              added

          room_is : is_full (handles_by (view_of m).win32 by.process) 1 ≡ false
          room_is = ap (λ (r : Running). is_full (handles_by r.win32 by.process) 1) view ∙ room

          lowest_is : IsLowestFree (place_at m.processes.slots by.slot).handles h
          lowest_is = subst (λ xs. IsLowestFree xs h) same_handles lowest_h

          pub create-sound : IsSound m'
          create-sound =
              made-sound m sound by.slot by.process at list slot lowest number program o h m' script procs_is section
              posts places_is (ap (λ q. deque_capacity q) keys) held holds_is held_spare added_is left_spare
              (whole m sound by.slot by.process at list slot lowest number program o h m' script procs_is section posts
              places_is (ap (λ q. q.items) keys) (ap (λ q. deque_capacity q) keys) held holds_is held_spare even unused
              added_is left_spare lowest_is)
              (free m sound by.slot by.process at list slot lowest number program o h m' script procs_is section posts
              places_is (ap (λ q. q.items) keys) (ap (λ q. deque_capacity q) keys) held holds_is held_spare even unused
              added_is left_spare lowest_is)
              (shows m sound by.slot by.process at list slot lowest number program o h m' script procs_is section posts
              places_is (ap (λ q. q.items) keys) (ap (λ q. deque_capacity q) keys) held holds_is held_spare even unused
              added_is left_spare lowest_is)
              (made-is m sound by.slot by.process at list slot lowest number program o h m' script procs_is section
              posts places_is (ap (λ q. q.items) keys) (ap (λ q. deque_capacity q) keys) held holds_is held_spare even
              unused added_is left_spare lowest_is)
              (is-made m sound by.slot by.process at list slot lowest number program o h m' script procs_is section
              posts places_is (ap (λ q. q.items) keys) (ap (λ q. deque_capacity q) keys) held holds_is held_spare even
              unused added_is left_spare lowest_is) wanted room_is

          pub create-done : has_absent hs list ≡ false
              → CreateStep now.script now.win32 by.process number list (reply.Made h v) (view_of m').win32
          create-done there =
              subst (λ n. CreateStep now.script now.win32 by.process number list (reply.Made h n) (view_of m').win32)
              (sym v_is)
              (subst (λ (r : Running). CreateStep r.script r.win32 by.process number list
              (reply.Made h m.processes.next) (view_of m').win32) view
              (made-step m.script (view_of m).win32 by.process number list hs
              (handles_at m sound by.slot by.process at ∙ sym its) there program wanted slot
              (lowest-free (posted_in m.posted.items) (placed_in m.placed.items) m.processes sound.table
              m.script.setup.limits.slots slot sound.slots lowest)
              (ap (λ xs. is_full xs 1) (sym (handles_at m sound by.slot by.process at ∙ sym its)) ∙ room_is)
              (reply.Made h m.processes.next) (view_of m').win32
              (is-made m sound by.slot by.process at list slot lowest number program o h m' script procs_is section
              posts places_is (ap (λ q. q.items) keys) (ap (λ q. deque_capacity q) keys) held holds_is held_spare even
              unused added_is left_spare lowest_is)))
