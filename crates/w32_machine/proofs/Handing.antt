-- A handle more of a caller: the tables show the state with it, and stay sound.
use Rattle.std.proofs.Common.{◌≡◌, ◌∙◌, inl, inr, ℕ, ◌+◌, ◌*◌, ◌/◌, ◌%◌, ◌≤◌, ◌<◌, Bool, false, nat_eq}
use Rattle.std.proofs.Common.{if◌then◌else◌, List, length, Option, Some, None, slice_index_or, refl, sym, ap, subst}
use Rattle.std.proofs.Common.{arith}
use Rattle.std.proofs.lemmas.Bool.{cases_eq}
use Rattle.std.proofs.lemmas.List.{length-set}
use Rattle.w32_base.specs.declared.call.Call.TheVariants as call
use Rattle.w32_base.specs.declared.call.Reply.TheVariants as reply
use Rattle.win32_spec.specs.Handles.{Handle, with_handle, IsLowestFree}
use Rattle.win32_spec.specs.State.{NumberedObject, Process}
use Rattle.win32_spec.specs.Lookup.{object_number}
use Rattle.win32_spec.specs.Lookup.{object_of, change_process}
use Rattle.win32_spec.specs.Lookup.{with_handles as with_state_handles}
use Rattle.win32_spec.specs.Named.{handles_by, is_full}
use Rattle.win32_spec.specs.Pipes.{all_holders_of}
use Rattle.win32_spec.specs.WellFormed.{IsListed, IsWellFormed}
use Rattle.win32_spec.specs.Effects.{Opens}
use Rattle.win32_spec.specs.FormedLaws.{from_listed}
use Rattle.win32_spec.specs.HandleLaws.{has_room}
use Rattle.win32_spec.specs.LookupLaws.{same, differs, not_none}
use Rattle.w32_handles.specs.Counted.{all_holders_on}
use Rattle.w32_handles.specs.CountLaws.{all_holders-open, is_on}
use Rattle.w32_handles.specs.Shown.{object_shown, objects_of}
use Rattle.w32_handles.specs.ShownLaws.{object_of-named}
use Rattle.w32_handles.specs.PlaceLaws.{objects-stay}
use Rattle.w32_handles.specs.Table.{HeldObject, Table, object_at, Changes}
use Rattle.w32_process.specs.ChangeLaws.{processes-with_handles}
use Rattle.w32_process.specs.Places.{Place}
use Rattle.w32_process.specs.RoomLaws.{holders-room}
use Rattle.w32_process.specs.SoundLaws.{number_at-set_kept, IsSound-same, within_slots}
use Rattle.w32_process.specs.Table.{place_at, number_at, with_handles}
use Rattle.w32_sync.specs.declared.pipe.PipeEnd.{PipeEnd}
use Rattle.w32_sync.specs.declared.pipe.PipeEnd.TheVariants.{Read, Write}
use Rattle.w32_machine.specs.Contract.{IsCaller}
use Rattle.w32_machine.specs.Ending.{end_by}
use Rattle.w32_machine.specs.Handing.{held_more, held_by, MayBeHeld}
use Rattle.w32_kinds.specs.Kinds.{ends_on, with_ends}
use Rattle.w32_machine.specs.declared.caller.Caller.{Caller}
use Rattle.w32_kinds.specs.declared.kind.Kind.{Kind}
use Rattle.w32_kinds.specs.declared.kind.Kind.TheVariants as kind
use Rattle.w32_machine.specs.declared.machine.Machine.TheInside.{Inside}
use Rattle.w32_machine.specs.Running.{Running}
use Rattle.w32_kinds.specs.Shown.{shown}
use Rattle.w32_machine.specs.View.{posted_in, placed_in, view_of}
use Rattle.w32_machine.specs.Sound.{IsKind, IsHeld, IsSound}
use Rattle.w32_machine.proofs.Slots.{its_process, found, caller-at, handles_at}
use Rattle.w32_machine.proofs.Called.{formed-effect}

-- what the code keeps of an object, over processes with the same numbers and as many handles on it
pub kind-aside : (slots slots' : List Place) (ps ps' : List Process) (section o : ℕ) (x : Kind)
    → ((k : ℕ) → number_at slots' k ≡ number_at slots k) → all_holders_of ps' o ≡ all_holders_of ps o
    → all_holders_of ps' (o + 1) ≡ all_holders_of ps (o + 1)
    → IsKind slots ps section o x → IsKind slots' ps' section o x
kind-aside slots slots' ps ps' section o (kind.Section words) numbers first second h = h
kind-aside slots slots' ps ps' section o (kind.Event e) numbers first second h = tt
kind-aside slots slots' ps ps' section o (kind.Mutex owner) numbers first second h = tt
kind-aside slots slots' ps ps' section o (kind.Pipe p) numbers first second h = (h.0 ∙ sym first, h.1 ∙ sym second)
kind-aside slots slots' ps ps' section o (kind.Process w slot) numbers first second h = λ k e. h k (sym (numbers k) ∙ e)
kind-aside slots slots' ps ps' section o (kind.Terminal terminal) numbers first second h = tt

-- an object with a holder more shows as it did
shown-more : (x : Kind) (end : PipeEnd) (n : ℕ) → shown (with_ends x end n) ≡ shown x
shown-more (kind.Pipe p) Read n = refl
shown-more (kind.Pipe p) Write n = refl
shown-more (kind.Section words) end n = refl
shown-more (kind.Event e) end n = refl
shown-more (kind.Mutex owner) end n = refl
shown-more (kind.Process w slot) end n = refl
shown-more (kind.Terminal terminal) end n = refl

-- over processes with a handle more on it
kind-more : (slots slots' : List Place) (ps ps' : List Process) (section names : ℕ) (x : Kind)
    → ((k : ℕ) → number_at slots' k ≡ number_at slots k)
    → ((q : ℕ) → all_holders_of ps' q ≡ all_holders_of ps q + (if nat_eq names q then 1 else 0))
    → IsKind slots ps section (object_number names) x
    → IsKind slots' ps' section (object_number names)
    (with_ends x (end_by names) (ends_on x (end_by names) + 1))
kind-more slots slots' ps ps' section names (kind.Pipe p) numbers more h =
    let n : ℕ = object_number names in
    let first = more n in
    let second = more (n + 1) in
    elim (cases_eq (names % 2) 0) [
      | inl e ↦
          let s = same (names % 2) 0 e in
          let a = same names n (omega arith) in
          let b = differs names (n + 1) (λ d. omega arith) in
          let f : all_holders_of ps' n ≡ all_holders_of ps n + 1 = rw a at first in
          let g : all_holders_of ps' (n + 1) ≡ all_holders_of ps (n + 1) + 0 = rw b at second in
          rw s (omega (arith, h.0, f), omega (arith, h.1, g))
      | inr d ↦
          let s = differs (names % 2) 0 d in
          let a = differs names n (λ e. omega arith) in
          let b = same names (n + 1) (omega arith) in
          let f : all_holders_of ps' n ≡ all_holders_of ps n + 0 = rw a at first in
          let g : all_holders_of ps' (n + 1) ≡ all_holders_of ps (n + 1) + 1 = rw b at second in
          rw s (omega (arith, h.0, f), omega (arith, h.1, g))
    ]
kind-more slots slots' ps ps' section names (kind.Section words) numbers more h = h
kind-more slots slots' ps ps' section names (kind.Event e) numbers more h = tt
kind-more slots slots' ps ps' section names (kind.Mutex owner) numbers more h = tt
kind-more slots slots' ps ps' section names (kind.Process w slot) numbers more h = λ k e. h k (sym (numbers k) ∙ e)
kind-more slots slots' ps ps' section names (kind.Terminal terminal) numbers more h = tt

-- no more handles on an end than holders
ends-few : (slots : List Place) (ps : List Process) (section n : ℕ) (x : Kind) (end : PipeEnd)
    → IsKind slots ps section n x → all_holders_on ps n < 4160 → ends_on x end < 4160
ends-few slots ps section n (kind.Pipe p) Read h few = omega (arith, h.0, few)
ends-few slots ps section n (kind.Pipe p) Write h few = omega (arith, h.1, few)
ends-few slots ps section n (kind.Section words) end h few = omega arith
ends-few slots ps section n (kind.Event e) end h few = omega arith
ends-few slots ps section n (kind.Mutex owner) end h few = omega arith
ends-few slots ps section n (kind.Process w slot) end h few = omega arith
ends-few slots ps section n (kind.Terminal terminal) end h few = omega arith

module _ (m : Inside) (sound : IsSound m) (now : Running) (shows : view_of m ≡ now) (by : Caller)
    (caller : IsCaller now.win32 by) where
  pub stands : number_at m.processes.slots by.slot ≡ Some by.process
  stands = caller-at m sound now shows by.slot by.process caller.process

  abbrev pub its_handles : List Handle
  its_handles = (place_at m.processes.slots by.slot).handles

  pub handles-are : its_handles ≡ handles_by now.win32 by.process
  handles-are =
      sym (handles_at m sound by.slot by.process stands)
      ∙ ap (λ (r : Running). handles_by r.win32 by.process) shows

  pub some-room : is_full (handles_by now.win32 by.process) 1 ≡ false → length its_handles + 1 ≤ 64
  some-room e =
      has_room its_handles 1 (ap (λ hs. is_full hs 1) handles-are ∙ e)

  -- what a listed number names is in the table, and may be held once more
  pub kept-at : (names : ℕ) → IsListed now.win32.objects names
      → (kept : HeldObject Kind) × (object_at m.objects names ≡ Some kept)
  kept-at names listed = by_answer (object_at m.objects names) refl
    where
      by_answer : (o : Option (HeldObject Kind)) → object_at m.objects names ≡ o
          → (kept : HeldObject Kind) × (object_at m.objects names ≡ Some kept)
      by_answer (Some kept) e = (kept, e)
      by_answer None e =
          let f = from_listed now.win32.objects names listed in
          absurd (not_none (object_of now.win32.objects (object_number names)) f.0 f.1
          (ap (λ (r : Running). object_of r.win32.objects (object_number names)) (sym shows)
          ∙ object_of-named shown m.objects names ∙ ap (object_shown shown) e))

  pub may-hold : (names : ℕ) → IsListed now.win32.objects names → is_full (handles_by now.win32 by.process) 1 ≡ false
      → MayBeHeld names (object_at m.objects names)
  may-hold names listed room =
      let at = kept-at names listed in
      let its = sound.held names at.0 at.1 in
      let few = holders-room m.script (posted_in m.posted.items) (placed_in m.placed.items) shown m.processes
      sound.table m.objects.places m.keys.items sound.state by.slot by.process 1 stands (some-room room)
      (object_number names) (omega arith) in
      subst (MayBeHeld names) (sym at.1) (
        omega (arith, its.holders, few),
        ends-few m.processes.slots (view_of m).win32.processes m.section (object_number names) at.0.object
            (end_by names) its.kind (omega (arith, few)),
      )

  -- The tables with a handle more of the caller, and other objects.
  module _ (h names : ℕ) (objects : Table Kind) where
    abbrev pub handed : Inside
    handed = record m {
      objects = objects;
      processes = with_handles m.processes by.slot (with_handle its_handles h names);
    }

    within : by.slot < length m.processes.slots
    within = within_slots m.processes.slots by.slot by.process stands

    processes-are : (view_of handed).win32.processes ≡
        change_process by.process (λ p. record p { handles = with_handle its_handles h names })
        (view_of m).win32.processes
    processes-are =
        processes-with_handles (posted_in m.posted.items) (placed_in m.placed.items) m.processes sound.table by.slot
        by.process stands (with_handle its_handles h names)

    pub holders-are : (q : ℕ) → all_holders_of (view_of handed).win32.processes q ≡
        all_holders_of (view_of m).win32.processes q + (if nat_eq names q then 1 else 0)
    holders-are q =
        ap (λ ps. all_holders_of ps q) processes-are
        ∙ all_holders-open 1 m.processes.next (view_of m).win32.processes by.process
        (its_process m sound by.slot by.process stands) sound.state.formed.processes
        (found m sound by.slot by.process stands) refl h names q

    pub numbers-are : (k : ℕ) → number_at handed.processes.slots k ≡ number_at m.processes.slots k
    numbers-are k =
        number_at-set_kept m.processes.slots by.slot k
        (record (place_at m.processes.slots by.slot) { handles = with_handle its_handles h names }) within refl

    as-many : length handed.processes.slots ≡ length m.processes.slots
    as-many = length-set {A = Place} m.processes.slots by.slot
        (record (place_at m.processes.slots by.slot) { handles = with_handle its_handles h names })

    -- what they show, by their objects
    pub handed-is : (xs : List NumberedObject) → objects_of shown objects.places ≡ xs
        → (view_of handed).win32 ≡
        with_state_handles (record now.win32 { objects = xs }) by.process
        (with_handle (handles_by now.win32 by.process) h names)
    handed-is xs e =
        ap (λ (ps : List Process). record (view_of handed).win32 { processes = ps }) processes-are
        ∙ ap (λ (ys : List NumberedObject). with_state_handles (record (view_of m).win32 { objects = ys }) by.process
        (with_handle its_handles h names)) e
        ∙ ap (λ (hs : List Handle). with_state_handles (record (view_of m).win32 { objects = xs }) by.process
        (with_handle hs h names)) handles-are
        ∙ ap (λ (r : Running). with_state_handles (record r.win32 { objects = xs }) by.process
        (with_handle (handles_by now.win32 by.process) h names)) shows

    -- they stay sound, by the object that the handle names
    pub handed-sound : (kept : HeldObject Kind) → Changes m.objects objects names (Some kept)
        → IsHeld handed.processes.slots (view_of handed).win32.processes m.section (object_number names) kept
        → 4160 ≤ length (objects_of shown objects.places) + objects.spare
        → IsWellFormed m.script (view_of handed).win32 → IsSound handed
    handed-sound kept change its room formed = record {
      state = formed;
      table = IsSound-same m.processes.next m.processes.slots m.processes.kept by.slot
          (record (place_at m.processes.slots by.slot) { handles = with_handle its_handles h names }) within refl
          sound.table;
      slots = as-many ∙ sound.slots;
      posted = sound.posted ∙ ap (λ n. 3 * n) (sym as-many);
      placed = sound.placed ∙ sym as-many;
      held = held_after;
      room = room;
      keys = sound.keys;
    }
      where
        held_after : (a : ℕ) (k : HeldObject Kind) → object_at objects a ≡ Some k
            → IsHeld handed.processes.slots (view_of handed).win32.processes m.section (object_number a) k
        held_after a k e =
            elim (cases_eq (a / 2) (names / 2)) [
              | inr d ↦
                  let n : ℕ = object_number a in
                  let old = sound.held a k (sym (change.others a d) ∙ e) in
                  let s = differs names n (λ i. d (omega (arith, i))) in
                  let t = differs names (n + 1) (λ i. d (omega (arith, i))) in
                  let first : all_holders_of (view_of handed).win32.processes n ≡
                  all_holders_of (view_of m).win32.processes n + 0 = rw s at (holders-are n) in
                  let second : all_holders_of (view_of handed).win32.processes (n + 1) ≡
                  all_holders_of (view_of m).win32.processes (n + 1) + 0 = rw t at (holders-are (n + 1)) in
                  record {
                    holders = omega (arith, old.holders, first, second);
                    kind = kind-aside m.processes.slots handed.processes.slots (view_of m).win32.processes
                        (view_of handed).win32.processes m.section n k.object numbers-are (omega (arith, first))
                        (omega (arith, second)) old.kind;
                  }
              | inl i ↦
                  let there : object_at objects a ≡ object_at objects names =
                  ap (λ j. slice_index_or objects.places j None) i in
                  let f : Some kept ≡ Some k = sym change.here ∙ sym there ∙ e in
                  let g : kept ≡ k = cc in
                  let number : object_number a ≡ object_number names = ap (λ j. 2 * j) i in
                  rw number (subst (IsHeld handed.processes.slots (view_of handed).win32.processes m.section
                  (object_number names)) g its)
            ]

    -- The object is held once more.
    module _ (kept : HeldObject Kind) (was : object_at m.objects names ≡ Some kept)
        (change : Changes m.objects objects names (held_by names (object_at m.objects names)))
        (spare : objects.spare ≡ m.objects.spare) where
      more : Changes m.objects objects names (Some (held_more names kept))
      more = subst (λ o. Changes m.objects objects names (held_by names o)) was change

      objects-are : objects_of shown objects.places ≡ objects_of shown m.objects.places
      objects-are =
          objects-stay shown m.objects objects names (Some (held_more names kept)) more
          (ap Some (shown-more kept.object (end_by names) (ends_on kept.object (end_by names) + 1))
          ∙ sym (ap (object_shown shown) was))

      objects-now : objects_of shown objects.places ≡ now.win32.objects
      objects-now = objects-are ∙ ap (λ (r : Running). r.win32.objects) shows

      pub held-after : (view_of handed).win32 ≡
          with_state_handles now.win32 by.process (with_handle (handles_by now.win32 by.process) h names)
      held-after = handed-is now.win32.objects objects-now

      its : IsHeld handed.processes.slots (view_of handed).win32.processes m.section (object_number names)
          (held_more names kept)
      its =
          let n : ℕ = object_number names in
          let old = sound.held names kept was in
          let one : (if nat_eq names n then 1 else 0) + (if nat_eq names (n + 1) then 1 else 0) ≡ 1 =
          is_on names n (omega arith) ∙ ap (λ (b : Bool). if b then 1 else 0) (same n n refl) in
          record {
            holders = omega (arith, old.holders, holders-are n, holders-are (n + 1), one);
            kind = kind-more m.processes.slots handed.processes.slots (view_of m).win32.processes
                (view_of handed).win32.processes m.section names kept.object numbers-are holders-are old.kind;
          }

      pub held-sound : is_full (handles_by now.win32 by.process) 1 ≡ false
          → IsLowestFree (handles_by now.win32 by.process) h → IsListed now.win32.objects names → IsSound handed
      held-sound room lowest listed =
          handed-sound (held_more names kept) more its
          (omega (arith, sound.room, spare, ap (λ (xs : List NumberedObject). length xs) objects-are))
          (formed-effect m sound now shows by caller by.thread caller.thread call.Pipe (view_of handed).win32
          (Opens names listed room reply.Handle (reply.Handle h)
          (record { handle = h; lowest = lowest; answered = refl; after = held-after })))
