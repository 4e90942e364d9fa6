-- A handle that is closed in the tables: they stay sound.
use Rattle.std.proofs.Common.{◌≡◌, ◌≢◌, ◌∙◌, inl, inr, ℕ, ◌+◌, ◌-◌, ◌*◌, ◌/◌, ◌%◌, ◌≤◌}
use Rattle.std.proofs.Common.{List, length, Option, Some, None}
use Rattle.std.proofs.Common.{slice_index_or, refl, sym, ap, subst, arith}
use Rattle.std.proofs.lemmas.Bool.{cases_eq, cases_lt}
use Rattle.std.proofs.lemmas.List.{length-set}
use Rattle.win32_spec.specs.Handles.{handle_of, without_handle}
use Rattle.win32_spec.specs.State.{NumberedObject, Process, Win32State}
use Rattle.win32_spec.specs.Lookup.{object_number, with_handles}
use Rattle.win32_spec.specs.Ends.{held_objects, swept}
use Rattle.win32_spec.specs.Pipes.{all_holders_of}
use Rattle.win32_spec.specs.WellFormed.{IsWellFormed}
use Rattle.win32_spec.specs.LookupLaws.{same, differs, before, not_before}
use Rattle.win32_spec.specs.KeepLaws.{wellformed-closed}
use Rattle.w32_handles.specs.Table.{HeldObject, Table, object_at, freed}
use Rattle.w32_handles.specs.Shown.{object_shown, objects_of}
use Rattle.w32_handles.specs.ShownLaws.{rising-objects}
use Rattle.w32_handles.specs.PlaceLaws.{objects-stay, objects-drop}
use Rattle.w32_handles.specs.CountLaws.{all_holders-kept}
use Rattle.w32_handles.specs.BoundLaws.{length-without}
use Rattle.w32_process.specs.Places.{Place}
use Rattle.w32_process.specs.Table as processes
use Rattle.w32_process.specs.Table.{place_at, number_at}
use Rattle.w32_process.specs.Sound as process_sound
use Rattle.w32_process.specs.SoundLaws.{IsSound-same, IsSound-forget, within_slots}
use Rattle.w32_kinds.specs.declared.kind.Kind.{Kind}
use Rattle.w32_kinds.specs.declared.kind.Kind.TheVariants as kind
use Rattle.w32_machine.specs.declared.machine.Machine.TheInside.{Inside}
use Rattle.w32_kinds.specs.Shown.{shown}
use Rattle.w32_machine.specs.View.{view_of}
use Rattle.w32_machine.specs.Sound.{IsKind, IsHeld, IsSound}
use Rattle.w32_machine.specs.Ending.{end_by, kind_without, kept_without, LeavesOne, WentWith, Forgets}
use Rattle.w32_machine.proofs.Slots.{its_process, found, handles_at}
use Rattle.w32_machine.proofs.Closing.{shown-without, fewer, with_fewer, same_numbers, there, its_object, its_held}
use Rattle.w32_machine.proofs.Closing.{less_here, less_aside, counted, change, stays, goes, closed}
use Rattle.w32_machine.proofs.Closing.{closed-is}

-- what the code keeps of an object whose own holders are the same
pub kind-aside : (slots slots' : List Place) (ps ps' : List Process) (section o : ℕ) (x : Kind)
    → ((k v : ℕ) → number_at slots' k ≡ Some v → number_at slots k ≡ Some v)
    → all_holders_of ps' o ≡ all_holders_of ps o → all_holders_of ps' (o + 1) ≡ all_holders_of ps (o + 1)
    → IsKind slots ps section o x → IsKind slots' ps' section o x
kind-aside slots slots' ps ps' section o (kind.Section words) numbers a b h = h
kind-aside slots slots' ps ps' section o (kind.Event e) numbers a b h = tt
kind-aside slots slots' ps ps' section o (kind.Mutex owner) numbers a b h = tt
kind-aside slots slots' ps ps' section o (kind.Pipe p) numbers a b h = (h.0 ∙ sym a, h.1 ∙ sym b)
kind-aside slots slots' ps ps' section o (kind.Process w slot) numbers a b h = λ k e. h k (numbers k w e)
kind-aside slots slots' ps ps' section o (kind.Terminal terminal) numbers a b h = tt

module _ (m : Inside) (sound : IsSound m) (slot w : ℕ) (stands : number_at m.processes.slots slot ≡ Some w) (k o : ℕ)
    (named : handle_of (place_at m.processes.slots slot).handles k ≡ Some o) (left : Table Kind)
    (leaves : LeavesOne m.objects left o) (spare : left.spare ≡ m.objects.spare + freed (object_at m.objects o))
    (went : Option (ℕ × ℕ)) (is : WentWith (object_at m.objects o) went) (forgot : processes.Table)
    (forgets : Forgets (with_fewer m sound slot w stands k o named) went forgot) where
  abbrev after : Inside
  after = closed m sound slot w stands k o named left leaves spare went is forgot forgets

  abbrev it : HeldObject Kind
  it = (there m sound slot w stands k o named).0

  abbrev less : List Process
  less = fewer m sound slot w stands k o named

  abbrev table : processes.Table
  table = with_fewer m sound slot w stands k o named

  -- the processes
  sound_less : process_sound.IsSound table
  sound_less =
      IsSound-same m.processes.next m.processes.slots m.processes.kept slot
      (record (place_at m.processes.slots slot) {
        handles = without_handle (place_at m.processes.slots slot).handles k;
      }) (within_slots m.processes.slots slot w stands) refl sound.table

  sound_forgot : process_sound.IsSound forgot × (forgot.slots ≡ table.slots)
  sound_forgot = by_went went forgets
    where
      by_went : (g : Option (ℕ × ℕ)) → Forgets table g forgot
          → process_sound.IsSound forgot × (forgot.slots ≡ table.slots)
      by_went None f = (subst process_sound.IsSound (sym f) sound_less, ap (λ (t : processes.Table). t.slots) f)
      by_went (Some p) (inl f) =
          (subst process_sound.IsSound (sym f.1) sound_less, ap (λ (t : processes.Table). t.slots) f.1)
      by_went (Some p) (inr f) = (
        subst process_sound.IsSound (sym f.1)
            (IsSound-forget table.next table.slots table.kept p.0 sound_less),
        ap (λ (t : processes.Table). t.slots) f.1,
      )

  numbers : (j v : ℕ) → number_at forgot.slots j ≡ Some v → number_at m.processes.slots j ≡ Some v
  numbers j v e =
      sym (same_numbers m sound slot w stands k o named j)
      ∙ ap (λ slots. number_at slots j) (sym sound_forgot.1) ∙ e

  formed : IsWellFormed m.script (view_of after).win32
  formed =
      subst (IsWellFormed m.script)
      (sym (closed-is m sound slot w stands k o named left leaves spare went is forgot forgets))
      (subst (λ hs. IsWellFormed m.script (swept (with_handles (view_of m).win32 w (without_handle hs k))))
      (handles_at m sound slot w stands)
      (wellformed-closed m.script (view_of m).win32 w (its_process m sound slot w stands) sound.state
      (found m sound slot w stands) refl k))

  -- the holders of each end
  now_holders : (q : ℕ) → all_holders_of (view_of after).win32.processes q ≡ all_holders_of less q
  now_holders q =
      ap (λ (s : Win32State). all_holders_of s.processes q)
      (closed-is m sound slot w stands k o named left leaves spare went is forgot forgets)
      ∙ all_holders-kept (held_objects less (view_of m).win32.objects) less q

  room : 4160 ≤ length (objects_of shown left.places) + left.spare
  room =
      elim (cases_lt 1 it.holders) [
        | inl l ↦
            let b = before 1 it.holders l in
            let none : freed (object_at m.objects o) ≡ 0 =
            ap freed (there m sound slot w stands k o named).1 ∙ (rw b refl) in
            let same_objects = objects-stay shown m.objects left o (kept_without o it)
            (change m sound slot w stands k o named left leaves spare went is)
            (ap (object_shown shown) (sym (change m sound slot w stands k o named left leaves spare went is).here
            ∙ (stays m sound slot w stands k o named left leaves spare went is l).0)
            ∙ ap Some (shown-without (end_by o) it.object)
            ∙ ap (object_shown shown) (sym (there m sound slot w stands k o named).1)) in
            omega (arith, sound.room, spare, none, ap (λ (xs : List NumberedObject). length xs) same_objects)
        | inr l ↦
            let b = not_before 1 it.holders l in
            let one : freed (object_at m.objects o) ≡ 1 =
            ap freed (there m sound slot w stands k o named).1 ∙ (rw b refl) in
            let dropped = objects-drop shown m.objects left o
            (goes m sound slot w stands k o named left leaves spare went is l).0 in
            omega (
              arith,
              sound.room,
              spare,
              one,
              ap (λ (xs : List NumberedObject). length xs) dropped,
              length-without 0 (object_number o) (shown it.object) (objects_of shown m.objects.places)
                  (rising-objects shown m.objects.places) (its_object m sound slot w stands k o named),
            )
      ]

  -- the object itself, which stays
  abbrev n : ℕ
  n = object_number o

  now_here : (q : ℕ) → o ≡ q
      → all_holders_of (view_of after).win32.processes q + 1 ≡ all_holders_of (view_of m).win32.processes q
  now_here q e = omega (arith, now_holders q, less_here m sound slot w stands k o named q e)

  now_aside : (q : ℕ) → o ≢ q
      → all_holders_of (view_of after).win32.processes q ≡ all_holders_of (view_of m).win32.processes q
  now_aside q d = now_holders q ∙ less_aside m sound slot w stands k o named q d

  kind_here : (x : Kind) → IsKind m.processes.slots (view_of m).win32.processes m.section n x
      → IsKind forgot.slots (view_of after).win32.processes m.section n (kind_without (end_by o) x)
  kind_here (kind.Pipe p) h =
      elim (cases_eq (o % 2) 0) [
        | inl e ↦
            let s = same (o % 2) 0 e in
            rw s (
              omega (arith, h.0, now_here n (omega arith)),
              h.1 ∙ sym (now_aside (n + 1) (λ f. omega arith)),
            )
        | inr d ↦
            let s = differs (o % 2) 0 d in
            rw s (
              h.0 ∙ sym (now_aside n (λ f. omega arith)),
              omega (arith, h.1, now_here (n + 1) (omega arith)),
            )
      ]
  kind_here (kind.Section words) h = h
  kind_here (kind.Event e) h = tt
  kind_here (kind.Mutex owner) h = tt
  kind_here (kind.Process v at) h = λ j e. h j (numbers j v e)
  kind_here (kind.Terminal terminal) h = tt

  holders_here : all_holders_of (view_of after).win32.processes n
      + all_holders_of (view_of after).win32.processes (n + 1) + 1 ≡ it.holders
  holders_here =
      elim (cases_eq (o % 2) 0) [
        | inl e ↦
            omega (
              arith,
              counted m sound slot w stands k o named,
              now_here n (omega arith),
              now_aside (n + 1) (λ f. omega arith),
            )
        | inr d ↦
            omega (
              arith,
              counted m sound slot w stands k o named,
              now_here (n + 1) (omega arith),
              now_aside n (λ f. omega arith),
            )
      ]

  held_here : (kept : HeldObject Kind) → object_at left o ≡ Some kept
      → IsHeld forgot.slots (view_of after).win32.processes m.section n kept
  held_here kept e =
      elim (cases_lt 1 it.holders) [
        | inl l ↦
            let f : Some (record { object = kind_without (end_by o) it.object; holders = it.holders - 1 }) ≡ Some kept =
            sym (stays m sound slot w stands k o named left leaves spare went is l).0 ∙ e in
            let g : record { object = kind_without (end_by o) it.object; holders = it.holders - 1 } ≡ kept = cc in
            subst (IsHeld forgot.slots (view_of after).win32.processes m.section n) g
            (record {
              holders = omega (arith, holders_here);
              kind = kind_here it.object (its_held m sound slot w stands k o named).kind;
            })
        | inr l ↦
            let f : None ≡ Some kept =
            sym (goes m sound slot w stands k o named left leaves spare went is l).0.here ∙ e in
            absurd (cc)
      ]

  held_after : (a : ℕ) (kept : HeldObject Kind) → object_at left a ≡ Some kept
      → IsHeld forgot.slots (view_of after).win32.processes m.section (object_number a) kept
  held_after a kept e =
      elim (cases_eq (a / 2) (o / 2)) [
        | inl same_place ↦
            let number : object_number a ≡ n = ap (λ i. 2 * i) same_place in
            rw number (held_here kept (ap (λ i. slice_index_or left.places i None) (sym same_place) ∙ e))
        | inr d ↦
            let old = sound.held a kept
            (sym ((change m sound slot w stands k o named left leaves spare went is).others a d) ∙ e) in
            let first = now_aside (object_number a) (λ f. d (omega arith)) in
            let second = now_aside (object_number a + 1) (λ f. d (omega arith)) in
            record {
              holders = omega (arith, old.holders, first, second);
              kind = kind-aside m.processes.slots forgot.slots (view_of m).win32.processes
                  (view_of after).win32.processes m.section (object_number a) kept.object numbers first second old.kind;
            }
      ]

  pub closed-sound : IsSound after
  closed-sound = record {
    state = formed;
    table = sound_forgot.0;
    slots = ap (λ (slots : List Place). length slots) sound_forgot.1 ∙ set_length ∙ sound.slots;
    posted = omega (arith, sound.posted, same_length);
    placed = omega (arith, sound.placed, same_length);
    held = held_after;
    room = room;
    keys = sound.keys;
  }
    where
      set_length : length table.slots ≡ length m.processes.slots
      set_length = length-set {A = Place} m.processes.slots slot _

      same_length : length forgot.slots ≡ length m.processes.slots
      same_length = ap (λ (slots : List Place). length slots) sound_forgot.1 ∙ set_length
