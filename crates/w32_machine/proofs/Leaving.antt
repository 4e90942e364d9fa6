-- The end of a process without handles in the tables: they stay sound, and show what it leaves of the state.
use Rattle.std.proofs.Common.{◌≡◌, ◌∙◌, inl, inr, ℕ, ◌+◌, ◌*◌, ◌/◌, ◌≤◌, Bool, true, false, if◌then◌else◌}
use Rattle.std.proofs.Common.{List, [], ◌∷◌, length, Option, Some, None, IsSome, slice_index_or, refl, sym, ap}
use Rattle.std.proofs.Common.{subst, arith}
use Rattle.std.proofs.lemmas.Bool.{cases_eq}
use Rattle.std.proofs.lemmas.List.{length-set}
use Rattle.win32_spec.specs.Handles.{holders_of}
use Rattle.win32_spec.specs.State.{NumberedObject, Process, Win32State}
use Rattle.win32_spec.specs.Lookup.{is_alive, object_number, change_process}
use Rattle.win32_spec.specs.Ends.{held_objects, is_process_held, object_left_by, objects_left_by, ended_process}
use Rattle.win32_spec.specs.Ends.{with_end}
use Rattle.win32_spec.specs.Pipes.{all_holders_of}
use Rattle.win32_spec.specs.WellFormed.{IsWellFormed}
use Rattle.win32_spec.specs.LookupLaws.{same, differs}
use Rattle.win32_spec.specs.HolderLaws.{all_holders-change}
use Rattle.win32_spec.specs.KeepLaws.{wellformed-ended}
use Rattle.w32_handles.specs.Table.{HeldObject, Table, object_at}
use Rattle.w32_handles.specs.Shown.{object_shown, objects_of}
use Rattle.w32_handles.specs.PlaceLaws.{half, left_shown, objects-left}
use Rattle.w32_handles.specs.CountLaws.{all_holders-kept}
use Rattle.w32_process.specs.Places.{Place, empty_place}
use Rattle.w32_process.specs.Table as processes
use Rattle.w32_process.specs.Table.{place_at, number_at, code_of, kept_of, without_kept}
use Rattle.w32_process.specs.Sound as process_sound
use Rattle.w32_process.specs.SoundLaws.{number_at-set_same, number_at-set_other, within_slots, IsSound-forget}
use Rattle.w32_process.specs.TableLaws.{code_of-kept}
use Rattle.w32_process.specs.EndLaws.{kept_at-push_same, IsSound-with_end}
use Rattle.w32_process.specs.LastLaws.{ended-kept, ended-forgotten}
use Rattle.w32_process.specs.RoomLaws.{kept-few}
use Rattle.w32_kinds.specs.declared.kind.Kind.{Kind}
use Rattle.w32_kinds.specs.declared.kind.Kind.TheVariants as kind
use Rattle.w32_machine.specs.declared.machine.Machine.TheInside.{Inside}
use Rattle.w32_kinds.specs.Kinds.{kind_left_by}
use Rattle.w32_kinds.specs.Shown.{shown}
use Rattle.w32_machine.specs.View.{posted_in, placed_in, view_of}
use Rattle.w32_machine.specs.Sound.{IsKind, IsHeld, IsSound}
use Rattle.w32_machine.specs.Ending.{left_kept}
use Rattle.w32_machine.proofs.Slots.{its_process, found, live}
use Rattle.w32_machine.proofs.ClosedSound.{kind-aside}

-- what an end leaves of an object is what it leaves of what that shows
pub shown-left : (w : ℕ) (x : Kind) → shown (kind_left_by w x) ≡ object_left_by w (shown x)
shown-left w (kind.Mutex owner) = refl
shown-left w (kind.Section words) = refl
shown-left w (kind.Event e) = refl
shown-left w (kind.Pipe p) = refl
shown-left w (kind.Process v slot) = refl
shown-left w (kind.Terminal terminal) = refl

kind-left : (slots : List Place) (ps : List Process) (section o w : ℕ) (x : Kind) → IsKind slots ps section o x
    → IsKind slots ps section o (kind_left_by w x)
kind-left slots ps section o w (kind.Mutex owner) h = tt
kind-left slots ps section o w (kind.Section words) h = h
kind-left slots ps section o w (kind.Event e) h = tt
kind-left slots ps section o w (kind.Pipe p) h = h
kind-left slots ps section o w (kind.Process v slot) h = h
kind-left slots ps section o w (kind.Terminal terminal) h = tt

length-left : (w : ℕ) (xs : List NumberedObject) → length (objects_left_by w xs) ≡ length xs
length-left w [] = refl
length-left w (x ∷ xs) = omega (arith, length-left w xs)

-- a process that ends holds as much as one without handles
all_holders-ended : (w code : ℕ) (ps : List Process) (q : ℕ)
    → all_holders_of (change_process w (ended_process code) ps) q ≡
    all_holders_of (change_process w (λ x. record x { handles = [] }) ps) q
all_holders-ended w code [] q = refl
all_holders-ended w code (p ∷ ps) q =
    let rest = all_holders-ended w code ps q in
    elim (cases_eq p.number w) [
      | inl n ↦ let s = same p.number w n in rw (s, rest) (by_life (is_alive p.life))
      | inr d ↦ let s = differs p.number w d in rw (s, rest) refl
    ]
  where
    by_life : (b : Bool)
        → 0 + all_holders_of (change_process w (λ x. record x { handles = [] }) ps) q ≡
        (if b then 0 else 0) + all_holders_of (change_process w (λ x. record x { handles = [] }) ps) q
    by_life true = refl
    by_life false = refl

module _ (m : Inside) (sound : IsSound m) (slot w code : ℕ) (stands : number_at m.processes.slots slot ≡ Some w)
    (none : (place_at m.processes.slots slot).handles ≡ []) where
  abbrev pub ended : processes.Table
  ended = processes.with_end m.processes slot w code

  -- there is room for it among those that are kept, and then it is among them
  pub room-kept : length m.processes.kept ≤ 4160
  room-kept =
      kept-few m.script (posted_in m.posted.items) (placed_in m.placed.items) shown m.processes sound.table
      m.objects.places m.keys.items sound.state

  pub is-kept : IsSome (code_of ended.kept w)
  is-kept =
      let it = kept_of w slot (place_at m.processes.slots slot).program code in
      let found = code_of-kept ended.kept w it
      (kept_at-push_same m.processes.kept it w (sound.table.numbers.live slot w stands) refl) in
      rw found refl

  module _ (left : Table Kind) (leaves : (k : ℕ) → object_at left (2 * k) ≡ left_kept w (object_at m.objects (2 * k)))
      (spare : left.spare ≡ m.objects.spare) where
    shows : objects_of shown left.places ≡ objects_left_by w (objects_of shown m.objects.places)
    shows = objects-left shown w m.objects left (λ k. ap (object_shown shown) (leaves k)
        ∙ by_kept (object_at m.objects (2 * k)))
      where
        by_kept : (o : Option (HeldObject Kind))
            → object_shown shown (left_kept w o) ≡ left_shown w (object_shown shown o)
        by_kept None = refl
        by_kept (Some kept) = ap Some (shown-left w kept.object)

    abbrev pub leaving : processes.Table → Inside
    leaving t = record m { processes = t; objects = left }

    abbrev pub forgotten : processes.Table
    forgotten = record ended { kept = without_kept ended.kept w }

    pub kept-is : is_process_held (objects_of shown left.places) w ≡ true
        → (view_of (leaving ended)).win32 ≡ with_end (view_of m).win32 w code
    kept-is its =
        ended-kept m.script (posted_in m.posted.items) (posted_in m.posted.items) (placed_in m.placed.items)
        (placed_in m.placed.items) shown m.processes sound.table m.objects.places m.keys.items sound.state slot w code
        stands none (λ k u d. refl) (λ k d. refl) left.places shows its

    pub forgotten-is : is_process_held (objects_of shown left.places) w ≡ false
        → (view_of (leaving forgotten)).win32 ≡ with_end (view_of m).win32 w code
    forgotten-is unheld =
        ended-forgotten m.script (posted_in m.posted.items) (posted_in m.posted.items) (placed_in m.placed.items)
        (placed_in m.placed.items) shown m.processes sound.table m.objects.places m.keys.items sound.state slot w code
        stands none (λ k u d. refl) (λ k d. refl) left.places shows unheld

    sound_ended : process_sound.IsSound ended
    sound_ended =
        IsSound-with_end (posted_in m.posted.items) (posted_in m.posted.items) (placed_in m.placed.items)
        (placed_in m.placed.items) m.processes sound.table slot w code stands (λ k u d. refl) (λ k d. refl)

    numbers : (j v : ℕ) → number_at ended.slots j ≡ Some v → number_at m.processes.slots j ≡ Some v
    numbers j v e =
        elim (cases_eq j slot) [
          | inl n ↦ absurd (let f : Some v ≡ None = sym e ∙ ap (number_at ended.slots) n
              ∙ number_at-set_same m.processes.slots slot empty_place
              (within_slots m.processes.slots slot w stands) in cc)
          | inr d ↦ sym (number_at-set_other m.processes.slots slot j empty_place d) ∙ e
        ]

    -- sound with what is kept, as it shows the end
    module _ (t : processes.Table) (slots : t.slots ≡ ended.slots) (table : process_sound.IsSound t)
        (is : (view_of (leaving t)).win32 ≡ with_end (view_of m).win32 w code) where
      abbrev ps : List Process
      ps = (view_of m).win32.processes

      holders : (q : ℕ) → all_holders_of (view_of (leaving t)).win32.processes q ≡ all_holders_of ps q
      holders q =
          ap (λ (s : Win32State). all_holders_of s.processes q) is
          ∙ all_holders-kept (held_objects (change_process w (ended_process code) ps)
          (objects_left_by w (view_of m).win32.objects)) (change_process w (ended_process code) ps) q
          ∙ all_holders-ended w code ps q
          ∙ same_holders
        where
          same_holders : all_holders_of (change_process w (λ x. record x { handles = [] }) ps) q ≡ all_holders_of ps q
          same_holders =
              omega (
                arith,
                all_holders-change 1 m.processes.next ps w (its_process m sound slot w stands) [] q
                    sound.state.formed.processes (found m sound slot w stands) refl,
                ap (λ hs. holders_of hs q) none,
              )

      leaves_at : (a : ℕ) → object_at left a ≡ left_kept w (object_at m.objects a)
      leaves_at a =
          subst (λ i. slice_index_or left.places i None ≡ left_kept w (slice_index_or m.objects.places i None))
          (half (a / 2)) (leaves (a / 2))

      held_after : (a : ℕ) (kept : HeldObject Kind) → object_at left a ≡ Some kept
          → IsHeld t.slots (view_of (leaving t)).win32.processes m.section (object_number a) kept
      held_after a kept e = by_old (object_at m.objects a) refl (sym (leaves_at a) ∙ e)
        where
          by_old : (o : Option (HeldObject Kind)) → object_at m.objects a ≡ o → left_kept w o ≡ Some kept
              → IsHeld t.slots (view_of (leaving t)).win32.processes m.section (object_number a) kept
          by_old None f g = absurd (cc)
          by_old (Some old) f g =
              let h : record old { object = kind_left_by w old.object } ≡ kept = cc in
              let was = sound.held a old f in
              subst (IsHeld t.slots (view_of (leaving t)).win32.processes m.section (object_number a)) h
              (record {
                holders = omega (
                  arith,
                  was.holders,
                  holders (object_number a),
                  holders (object_number a + 1),
                );
                kind =
                    kind-left t.slots (view_of (leaving t)).win32.processes m.section (object_number a) w old.object
                    (kind-aside m.processes.slots t.slots ps (view_of (leaving t)).win32.processes m.section
                    (object_number a) old.object
                    (λ j v i. numbers j v (ap (λ places. number_at places j) (sym slots) ∙ i))
                    (holders (object_number a)) (holders (object_number a + 1)) was.kind);
              })

      same_length : length t.slots ≡ length m.processes.slots
      same_length = ap (λ (places : List Place). length places) slots
          ∙ length-set {A = Place} m.processes.slots slot empty_place

      pub left-sound : IsSound (leaving t)
      left-sound = record {
        state = subst (IsWellFormed m.script) (sym is)
            (wellformed-ended m.script (view_of m).win32 w code sound.state (live m sound slot w stands));
        table = table;
        slots = same_length ∙ sound.slots;
        posted = omega (arith, sound.posted, same_length);
        placed = omega (arith, sound.placed, same_length);
        held = held_after;
        room = omega (
          arith,
          sound.room,
          spare,
          ap (λ (xs : List NumberedObject). length xs) shows,
          length-left w (objects_of shown m.objects.places),
        );
        keys = sound.keys;
      }

    pub kept-sound : is_process_held (objects_of shown left.places) w ≡ true → IsSound (leaving ended)
    kept-sound its = left-sound ended refl sound_ended (kept-is its)

    pub forgotten-sound : is_process_held (objects_of shown left.places) w ≡ false → IsSound (leaving forgotten)
    forgotten-sound unheld =
        left-sound forgotten refl
        (IsSound-forget ended.next ended.slots ended.kept w sound_ended) (forgotten-is unheld)
