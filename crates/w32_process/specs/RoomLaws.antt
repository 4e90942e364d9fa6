-- How many handles, objects and ended processes there may be.
use Rattle.std.proofs.Common.{◌≡◌, ◌≢◌, inl, inr, ℕ, zero, suc, ◌+◌, ◌*◌, ◌≤◌, ◌<◌, true, if◌then◌else◌, List, []}
use Rattle.std.proofs.Common.{◌∷◌, length, Option, Some, None, IsSome, slice_index_or, refl, sym, ap, ◌∙◌, subst, arith}
use Rattle.std.proofs.Common.{true≢false}
use Rattle.std.proofs.lemmas.Bool.{cases_lt}
use Rattle.std.proofs.lemmas.Bool.Decides.{nat_tests}
use Rattle.w32_base.specs.declared.call.Call.{Call}
use Rattle.script_spec.specs.declared.script.Script.{Script}
use Rattle.win32_spec.specs.State.{Object, ProcessObject, NumberedObject, PlacedModule, Process}
use Rattle.win32_spec.specs.Lookup.{is_alive, object_number, object_of}
use Rattle.win32_spec.specs.Ends.{is_process_held}
use Rattle.win32_spec.specs.WellFormed.{AreRisingObjects, IsWellFormed}
use Rattle.win32_spec.specs.LookupLaws.{same, differs, before, not_before}
use Rattle.win32_spec.specs.HolderLaws.{length-rising}
use Rattle.win32_spec.specs.HeldLaws.{process_held-by}
use Rattle.win32_spec.specs.FormedLaws.{have_rising}
use Rattle.w32_handles.specs.Table.{HeldObject}
use Rattle.w32_handles.specs.Shown.{object_shown, objects_of, without_object}
use Rattle.w32_handles.specs.ShownLaws.{object_of-place}
use Rattle.w32_handles.specs.ShownLaws.{rising-without_object}
use Rattle.w32_handles.specs.Counted.{all_holders_on, all_handles}
use Rattle.w32_handles.specs.CountLaws.{held-counted}
use Rattle.w32_handles.specs.BoundLaws.{all_holders_on-le, count-le, length-objects, length-without}
use Rattle.w32_process.specs.declared.kept.Kept.{Kept as KeptProcess}
use Rattle.w32_process.specs.Places.{Place}
use Rattle.w32_process.specs.Table.{Table, place_at, number_at, code_of}
use Rattle.w32_process.specs.Sound.{AreDistinct, IsSound}
use Rattle.w32_process.specs.Processes.{insert_process, kept_process, kept_processes, live_process, with_process_in}
use Rattle.w32_process.specs.Processes.{with_processes_from, processes_of}
use Rattle.w32_process.specs.TableLaws.{kept_at-some}
use Rattle.w32_process.specs.FoundLaws.{process_of-live, process_of-ended}
use Rattle.w32_process.specs.SweepLaws.{is_process_held-without}
use Rattle.w32_process.specs.ClosedLaws.{state_of}

-- The handles of the processes of a table.
all_handles-insert : (new : Process) (ps : List Process)
    → all_handles (insert_process new ps) ≡ (if is_alive new.life then length new.handles else 0) + all_handles ps
all_handles-insert new [] = refl
all_handles-insert new (p ∷ ps) =
    elim (cases_lt new.number p.number) [
      | inl l ↦ let t = before new.number p.number l in rw t refl
      | inr l ↦ let t = not_before new.number p.number l in rw t (omega (arith, all_handles-insert new ps))
    ]

all_handles-kept : (es : List KeptProcess) → all_handles (kept_processes es) ≡ 0
all_handles-kept [] = refl
all_handles-kept (e ∷ es) =
    omega (arith, all_handles-insert (kept_process e) (kept_processes es), all_handles-kept es)

-- how many handles the process of a place has
abbrev handles_at : Place → Option ℕ → ℕ
handles_at place None = 0
handles_at place (Some w) = length place.handles

abbrev handles_in : List Place → ℕ
handles_in [] = 0
handles_in (place ∷ places) = handles_at place place.number + handles_in places

all_handles-from : (posted : ℕ → ℕ → Call) (placed : ℕ → List PlacedModule) (slot : ℕ) (places : List Place)
    (ps : List Process)
    → all_handles (with_processes_from posted placed slot places ps) ≡ handles_in places + all_handles ps
all_handles-from posted placed slot [] ps = omega arith
all_handles-from posted placed slot (place ∷ places) ps =
    by_number place.number (all_handles-from posted placed (slot + 1) places ps)
  where
    by_number : (o : Option ℕ)
        → all_handles (with_processes_from posted placed (slot + 1) places ps) ≡ handles_in places + all_handles ps
        → all_handles (with_process_in posted placed slot place o
        (with_processes_from posted placed (slot + 1) places ps)) ≡
        handles_at place o + handles_in places + all_handles ps
    by_number None rest = omega (arith, rest)
    by_number (Some w) rest =
        omega (
          arith,
          rest,
          all_handles-insert (live_process posted placed slot w place)
              (with_processes_from posted placed (slot + 1) places ps),
        )

-- each process has at most 64 of them
abbrev HaveFew : List Place → Type 0
HaveFew places = (k w : ℕ) → number_at places k ≡ Some w → length (place_at places k).handles ≤ 64

handles_in-most : (places : List Place) → HaveFew places → handles_in places ≤ 64 * length places
handles_in-most [] few = omega arith
handles_in-most (place ∷ places) few = by_number place.number refl (handles_in-most places (λ k w e. few (suc k) w e))
  where
    by_number : (o : Option ℕ) → place.number ≡ o → handles_in places ≤ 64 * length places
        → handles_at place o + handles_in places ≤ 64 * suc (length places)
    by_number None e rest = omega (arith, rest)
    by_number (Some w) e rest = omega (arith, rest, few 0 w e)

handles_in-room : (places : List Place) (slot w more : ℕ) → HaveFew places → number_at places slot ≡ Some w
    → length (place_at places slot).handles + more ≤ 64
    → handles_in places + more ≤ 64 * length places
handles_in-room [] slot w more few at room = absurd (let e : None ≡ Some w = at in cc)
handles_in-room (place ∷ places) zero w more few at room =
    let here : place.number ≡ Some w = at in
    rw here (omega (arith, handles_in-most places (λ k w e. few (suc k) w e), room))
handles_in-room (place ∷ places) (suc slot) w more few at room =
    by_number place.number refl (handles_in-room places slot w more (λ k w e. few (suc k) w e) at room)
  where
    by_number : (o : Option ℕ) → place.number ≡ o → handles_in places + more ≤ 64 * length places
        → handles_at place o + handles_in places + more ≤ 64 * suc (length places)
    by_number None e rest = omega (arith, rest)
    by_number (Some v) e rest = omega (arith, rest, few 0 v e)

-- no more ended processes of which there is an object than objects
kept-listed : (es : List KeptProcess) (xs : List NumberedObject) → AreDistinct es → AreRisingObjects 0 xs
    → ((w : ℕ) → IsSome (code_of es w) → is_process_held xs w ≡ true)
    → length es ≤ length xs
kept-listed [] xs distinct r held = omega arith
kept-listed (e ∷ es) xs distinct r held =
    let s = same e.number e.number refl in
    let at = process_held-by 0 xs e.number r (held e.number (rw s refl)) in
    omega (
      arith,
      length-without 0 at.0 (ProcessObject e.number) xs r at.1,
      kept-listed es (without_object at.0 xs) distinct.1 (rising-without_object at.0 0 xs r) (still at.0 at.1),
    )
  where
    still : (o : ℕ) → object_of xs o ≡ Some (ProcessObject e.number) → (w : ℕ) → IsSome (code_of es w)
        → is_process_held (without_object o xs) w ≡ true
    still o its w some =
        let d : e.number ≢ w = λ n. true≢false
        (sym (subst (λ (c : Option ℕ). IsSome c) (ap (code_of es) (sym n) ∙ distinct.0) some)) in
        let s = differs e.number w d in
        is_process_held-without 0 xs o w r
        (λ f. d (let g : Some (ProcessObject e.number) ≡ Some (ProcessObject w) = sym its ∙ f in cc))
        (held w (rw s some))

module _ {K : Type 0} (script : Script) (posted : ℕ → ℕ → Call) (placed : ℕ → List PlacedModule) (f : K → Object)
    (t : Table) (sound : IsSound t) (places : List (Option (HeldObject K))) (keys : List ℕ)
    (h : IsWellFormed script (state_of posted placed f t places keys)) where
  abbrev ps : List Process
  ps = processes_of posted placed t

  few : HaveFew t.slots
  few k w e =
      let found = process_of-live posted placed t sound k w e in
      let rising = have_rising script (state_of posted placed f t places keys) h.formed w
      (live_process posted placed k w (place_at t.slots k)) found refl in
      omega (arith, length-rising 1 (place_at t.slots k).handles (omega arith) rising)

  all_are : all_handles ps ≡ handles_in t.slots
  all_are = omega (arith, all_handles-from posted placed 0 t.slots (kept_processes t.kept), all_handles-kept t.kept)

  held : (k : ℕ) → IsSome (slice_index_or places k None) → 0 < all_holders_on ps (2 * k)
  held k some = by_answer (slice_index_or places k None) refl some
    where
      by_answer : (o : Option (HeldObject K)) → slice_index_or places k None ≡ o → IsSome o
          → 0 < all_holders_on ps (2 * k)
      by_answer None e some = absurd (true≢false (sym some))
      by_answer (Some kept) e some =
          let found = object_of-place f places k ∙ ap (object_shown f) e in
          let test = sym (held-counted ps (2 * k) (omega arith)) ∙ h.object_held (2 * k) (f kept.object) found in
          grind (arith, nat_tests)

  -- while a process has room for so many handles more
  module _ (slot w more : ℕ) (stands : number_at t.slots slot ≡ Some w)
      (room : length (place_at t.slots slot).handles + more ≤ 64) where
    pub handles-room : all_handles ps + more ≤ 4160
    handles-room = omega (arith, all_are, handles_in-room t.slots slot w more few stands room, sound.few)

    pub objects-room : length (objects_of f places) + more ≤ 4160
    objects-room = omega (arith, handles-room, length-objects f 0 places, count-le ps places held)

    pub holders-room : (o : ℕ) → object_number o ≡ o → all_holders_on ps o + more ≤ 4160
    holders-room o even = omega (arith, handles-room, all_holders_on-le ps o even)

  pub handles-few : all_handles ps ≤ 4160
  handles-few = omega (arith, all_are, handles_in-most t.slots few, sound.few)

  pub objects-few : length (objects_of f places) ≤ 4160
  objects-few = omega (arith, handles-few, length-objects f 0 places, count-le ps places held)

  pub kept-few : length t.kept ≤ 4160
  kept-few =
      omega (
        arith,
        objects-few,
        kept-listed t.kept (objects_of f places) sound.numbers.kept_alone h.formed.objects
            named,
      )
    where
      named : (v : ℕ) → IsSome (code_of t.kept v) → is_process_held (objects_of f places) v ≡ true
      named v some = by_code (code_of t.kept v) refl some
        where
          by_code : (o : Option ℕ) → code_of t.kept v ≡ o → IsSome o → is_process_held (objects_of f places) v ≡ true
          by_code None e some = absurd (true≢false (sym some))
          by_code (Some code) e some =
              let at = kept_at-some t.kept v code e in
              h.process_held v (kept_process at.0) (process_of-ended posted placed t sound v at.0 at.1) refl
