-- A process that is made in the tables, as their state shows it, and what is found on the way.
use Rattle.std.proofs.Common.{◌≡◌, ◌≢◌, inl, inr, ℕ, ◌+◌, ◌<◌, Bool, true, false, ◌||◌, List, [], ◌∷◌, length}
use Rattle.std.proofs.Common.{zero, suc, ◌*◌, slice_index_or, Option, Some, None, IsSome, refl, sym, ap, ◌∙◌, subst}
use Rattle.std.proofs.Common.{arith}
use Rattle.std.proofs.lemmas.Bool.{cases_eq}
use Rattle.w32_base.specs.declared.call.Call.{Call}
use Rattle.w32_base.specs.declared.setup.Program.{Program}
use Rattle.win32_spec.specs.Handles.{Handle}
use Rattle.win32_spec.specs.State.{Object, Section, Event, Mutex, Pipe, ProcessObject, TerminalObject, NumberedObject}
use Rattle.win32_spec.specs.State.{PlacedModule, Process}
use Rattle.win32_spec.specs.Lookup.{process_in, object_of, IsLowestFreeSlot, add_object}
use Rattle.win32_spec.specs.Lookup.{with_handles, change_process}
use Rattle.win32_spec.specs.Lookup.{AreAllOccupied}
use Rattle.win32_spec.specs.Ends.{is_object_of, is_process_held}
use Rattle.win32_spec.specs.Making.{new_process}
use Rattle.win32_spec.specs.ProcessCalls.{process_object, with_made}
use Rattle.win32_spec.specs.WellFormed.{AreRisingObjects}
use Rattle.win32_spec.specs.LookupLaws.{same, differs}
use Rattle.win32_spec.specs.ObjectLaws.{rising_objects-bound}
use Rattle.w32_handles.specs.Table.{HeldObject}
use Rattle.w32_handles.specs.Shown.{object_shown, objects_from, objects_of}
use Rattle.w32_process.specs.Places.{made_place}
use Rattle.w32_process.specs.Table.{Table, place_at, number_at, IsLowestEmpty}
use Rattle.w32_process.specs.Table as table
use Rattle.w32_process.specs.Sound.{IsSound}
use Rattle.w32_process.specs.SoundLaws.{number_at-set_other}
use Rattle.w32_process.specs.Processes.{processes_of}
use Rattle.w32_process.specs.FoundLaws.{shown, process_in-at, process_in-empty}
use Rattle.w32_process.specs.ChangeLaws.{processes-with_handles}
use Rattle.w32_process.specs.MadeLaws.{KnowsMade, IsSound-made, processes-with_made}
use Rattle.w32_process.specs.ClosedLaws.{state_of}

-- Slots.
module _ (posted : ℕ → ℕ → Call) (placed : ℕ → List PlacedModule) (t : Table) (sound : IsSound t) where
  occupied : (slot : ℕ) → IsSome (number_at t.slots slot) → IsSome (process_in (processes_of posted placed t) slot)
  occupied slot some =
      subst (λ (o : Option Process). IsSome o) (sym (process_in-at posted placed t sound slot))
      (by_number (number_at t.slots slot) some)
    where
      by_number : (o : Option ℕ) → IsSome o → IsSome (shown posted placed slot (place_at t.slots slot) o)
      by_number (Some w) some = refl
      by_number None some = some

  pub lowest-free : (slots slot : ℕ) → length t.slots ≡ slots + 1 → IsLowestEmpty t.slots slot
      → IsLowestFreeSlot slots (processes_of posted placed t) slot
  lowest-free slots slot size lowest = record {
    from_one = lowest.from_one;
    most = omega (arith, lowest.within, size);
    free = process_in-empty posted placed t sound slot lowest.empty;
    lower = λ k l m. occupied k (lowest.lower k l m);
  }

  pub all-occupied : (slots : ℕ) → length t.slots ≡ slots + 1 → table.AreAllOccupied t.slots
      → AreAllOccupied slots (processes_of posted placed t)
  all-occupied slots size all k l m = occupied k (all k l (omega (arith, size)))

-- The object of a process.
pub process_object-none : (xs : List NumberedObject) (v : ℕ) → process_object xs v ≡ None
    → is_process_held xs v ≡ false
process_object-none [] v e = refl
process_object-none (x ∷ xs) v e = by_test (is_object_of x.object v) refl (process_object-none xs v)
  where
    by_test : (b : Bool) → is_object_of x.object v ≡ b → (process_object xs v ≡ None → is_process_held xs v ≡ false)
        → (is_object_of x.object v || is_process_held xs v) ≡ false
    by_test true t rest = absurd (let f : Some x.number ≡ None = rw t at e in cc)
    by_test false t rest = let f : process_object xs v ≡ None = rw t at e in rw (t, rest f) refl

pub process_object-some : (low : ℕ) (xs : List NumberedObject) (v o : ℕ) → AreRisingObjects low xs
    → process_object xs v ≡ Some o
    → (object_of xs o ≡ Some (ProcessObject v)) × (is_process_held xs v ≡ true)
process_object-some low [] v o r e = absurd (cc)
process_object-some low (x ∷ xs) v o r e =
    by_test (is_object_of x.object v) refl (process_object-some (x.number + 1) xs v o r.2)
  where
    is_its : (y : Object) → is_object_of y v ≡ true → y ≡ ProcessObject v
    is_its (ProcessObject u) t =
        elim (cases_eq u v) [ inl n ↦ ap ProcessObject n | inr d ↦ let s = differs u v d in absurd (cc) ]
    is_its (Section words) t = absurd (cc)
    is_its (Event event) t = absurd (cc)
    is_its (Mutex owner) t = absurd (cc)
    is_its (Pipe bytes) t = absurd (cc)
    is_its (TerminalObject terminal) t = absurd (cc)

    by_test : (b : Bool) → is_object_of x.object v ≡ b
        → (process_object xs v ≡ Some o
        → (object_of xs o ≡ Some (ProcessObject v)) × (is_process_held xs v ≡ true))
        → (object_of (x ∷ xs) o ≡ Some (ProcessObject v)) × (is_process_held (x ∷ xs) v ≡ true)
    by_test true t rest =
        let f : Some x.number ≡ Some o = rw t at e in
        let n : x.number ≡ o = cc in
        let s = same x.number o n in
        (rw s (ap Some (is_its x.object t)), rw t refl)
    by_test false t rest =
        let f : process_object xs v ≡ Some o = rw t at e in
        let found = rest f in
        let b = rising_objects-bound (x.number + 1) xs o (ProcessObject v) r.2 found.0 in
        let s = differs x.number o (λ n. omega (arith, b.0)) in
        (rw s found.0, rw (t, found.1) refl)

-- a process, its object, and other handles of the process that makes it
pub state-made : {K : Type 0} (posted posted' : ℕ → ℕ → Call) (placed placed' : ℕ → List PlacedModule)
    (f : K → Object) (t : Table) → IsSound t → (places left : List (Option (HeldObject K))) (keys : List ℕ) (slot : ℕ)
    → slot < length t.slots → number_at t.slots slot ≡ None → (number : ℕ) (program : Program) (listed : List Handle)
    → KnowsMade posted posted' placed placed' slot → (o : ℕ)
    → objects_of f left ≡ add_object o (ProcessObject t.next) (objects_of f places)
    → (its_slot w : ℕ) → number_at t.slots its_slot ≡ Some w → (handles : List Handle)
    → state_of posted' placed' f
    (table.with_handles (table.with_made t slot number program listed) its_slot handles) left keys ≡
    with_handles (with_made (state_of posted placed f t places keys) o
    (new_process t.next slot number program 1 listed)) w handles
state-made posted posted' placed placed' f t sound places left keys slot within empty number program listed known o
    shows its_slot w stands handles =
    ap (λ (ps : List Process). record (state_of posted' placed' f
    (table.with_handles (table.with_made t slot number program listed) its_slot handles) left keys) { processes = ps })
    (processes-with_handles posted' placed' (table.with_made t slot number program listed)
    (IsSound-made t sound slot within empty number program listed) its_slot w still handles
    ∙ ap (change_process w (λ p. record p { handles = handles }))
    (processes-with_made t sound slot within empty number program listed posted posted' placed placed' known))
    ∙ ap (λ (xs : List NumberedObject). record (with_handles (with_made (state_of posted placed f t places keys) o
    (new_process t.next slot number program 1 listed)) w handles) { objects = xs }) shows
  where
    aside : its_slot ≢ slot
    aside n = let g : Some w ≡ None = sym stands ∙ ap (number_at t.slots) n ∙ empty in cc

    still : number_at (table.with_made t slot number program listed).slots its_slot ≡ Some w
    still =
        number_at-set_other t.slots slot its_slot (made_place t.next number program listed) aside ∙ stands

-- It is the first of the places whose object is that of the process.
module _ {K : Type 0} (f : K → Object) (v : ℕ) where
  -- none of the first places has the object of the process
  abbrev pub IsNotBelow : List (Option (HeldObject K)) → ℕ → Type 0
  IsNotBelow places n = (k : ℕ) → k < n → object_shown f (slice_index_or places k None) ≢ Some (ProcessObject v)

  is_of : (x : Object) → is_object_of x v ≡ true → x ≡ ProcessObject v
  is_of (ProcessObject u) t =
      elim (cases_eq u v) [ inl n ↦ ap ProcessObject n | inr d ↦ let s = differs u v d in absurd (cc) ]
  is_of (Section words) t = absurd (cc)
  is_of (Event event) t = absurd (cc)
  is_of (Mutex owner) t = absurd (cc)
  is_of (Pipe bytes) t = absurd (cc)
  is_of (TerminalObject terminal) t = absurd (cc)

  absent-from : (place : ℕ) (places : List (Option (HeldObject K))) → IsNotBelow places (length places)
      → process_object (objects_from f place places) v ≡ None
  absent-from place [] none = refl
  absent-from place (None ∷ places) none =
      absent-from (place + 1) places (λ k l. none (suc k) (omega arith))
  absent-from place (Some kept ∷ places) none =
      by_test (is_object_of (f kept.object) v) refl
      (absent-from (place + 1) places (λ k l. none (suc k) (omega arith)))
    where
      by_test : (b : Bool) → is_object_of (f kept.object) v ≡ b
          → process_object (objects_from f (place + 1) places) v ≡ None
          → process_object (objects_from f place (Some kept ∷ places)) v ≡ None
      by_test true t rest = absurd (none 0 (omega arith) (ap Some (is_of (f kept.object) t)))
      by_test false t rest = rw t rest

  found-from : (place k : ℕ) (places : List (Option (HeldObject K))) → IsNotBelow places k
      → object_shown f (slice_index_or places k None) ≡ Some (ProcessObject v)
      → process_object (objects_from f place places) v ≡ Some (2 * (place + k))
  found-from place k [] none at = absurd (cc)
  found-from place zero (None ∷ places) none at = absurd (cc)
  found-from place zero (Some kept ∷ places) none at =
      let its : f kept.object ≡ ProcessObject v = cc in
      let t = same v v refl in
      let n : place + 0 ≡ place = omega arith in
      rw (its, t, n) refl
  found-from place (suc k) (None ∷ places) none at =
      let n : place + suc k ≡ place + 1 + k = omega arith in
      rw n (found-from (place + 1) k places (λ j l. none (suc j) (omega arith)) at)
  found-from place (suc k) (Some kept ∷ places) none at =
      by_test (is_object_of (f kept.object) v) refl
      (found-from (place + 1) k places (λ j l. none (suc j) (omega arith)) at)
    where
      by_test : (b : Bool) → is_object_of (f kept.object) v ≡ b
          → process_object (objects_from f (place + 1) places) v ≡ Some (2 * (place + 1 + k))
          → process_object (objects_from f place (Some kept ∷ places)) v ≡ Some (2 * (place + suc k))
      by_test true t rest = absurd (none 0 (omega arith) (ap Some (is_of (f kept.object) t)))
      by_test false t rest = let n : place + suc k ≡ place + 1 + k = omega arith in rw (t, n) rest

  pub process_object-absent : (places : List (Option (HeldObject K))) → IsNotBelow places (length places)
      → process_object (objects_of f places) v ≡ None
  process_object-absent places none = absent-from 0 places none

  pub process_object-first : (places : List (Option (HeldObject K))) (k : ℕ) → IsNotBelow places k
      → object_shown f (slice_index_or places k None) ≡ Some (ProcessObject v)
      → process_object (objects_of f places) v ≡ Some (2 * k)
  process_object-first places k none at =
      found-from 0 k places none at ∙ ap (λ n. Some (2 * n)) (let n : 0 + k ≡ k = omega arith in n)
