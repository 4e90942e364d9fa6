-- Laws of what somebody holds, and of what is left without the rest.
use Rattle.std.proofs.Common.{◌≡◌, ◌⊎◌, inl, inr, ℕ, ◌+◌, Bool, true, false, ◌&&◌, ◌||◌, if◌then◌else◌, nat_eq, List}
use Rattle.std.proofs.Common.{[], ◌∷◌, Some, refl, sym, ap, ◌∙◌, arith}
use Rattle.std.proofs.lemmas.Bool.{cases_eq}
use Rattle.win32_spec.specs.Handles.{handle_of, AreRisingFrom}
use Rattle.win32_spec.specs.State.{Object, Section, Event, Mutex, Pipe, ProcessObject, TerminalObject, NumberedObject}
use Rattle.win32_spec.specs.State.{Process}
use Rattle.win32_spec.specs.Lookup.{is_alive, process_of, object_number, object_of}
use Rattle.win32_spec.specs.Ends.{names_object, is_object_held, held_objects, is_object_of, is_process_held}
use Rattle.win32_spec.specs.Ends.{kept_processes}
use Rattle.win32_spec.specs.WellFormed.{AreRisingProcesses, AreRisingObjects}
use Rattle.win32_spec.specs.LookupLaws.{same, differs, or_true, and_true, or_left, or_right, not_none, rising-lower}
use Rattle.win32_spec.specs.LookupLaws.{rising-absent}
use Rattle.win32_spec.specs.ObjectLaws.{rising_objects-bound, rising_objects-lower}
use Rattle.win32_spec.specs.HandleLaws.{named_object, names-object}

-- a handle of a live process names the object
pub record IsHeldBy (ps : List Process) (o : ℕ) : Type 0 where
  pub number : ℕ
  pub process : Process
  pub found : process_of ps number ≡ Some process
  pub alive : is_alive process.life ≡ true
  pub handle : ℕ
  pub names : ℕ
  pub named : handle_of process.handles handle ≡ Some names
  pub object : object_number names ≡ o

abbrev pub HaveRisingHandles : List Process → Type 0
HaveRisingHandles ps = (w : ℕ) (p : Process) → process_of ps w ≡ Some p → is_alive p.life ≡ true
    → AreRisingFrom 1 p.handles

pub held-by : (low next : ℕ) (ps : List Process) (o : ℕ) → AreRisingProcesses low next ps → HaveRisingHandles ps
    → is_object_held ps o ≡ true → IsHeldBy ps o
held-by low next [] o r handles e = absurd (cc)
held-by low next (p ∷ ps) o r handles e =
    by_test (or_true (is_alive p.life && names_object p.handles o) (is_object_held ps o) e)
    (held-by (p.number + 1) next ps o r.2 (λ w q f alive. handles w q (later w q f) alive))
  where
    later : (w : ℕ) (q : Process) → process_of ps w ≡ Some q → process_of (p ∷ ps) w ≡ Some q
    later w q f =
        elim (cases_eq p.number w) [
          | inl n ↦ absurd (not_none (process_of ps w) q f
              (rising-absent (p.number + 1) next ps w r.2 (inl (omega (arith, n)))))
          | inr d ↦ let s = differs p.number w d in rw s f
        ]

    first : process_of (p ∷ ps) p.number ≡ Some p
    first = let s = same p.number p.number refl in rw s refl

    by_test : ((is_alive p.life && names_object p.handles o) ≡ true) ⊎ (is_object_held ps o ≡ true)
        → (is_object_held ps o ≡ true → IsHeldBy ps o)
        → IsHeldBy (p ∷ ps) o
    by_test (inl t) rest =
        let both = and_true (is_alive p.life) (names_object p.handles o) t in
        let at = named_object 1 p.handles o (handles p.number p first both.0) both.1 in
        record {
          number = p.number;
          process = p;
          found = first;
          alive = both.0;
          handle = at.0;
          names = at.1;
          named =
              at.2;
          object = at.3;
        }
    by_test (inr t) rest =
        let at = rest t in
        record {
          number = at.number;
          process = at.process;
          found = later at.number at.process at.found;
          alive = at.alive;
          handle = at.handle;
          names = at.names;
          named = at.named;
          object = at.object;
        }

pub is-held : (ps : List Process) (o : ℕ) → IsHeldBy ps o → is_object_held ps o ≡ true
is-held [] o held = absurd (let e = held.found in cc)
is-held (p ∷ ps) o held =
    elim (cases_eq p.number held.number) [
      | inl n ↦
          let s = same p.number held.number n in
          let f : Some p ≡ Some held.process = rw s at held.found in
          let g : p ≡ held.process = cc in
          let named : names_object p.handles o ≡ true =
          rw g (names-object held.process.handles held.handle held.names o held.named held.object) in
          let alive : is_alive p.life ≡ true = rw g held.alive in
          or_left (is_alive p.life && names_object p.handles o) (is_object_held ps o) (rw (alive, named) refl)
      | inr d ↦
          let s = differs p.number held.number d in
          or_right (is_alive p.life && names_object p.handles o) (is_object_held ps o)
          (is-held ps o (record {
            number = held.number;
            process = held.process;
            found = rw s at held.found;
            alive = held.alive;
            handle = held.handle;
            names = held.names;
            named = held.named;
            object = held.object;
          }))
    ]

-- The objects that somebody holds.
pub held_object : (ps : List Process) (xs : List NumberedObject) (o : ℕ) (x : Object)
    → object_of (held_objects ps xs) o ≡ Some x
    → (object_of xs o ≡ Some x) × (is_object_held ps o ≡ true)
held_object ps [] o x e = absurd (cc)
held_object ps (z ∷ xs) o x e = by_test (is_object_held ps z.number) refl (held_object ps xs o x)
  where
    by_test : (b : Bool) → is_object_held ps z.number ≡ b
        → (object_of (held_objects ps xs) o ≡ Some x → (object_of xs o ≡ Some x) × (is_object_held ps o ≡ true))
        → (object_of (z ∷ xs) o ≡ Some x) × (is_object_held ps o ≡ true)
    by_test true t rest =
        let f : object_of (z ∷ held_objects ps xs) o ≡ Some x = rw t at e in
        elim (cases_eq z.number o) [
          | inl n ↦ let s = same z.number o n in (rw s (rw s at f), rw (← n) t)
          | inr d ↦ let s = differs z.number o d in let both = rest (rw s at f) in (rw s both.0, both.1)
        ]
    by_test false t rest =
        let f : object_of (held_objects ps xs) o ≡ Some x = rw t at e in
        let both = rest f in
        elim (cases_eq z.number o) [
          | inl n ↦ absurd (let u : is_object_held ps o ≡ false = rw (← n) t in let v = both.1 in cc)
          | inr d ↦ let s = differs z.number o d in (rw s both.0, both.1)
        ]

pub held_object-stays : (ps : List Process) (xs : List NumberedObject) (o : ℕ) (x : Object) → object_of xs o ≡ Some x
    → is_object_held ps o ≡ true
    → object_of (held_objects ps xs) o ≡ Some x
held_object-stays ps [] o x e held = absurd (cc)
held_object-stays ps (z ∷ xs) o x e held =
    elim (cases_eq z.number o) [
      | inl n ↦ let s = same z.number o n in let t : is_object_held ps z.number ≡ true = rw n held in
          let f : Some z.object ≡ Some x = rw s at e in rw (t, s) f
      | inr d ↦ let s = differs z.number o d in
          by_test (is_object_held ps z.number) (held_object-stays ps xs o x (rw s at e) held) s
    ]
  where
    by_test : (b : Bool) → object_of (held_objects ps xs) o ≡ Some x → nat_eq z.number o ≡ false
        → object_of (if b then z ∷ held_objects ps xs else held_objects ps xs) o ≡ Some x
    by_test true rest s = rw s rest
    by_test false rest s = rest

pub rising-held : (ps : List Process) (low : ℕ) (xs : List NumberedObject) → AreRisingObjects low xs
    → AreRisingObjects low (held_objects ps xs)
rising-held ps low [] r = tt
rising-held ps low (z ∷ xs) r = by_test (is_object_held ps z.number) (rising-held ps (z.number + 1) xs r.2)
  where
    by_test : (b : Bool) → AreRisingObjects (z.number + 1) (held_objects ps xs)
        → AreRisingObjects low (if b then z ∷ held_objects ps xs else held_objects ps xs)
    by_test true rest = (r.0, r.1, rest)
    by_test false rest = rising_objects-lower (z.number + 1) low (held_objects ps xs) (omega (arith, r.0)) rest

-- The processes whose object is listed.
pub process_held-by : (low : ℕ) (xs : List NumberedObject) (w : ℕ) → AreRisingObjects low xs
    → is_process_held xs w ≡ true
    → (o : ℕ) × (object_of xs o ≡ Some (ProcessObject w))
process_held-by low [] w r e = absurd (cc)
process_held-by low (z ∷ xs) w r e =
    by_test (or_true (is_object_of z.object w) (is_process_held xs w) e) (process_held-by (z.number + 1) xs w r.2)
  where
    is_its : (x : Object) → is_object_of x w ≡ true → x ≡ ProcessObject w
    is_its (ProcessObject v) t =
        elim (cases_eq v w) [ inl n ↦ ap ProcessObject n | inr d ↦ let s = differs v w d in absurd (cc) ]
    is_its (Section words) t = absurd (cc)
    is_its (Event e) t = absurd (cc)
    is_its (Mutex owner) t = absurd (cc)
    is_its (Pipe bytes) t = absurd (cc)
    is_its (TerminalObject terminal) t = absurd (cc)

    by_test : (is_object_of z.object w ≡ true) ⊎ (is_process_held xs w ≡ true)
        → (is_process_held xs w ≡ true → (o : ℕ) × (object_of xs o ≡ Some (ProcessObject w)))
        → (o : ℕ) × (object_of (z ∷ xs) o ≡ Some (ProcessObject w))
    by_test (inl t) rest = let s = same z.number z.number refl in (z.number, rw s (ap Some (is_its z.object t)))
    by_test (inr t) rest =
        let at = rest t in
        let b = rising_objects-bound (z.number + 1) xs at.0 (ProcessObject w) r.2 at.1 in
        let s = differs z.number at.0 (λ n. omega (arith, b.0)) in
        (at.0, rw s at.1)

pub is-process_held : (xs : List NumberedObject) (w o : ℕ) → object_of xs o ≡ Some (ProcessObject w)
    → is_process_held xs w ≡ true
is-process_held [] w o e = absurd (cc)
is-process_held (z ∷ xs) w o e =
    elim (cases_eq z.number o) [
      | inl n ↦ let s = same z.number o n in let f : Some z.object ≡ Some (ProcessObject w) = rw s at e in
          let g : z.object ≡ ProcessObject w = cc in
          or_left (is_object_of z.object w) (is_process_held xs w) (rw g (same w w refl))
      | inr d ↦ let s = differs z.number o d in
          or_right (is_object_of z.object w) (is_process_held xs w) (is-process_held xs w o (rw s at e))
    ]

pub kept_process : (os : List NumberedObject) (low next : ℕ) (ps : List Process) (w : ℕ) (p : Process)
    → AreRisingProcesses low next ps
    → process_of (kept_processes os ps) w ≡ Some p
    → (process_of ps w ≡ Some p) × ((is_alive p.life || is_process_held os w) ≡ true)
kept_process os low next [] w p r e = absurd (cc)
kept_process os low next (q ∷ ps) w p r e =
    by_test (is_alive q.life || is_process_held os q.number) refl (kept_process os (q.number + 1) next ps w p r.2)
  where
    by_test : (b : Bool) → (is_alive q.life || is_process_held os q.number) ≡ b
        → (process_of (kept_processes os ps) w ≡ Some p
        → (process_of ps w ≡ Some p) × ((is_alive p.life || is_process_held os w) ≡ true))
        → (process_of (q ∷ ps) w ≡ Some p) × ((is_alive p.life || is_process_held os w) ≡ true)
    by_test true t rest =
        let f : process_of (q ∷ kept_processes os ps) w ≡ Some p = rw t at e in
        elim (cases_eq q.number w) [
          | inl n ↦ let s = same q.number w n in let g : Some q ≡ Some p = rw s at f in let h : q ≡ p = cc in
              (rw s g, rw (← h, ← n) t)
          | inr d ↦ let s = differs q.number w d in let both = rest (rw s at f) in (rw s both.0, both.1)
        ]
    by_test false t rest =
        let f : process_of (kept_processes os ps) w ≡ Some p = rw t at e in
        let both = rest f in
        elim (cases_eq q.number w) [
          | inl n ↦ absurd (not_none (process_of ps w) p both.0
              (rising-absent (q.number + 1) next ps w r.2 (inl (omega (arith, n)))))
          | inr d ↦ let s = differs q.number w d in (rw s both.0, both.1)
        ]

pub kept_process-stays : (os : List NumberedObject) (ps : List Process) (w : ℕ) (p : Process) → process_of ps w ≡ Some p
    → (is_alive p.life || is_process_held os w) ≡ true → process_of (kept_processes os ps) w ≡ Some p
kept_process-stays os [] w p e keep = absurd (cc)
kept_process-stays os (q ∷ ps) w p e keep =
    elim (cases_eq q.number w) [
      | inl n ↦ let s = same q.number w n in let g : Some q ≡ Some p = rw s at e in let h : q ≡ p = cc in
          let t : (is_alive q.life || is_process_held os q.number) ≡ true =
          rw (h, sym (ap (λ (x : Process). x.number) h) ∙ n) keep in rw (t, s) g
      | inr d ↦ let s = differs q.number w d in
          by_test (is_alive q.life || is_process_held os q.number) (kept_process-stays os ps w p (rw s at e) keep) s
    ]
  where
    by_test : (b : Bool) → process_of (kept_processes os ps) w ≡ Some p → nat_eq q.number w ≡ false
        → process_of (if b then q ∷ kept_processes os ps else kept_processes os ps) w ≡ Some p
    by_test true rest s = rw s rest
    by_test false rest s = rest

pub rising-kept : (os : List NumberedObject) (low next : ℕ) (ps : List Process) → AreRisingProcesses low next ps
    → AreRisingProcesses low next (kept_processes os ps)
rising-kept os low next [] r = tt
rising-kept os low next (q ∷ ps) r =
    by_test (is_alive q.life || is_process_held os q.number) (rising-kept os (q.number + 1) next ps r.2)
  where
    by_test : (b : Bool) → AreRisingProcesses (q.number + 1) next (kept_processes os ps)
        → AreRisingProcesses low next (if b then q ∷ kept_processes os ps else kept_processes os ps)
    by_test true rest = (r.0, r.1, rest)
    by_test false rest = rising-lower (q.number + 1) low next (kept_processes os ps) (omega (arith, r.0)) rest
