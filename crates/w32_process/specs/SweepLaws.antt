-- What is left without what nobody holds, by what is found in it.
use Rattle.std.proofs.Common.{◌≡◌, ◌≢◌, inl, inr, ℕ, Bool, true, false, ◌||◌, if◌then◌else◌, List, Option}
use Rattle.std.proofs.Common.{Some, None, refl, sym, ap, ◌∙◌}
use Rattle.std.proofs.lemmas.Bool.{cases_eq}
use Rattle.win32_spec.specs.Handles.{handle_of}
use Rattle.win32_spec.specs.State.{Object, ProcessObject, NumberedObject, Process}
use Rattle.win32_spec.specs.Lookup.{is_alive, process_of, object_of}
use Rattle.win32_spec.specs.Ends.{is_object_held, held_objects, is_process_held, kept_processes}
use Rattle.win32_spec.specs.WellFormed.{AreRisingProcesses, AreRisingObjects}
use Rattle.win32_spec.specs.LookupLaws.{not_none}
use Rattle.win32_spec.specs.HeldLaws.{IsHeldBy, HaveRisingHandles, held-by, is-held, held_object, held_object-stays}
use Rattle.win32_spec.specs.HeldLaws.{rising-held, process_held-by, is-process_held, kept_process, kept_process-stays}
use Rattle.win32_spec.specs.HeldLaws.{rising-kept}
use Rattle.w32_handles.specs.Shown.{without_object}
use Rattle.w32_handles.specs.ShownLaws.{FindsObjects, same_objects, object_of-without_same, object_of-without_other}
use Rattle.w32_handles.specs.ShownLaws.{rising-without_object}
use Rattle.w32_process.specs.ProcessLaws.{Finds, same_processes}

-- what is kept of an object, or of a process, of which somebody holds it or not
abbrev pub object_kept : Bool → Option Object → Option Object
object_kept true o = o
object_kept false o = None

abbrev pub process_kept_by : Bool → Option Process → Option Process
process_kept_by held None = None
process_kept_by held (Some p) = if is_alive p.life || held then Some p else None

-- what is kept of what was kept by more
pub kept-twice : (a b : Bool) → (a ≡ true → b ≡ true) → (o : Option Process)
    → process_kept_by a (process_kept_by b o) ≡ process_kept_by a o
kept-twice a b more None = refl
kept-twice a b more (Some p) = by_life a b more (is_alive p.life) refl
  where
    by_life : (a b : Bool) → (a ≡ true → b ≡ true) → (alive : Bool) → is_alive p.life ≡ alive
        → process_kept_by a (if alive || b then Some p else None) ≡ (if alive || a then Some p else None)
    by_life a b more true l = ap (λ (c : Bool). if c || a then Some p else None) l
    by_life true true more false l = ap (λ (c : Bool). if c || true then Some p else None) l
    by_life false true more false l = ap (λ (c : Bool). if c || false then Some p else None) l
    by_life true false more false l = absurd (let g : false ≡ true = more refl in cc)
    by_life false false more false l = refl

pub found-held : (ps : List Process) (xs : List NumberedObject) (o : ℕ)
    → object_of (held_objects ps xs) o ≡ object_kept (is_object_held ps o) (object_of xs o)
found-held ps xs o =
    by_answer (object_of (held_objects ps xs) o) refl (is_object_held ps o) refl (object_of xs o) refl
  where
    by_answer : (found : Option Object) → object_of (held_objects ps xs) o ≡ found → (b : Bool)
        → is_object_held ps o ≡ b → (old : Option Object) → object_of xs o ≡ old → found ≡ object_kept b old
    by_answer (Some x) e b h old q =
        let both = held_object ps xs o x e in
        let t : b ≡ true = sym h ∙ both.1 in
        let u : old ≡ Some x = sym q ∙ both.0 in
        rw (t, u) refl
    by_answer None e false h old q = refl
    by_answer None e true h None q = refl
    by_answer None e true h (Some x) q =
        absurd (not_none (object_of (held_objects ps xs) o) x (held_object-stays ps xs o x q h) e)

pub found-kept : (os : List NumberedObject) (low next : ℕ) (ps : List Process) → AreRisingProcesses low next ps
    → (v : ℕ) → process_of (kept_processes os ps) v ≡ process_kept_by (is_process_held os v) (process_of ps v)
found-kept os low next ps r v =
    by_answer (process_of (kept_processes os ps) v) refl (process_of ps v) refl
  where
    by_test : (p : Process) → process_of ps v ≡ Some p → process_of (kept_processes os ps) v ≡ None
        → (b : Bool) → (is_alive p.life || is_process_held os v) ≡ b → None ≡ (if b then Some p else None)
    by_test p q e true keep =
        absurd (not_none (process_of (kept_processes os ps) v) p (kept_process-stays os ps v p q keep) e)
    by_test p q e false keep = refl

    by_answer : (found : Option Process) → process_of (kept_processes os ps) v ≡ found → (old : Option Process)
        → process_of ps v ≡ old → found ≡ process_kept_by (is_process_held os v) old
    by_answer (Some p) e old q =
        let both = kept_process os low next ps v p r e in
        let u : old ≡ Some p = sym q ∙ both.0 in
        rw (u, both.1) refl
    by_answer None e None q = refl
    by_answer None e (Some p) q = by_test p q e (is_alive p.life || is_process_held os v) refl

-- where somebody holds each object, or each but one, what stays
pub held-all : (ps : List Process) (low : ℕ) (xs : List NumberedObject) → AreRisingObjects low xs
    → ((o : ℕ) (x : Object) → object_of xs o ≡ Some x → is_object_held ps o ≡ true)
    → held_objects ps xs ≡ xs
held-all ps low xs r held = same_objects low low (held_objects ps xs) xs (rising-held ps low xs r) r finds
  where
    by_answer : (o : ℕ) (old : Option Object) → object_of xs o ≡ old → object_kept (is_object_held ps o) old ≡ old
    by_answer o None q = by_test (is_object_held ps o)
      where
        by_test : (b : Bool) → object_kept b None ≡ None
        by_test true = refl
        by_test false = refl
    by_answer o (Some x) q = rw (held o x q) refl

    finds : FindsObjects (held_objects ps xs) xs
    finds o = found-held ps xs o ∙ by_answer o (object_of xs o) refl

pub held-but : (ps : List Process) (low : ℕ) (xs : List NumberedObject) (gone : ℕ) → AreRisingObjects low xs
    → is_object_held ps gone ≡ false
    → ((o : ℕ) (x : Object) → object_of xs o ≡ Some x → o ≢ gone → is_object_held ps o ≡ true)
    → held_objects ps xs ≡ without_object gone xs
held-but ps low xs gone r unheld held =
    same_objects low low (held_objects ps xs) (without_object gone xs) (rising-held ps low xs r)
    (rising-without_object gone low xs r) finds
  where
    by_answer : (o : ℕ) → o ≢ gone → (old : Option Object) → object_of xs o ≡ old
        → object_kept (is_object_held ps o) old ≡ old
    by_answer o d None q = by_test (is_object_held ps o)
      where
        by_test : (b : Bool) → object_kept b None ≡ None
        by_test true = refl
        by_test false = refl
    by_answer o d (Some x) q = rw (held o x q d) refl

    here : object_of (held_objects ps xs) gone ≡ object_of (without_object gone xs) gone
    here = found-held ps xs gone ∙ ap (λ b. object_kept b (object_of xs gone)) unheld
        ∙ sym (object_of-without_same gone xs)

    finds : FindsObjects (held_objects ps xs) (without_object gone xs)
    finds o =
        elim (cases_eq o gone) [
          | inl e ↦ rw e here
          | inr d ↦ found-held ps xs o ∙ by_answer o d (object_of xs o) refl
              ∙ sym (object_of-without_other gone xs o d)
        ]

-- where each process lives or its object is listed, all stay
pub kept-all : (os : List NumberedObject) (low next : ℕ) (ps : List Process) → AreRisingProcesses low next ps
    → ((v : ℕ) (p : Process) → process_of ps v ≡ Some p → is_alive p.life ≡ false → is_process_held os v ≡ true)
    → kept_processes os ps ≡ ps
kept-all os low next ps r held =
    same_processes low next low next (kept_processes os ps) ps (rising-kept os low next ps r) r finds
  where
    by_life : (v : ℕ) (p : Process) → process_of ps v ≡ Some p → (b : Bool) → is_alive p.life ≡ b
        → (if b || is_process_held os v then Some p else None) ≡ Some p
    by_life v p q true e = refl
    by_life v p q false e = rw (held v p q e) refl

    by_answer : (v : ℕ) (old : Option Process) → process_of ps v ≡ old
        → process_kept_by (is_process_held os v) old ≡ old
    by_answer v None q = refl
    by_answer v (Some p) q = by_life v p q (is_alive p.life) refl

    finds : Finds (kept_processes os ps) ps
    finds v = found-kept os low next ps r v ∙ by_answer v (process_of ps v) refl

-- The object of a process is still listed without another object, and isn't without itself.
pub is_process_held-without : (low : ℕ) (xs : List NumberedObject) (gone v : ℕ) → AreRisingObjects low xs
    → object_of xs gone ≢ Some (ProcessObject v) → is_process_held xs v ≡ true
    → is_process_held (without_object gone xs) v ≡ true
is_process_held-without low xs gone v r other held =
    let at = process_held-by low xs v r held in
    let d : at.0 ≢ gone = λ e. other (ap (object_of xs) (sym e) ∙ at.1) in
    is-process_held (without_object gone xs) v at.0 (object_of-without_other gone xs at.0 d ∙ at.1)

pub is_process_held-gone : (low : ℕ) (xs : List NumberedObject) (gone v : ℕ) → AreRisingObjects low xs
    → ((a : ℕ) → object_of xs a ≡ Some (ProcessObject v) → a ≡ gone)
    → is_process_held (without_object gone xs) v ≡ false
is_process_held-gone low xs gone v r only = by_test (is_process_held (without_object gone xs) v) refl
  where
    by_test : (b : Bool) → is_process_held (without_object gone xs) v ≡ b → b ≡ false
    by_test false e = refl
    by_test true e =
        let at = process_held-by low (without_object gone xs) v (rising-without_object gone low xs r) e in
        absurd (elim (cases_eq at.0 gone) [
          | inl n ↦ not_none (object_of (without_object gone xs) gone) (ProcessObject v)
              (ap (object_of (without_object gone xs)) (sym n) ∙ at.1) (object_of-without_same gone xs)
          | inr d ↦ d (only at.0 (sym (object_of-without_other gone xs at.0 d) ∙ at.1))
        ])

-- each handle of a live process is one of a live process there too
abbrev pub HandsOn : List Process → List Process → Type 0
HandsOn ps qs = (v : ℕ) (p : Process) (k names : ℕ) → process_of ps v ≡ Some p → is_alive p.life ≡ true
    → handle_of p.handles k ≡ Some names
    → (q : Process) × (process_of qs v ≡ Some q) × (is_alive q.life ≡ true) × (handle_of q.handles k ≡ Some names)

-- who holds an object, by what is found of the live processes
pub held-over : (low next : ℕ) (ps qs : List Process) (o : ℕ) → AreRisingProcesses low next ps → HaveRisingHandles ps
    → HandsOn ps qs
    → is_object_held ps o ≡ true → is_object_held qs o ≡ true
held-over low next ps qs o r rising over held =
    let at : IsHeldBy ps o = held-by low next ps o r rising held in
    let q = over at.number at.process at.handle at.names at.found at.alive at.named in
    is-held qs o (record {
      number = at.number;
      process = q.0;
      found = q.1;
      alive = q.2;
      handle = at.handle;
      names = at.names;
      named = q.3;
      object = at.object;
    })
