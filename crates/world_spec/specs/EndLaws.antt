-- The end of a process that isn't the host: the section and the terminal stay, since the host holds them, and every
-- process that lives on is as before.
use Rattle.std.proofs.Common.{◌≡◌, ◌≢◌, inl, inr, ℕ, ◌+◌, Bool, true, false, if◌then◌else◌, List, [], ◌∷◌, Option, Some}
use Rattle.std.proofs.Common.{None, refl, sym, ap, ◌∙◌, subst, arith}
use Rattle.script_spec.specs.declared.script.Script.{Script}
use Rattle.tty_spec.specs.Terminal.{Terminal}
use Rattle.win32_spec.specs.State.{Object, Section, Event, Mutex, Pipe, ProcessObject, TerminalObject, NumberedObject}
use Rattle.win32_spec.specs.State.{Process, Win32State}
use Rattle.win32_spec.specs.Lookup.{is_alive, process_of, object_number, object_of, change_process, words_or}
use Rattle.win32_spec.specs.Lookup.{section_words, terminal_or, terminal_in}
use Rattle.win32_spec.specs.Ends.{is_object_held, held_objects, objects_left_by, object_left_by, ended_process}
use Rattle.win32_spec.specs.Ends.{with_end}
use Rattle.win32_spec.specs.Ends.{is_process_held}
use Rattle.win32_spec.specs.Handles.{handle_of}
use Rattle.win32_spec.specs.Named.{object_by, object_at, named_by, handles_of}
use Rattle.win32_spec.specs.WellFormed.{AreRisingObjects, IsWellFormed, only_number}
use Rattle.win32_spec.specs.LookupLaws.{or_left, same, differs, process_of-change_other, changed_process}
use Rattle.win32_spec.specs.LookupLaws.{rising-change_process}
use Rattle.win32_spec.specs.HeldLaws.{is-held, kept_process, kept_process-stays}
use Rattle.win32_spec.specs.FormedLaws.{live_found}
use Rattle.win32_spec.specs.ObjectLaws.{rising_objects-bound}
use Rattle.world_spec.specs.Sound.{IsHosted}

-- an object that is found behind the first one is found with it in front
pub found-later : (low : ℕ) (x : NumberedObject) (xs : List NumberedObject) → AreRisingObjects low (x ∷ xs) → (o : ℕ)
    (y : Object) → object_of xs o ≡ Some y → object_of (x ∷ xs) o ≡ Some y
found-later low x xs r o y e =
    let bound = rising_objects-bound (x.number + 1) xs o y r.2 e in
    let d = differs x.number o (λ n. omega (arith, bound.0, n)) in rw d e

-- the first one is found
pub found-first : (x : NumberedObject) (xs : List NumberedObject) → object_of (x ∷ xs) x.number ≡ Some x.object
found-first x xs = let s = same x.number x.number refl in rw s refl

-- Where each section is held, what is left of the objects has the same words.
section_words-left : (ps : List Process) (w low : ℕ) (xs : List NumberedObject) → AreRisingObjects low xs
    → ((o : ℕ) (words : List ℕ) → object_of xs o ≡ Some (Section words) → is_object_held ps o ≡ true)
    → section_words (held_objects ps (objects_left_by w xs)) ≡ section_words xs
section_words-left ps w low [] r held = refl
section_words-left ps w low (x ∷ xs) r held =
    by_object x.object refl
    (section_words-left ps w (x.number + 1) xs r.2 (λ o words e. held o words
    (found-later low x xs r o (Section words) e)))
  where
    rest : Option (List ℕ)
    rest = section_words (held_objects ps (objects_left_by w xs))

    -- whether it is held or not, an object without words is passed over
    passed : (y : Object) → x.object ≡ y → words_or (object_left_by w y) rest ≡ rest
        → words_or y (section_words xs) ≡ section_words xs
        → rest ≡ section_words xs
        → section_words (held_objects ps (objects_left_by w (x ∷ xs))) ≡ section_words (x ∷ xs)
    passed y is left whole e =
        let there : words_or x.object (section_words xs) ≡ section_words xs =
        subst (λ z. words_or z (section_words xs) ≡ section_words xs) (sym is) whole in
        let gone : words_or (object_left_by w x.object) rest ≡ rest =
        subst (λ z. words_or (object_left_by w z) rest ≡ rest) (sym is) left in
        by_test (is_object_held ps x.number) gone there
      where
        by_test : (b : Bool) → words_or (object_left_by w x.object) rest ≡ rest
            → words_or x.object (section_words xs) ≡ section_words xs
            → section_words (if b then (record x { object = object_left_by w x.object }) ∷ held_objects ps
            (objects_left_by w xs)
            else held_objects ps (objects_left_by w xs)) ≡ words_or x.object (section_words xs)
        by_test true gone there = gone ∙ (e ∙ sym there)
        by_test false gone there = e ∙ sym there

    by_object : (y : Object) → x.object ≡ y → rest ≡ section_words xs
        → section_words (held_objects ps (objects_left_by w (x ∷ xs))) ≡ section_words (x ∷ xs)
    by_object (Section words) is e =
        let h : is_object_held ps x.number ≡ true = held x.number words (found-first x xs ∙ ap (λ z. Some z) is) in
        rw (h, is) refl
    by_object (Event v) is e = passed (Event v) is refl refl e
    by_object (Mutex owner) is e = passed (Mutex owner) is refl refl e
    by_object (Pipe bytes) is e = passed (Pipe bytes) is refl refl e
    by_object (ProcessObject v) is e = passed (ProcessObject v) is refl refl e
    by_object (TerminalObject terminal) is e = passed (TerminalObject terminal) is refl refl e

-- The same of the terminal.
terminal_in-left : (ps : List Process) (w low : ℕ) (xs : List NumberedObject) → AreRisingObjects low xs
    → ((o : ℕ) (x : Terminal) → object_of xs o ≡ Some (TerminalObject x) → is_object_held ps o ≡ true)
    → terminal_in (held_objects ps (objects_left_by w xs)) ≡ terminal_in xs
terminal_in-left ps w low [] r held = refl
terminal_in-left ps w low (x ∷ xs) r held =
    by_object x.object refl
    (terminal_in-left ps w (x.number + 1) xs r.2
    (λ o t e. held o t (found-later low x xs r o (TerminalObject t) e)))
  where
    rest : Option Terminal
    rest = terminal_in (held_objects ps (objects_left_by w xs))

    passed : (y : Object) → x.object ≡ y → terminal_or (object_left_by w y) rest ≡ rest
        → terminal_or y (terminal_in xs) ≡ terminal_in xs
        → rest ≡ terminal_in xs
        → terminal_in (held_objects ps (objects_left_by w (x ∷ xs))) ≡ terminal_in (x ∷ xs)
    passed y is left whole e =
        let there : terminal_or x.object (terminal_in xs) ≡ terminal_in xs =
        subst (λ z. terminal_or z (terminal_in xs) ≡ terminal_in xs) (sym is) whole in
        let gone : terminal_or (object_left_by w x.object) rest ≡ rest =
        subst (λ z. terminal_or (object_left_by w z) rest ≡ rest) (sym is) left in
        by_test (is_object_held ps x.number) gone there
      where
        by_test : (b : Bool) → terminal_or (object_left_by w x.object) rest ≡ rest
            → terminal_or x.object (terminal_in xs) ≡ terminal_in xs
            → terminal_in (if b then (record x { object = object_left_by w x.object }) ∷ held_objects ps
            (objects_left_by w xs)
            else held_objects ps (objects_left_by w xs)) ≡ terminal_or x.object (terminal_in xs)
        by_test true gone there = gone ∙ (e ∙ sym there)
        by_test false gone there = e ∙ sym there

    by_object : (y : Object) → x.object ≡ y → rest ≡ terminal_in xs
        → terminal_in (held_objects ps (objects_left_by w (x ∷ xs))) ≡ terminal_in (x ∷ xs)
    by_object (TerminalObject t) is e =
        let h : is_object_held ps x.number ≡ true = held x.number t (found-first x xs ∙ ap (λ z. Some z) is) in
        rw (h, is) refl
    by_object (Event v) is e = passed (Event v) is refl refl e
    by_object (Mutex owner) is e = passed (Mutex owner) is refl refl e
    by_object (Pipe bytes) is e = passed (Pipe bytes) is refl refl e
    by_object (ProcessObject v) is e = passed (ProcessObject v) is refl refl e
    by_object (Section words) is e = passed (Section words) is refl refl e

-- what a handle names, where it names an object
pub named_found : (s : Win32State) (w h : ℕ) (x : Object) → object_by s w h ≡ Some x
    → (names : ℕ) × (named_by s w h ≡ Some names) × (object_of s.objects (object_number names) ≡ Some x)
named_found s w h x e = by_name (named_by s w h) refl e
  where
    by_name : (o : Option ℕ) → named_by s w h ≡ o → object_at s o ≡ Some x
        → (names : ℕ) × (named_by s w h ≡ Some names) × (object_of s.objects (object_number names) ≡ Some x)
    by_name None n f = absurd (cc)
    by_name (Some names) n f = (names, n, f)

module _ (script : Script) (s : Win32State) (h : IsWellFormed script s) (hosted : IsHosted s) (w code : ℕ)
    (d : w ≢ 1) where
  abbrev ended : List Process
  ended = change_process w (ended_process code) s.processes

  -- what a handle of the host names is held after the end
  host_holds : (k names : ℕ) → named_by s 1 k ≡ Some names → is_object_held ended (object_number names) ≡ true
  host_holds k names n =
      let host = live_found (process_of s.processes 1) hosted.lives in
      is-held ended (object_number names) (record {
        number = 1;
        process = host.0;
        found = process_of-change_other w (ended_process code) (λ x. refl) s.processes 1 (λ e. d (sym e)) ∙ host.1;
        alive = host.2;
        handle = k;
        names = names;
        named = ap (λ o. handle_of (handles_of o) k) (sym host.1) ∙ n;
        object = refl;
      })

  -- so is each object that is the only one of its kind, where the host names one of the kind
  only_held : (k : ℕ) (x : Object) (number : ℕ) → object_by s 1 k ≡ Some x → only_number x ≡ Some number → (o : ℕ)
      (y : Object)
      → object_of s.objects o ≡ Some y → only_number y ≡ Some number → is_object_held ended o ≡ true
  only_held k x number e one o y f other =
      let at = named_found s 1 k x e in
      let n : object_number at.0 ≡ o = h.formed.only (object_number at.0) o x y number at.2 f one other in
      subst (λ m. is_object_held ended m ≡ true) n (host_holds k at.0 at.1)

  pub section-end : section_words (with_end s w code).objects ≡ section_words s.objects
  section-end =
      section_words-left ended w 0 s.objects h.formed.objects
      (λ o words e. only_held 1 (Section hosted.section.0) 0 hosted.section.1 refl o (Section words) e refl)

  pub terminal-end : terminal_in (with_end s w code).objects ≡ terminal_in s.objects
  terminal-end =
      terminal_in-left ended w 0 s.objects h.formed.objects
      (λ o x e. only_held 3 (TerminalObject hosted.terminal.0) 1 hosted.terminal.1 refl o (TerminalObject x) e refl)

-- a process that is alive after the end of a process is as before
pub process-end : (script : Script) (s : Win32State) → IsWellFormed script s → (w code v : ℕ) (q : Process)
    → process_of (with_end s w code).processes v ≡ Some q → is_alive q.life ≡ true
    → (process_of s.processes v ≡ Some q) × (v ≢ w)
process-end script s h w code v q f alive =
    let rising = rising-change_process w (ended_process code) (λ x. refl) 1 s.next s.processes h.formed.processes in
    let held = held_objects (change_process w (ended_process code) s.processes) (objects_left_by w s.objects) in
    let kept : process_of (change_process w (ended_process code) s.processes) v ≡ Some q =
    (kept_process held 1 s.next (change_process w (ended_process code) s.processes) v q rising f).0 in
    elim (changed_process w (ended_process code) (λ x. refl) s.processes v q kept) [
      | inl other ↦ (other.1, other.0)
      | inr this ↦ absurd (let a : is_alive q.life ≡ false = ap (λ (x : Process). is_alive x.life) this.3 in cc)
    ]

-- every other process that is alive stays as it is
pub process-end_stays : (s : Win32State) (w code v : ℕ) (q : Process) → process_of s.processes v ≡ Some q
    → is_alive q.life ≡ true → v ≢ w → process_of (with_end s w code).processes v ≡ Some q
process-end_stays s w code v q e alive d =
    let held = held_objects (change_process w (ended_process code) s.processes) (objects_left_by w s.objects) in
    kept_process-stays held (change_process w (ended_process code) s.processes) v q
    (process_of-change_other w (ended_process code) (λ x. refl) s.processes v d ∙ e)
    (or_left (is_alive q.life) (is_process_held held v) alive)
