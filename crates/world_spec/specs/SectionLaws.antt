-- The words of the section, by whatever handle: there is one section, so a handle on a section is on that one.
use Rattle.std.proofs.Common.{◌≡◌, ◌≢◌, inl, inr, ℕ, ◌+◌, List, [], ◌∷◌}
use Rattle.std.proofs.Common.{Option, Some, None, slice_index_or, refl, sym, ap, ◌∙◌}
use Rattle.std.proofs.Common.{arith}
use Rattle.std.proofs.lemmas.Bool.{cases_eq}
use Rattle.script_spec.specs.declared.script.Script.{Script}
use Rattle.tty_spec.specs.Terminal.{Terminal}
use Rattle.win32_spec.specs.State.{Object, Section, Event, Mutex, Pipe, ProcessObject, TerminalObject, NumberedObject}
use Rattle.win32_spec.specs.State.{Win32State}
use Rattle.win32_spec.specs.Lookup.{object_number, object_of, change_object, words_or, section_words, terminal_or}
use Rattle.win32_spec.specs.Lookup.{terminal_in}
use Rattle.win32_spec.specs.LookupLaws.{same, differs}
use Rattle.win32_spec.specs.Named.{section_named, object_at, named_by, object_number_by, number_or_zero}
use Rattle.win32_spec.specs.ObjectLaws.{rising_objects-bound}
use Rattle.win32_spec.specs.WellFormed.{AreRisingObjects, IsWellFormed}
use Rattle.win32_spec.specs.WordCalls.{words_by, with_words}
use Rattle.layer_spec.specs.Words.{word_in}
use Rattle.world_spec.specs.EndLaws.{found-later, found-first}

-- In a list in which one section stands at most, the section that is found at o has the words, and other words where it
-- is changed.
section_at : (o low : ℕ) (words others : List ℕ) (xs : List NumberedObject) → AreRisingObjects low xs
    → ((a : ℕ) (ws : List ℕ) → object_of xs a ≡ Some (Section ws) → a ≡ o) → object_of xs o ≡ Some (Section words)
    → (section_words xs ≡ Some words) × (section_words (change_object o (Section others) xs) ≡ Some others)
section_at o low words others [] r only e = absurd (cc)
section_at o low words others (x ∷ xs) r only e = elim (cases_eq x.number o) [
  | inl n ↦
      let s = same x.number o n in
      let is : Some x.object ≡ Some (Section words) = rw s at e in
      let object : x.object ≡ Section words = cc in
      (rw object refl, rw s refl)
  | inr d ↦
      let s = differs x.number o d in
      let rest = section_at o (x.number + 1) words others xs r.2
      (λ a ws f. only a ws (found-later low x xs r a (Section ws) f)) (rw s at e) in
      let passed : (z : Option (List ℕ)) → words_or x.object z ≡ z = λ z. by_object x.object refl z d in
      (passed (section_words xs) ∙ rest.0, rw s (passed (section_words (change_object o (Section others) xs)) ∙ rest.1))
]
  where
    by_object : (y : Object) → x.object ≡ y → (z : Option (List ℕ)) → x.number ≢ o → words_or y z ≡ z
    by_object (Section ws) is z d = absurd (d (only x.number ws (found-first x xs ∙ ap (λ k. Some k) is)))
    by_object (Event v) is z d = refl
    by_object (Mutex owner) is z d = refl
    by_object (Pipe bytes) is z d = refl
    by_object (ProcessObject v) is z d = refl
    by_object (TerminalObject terminal) is z d = refl

-- A section that changes leaves the terminal.
terminal_at : (o low : ℕ) (others : List ℕ) (xs : List NumberedObject) → AreRisingObjects low xs
    → ((t : Terminal) → object_of xs o ≡ Some (TerminalObject t) → ⊥)
    → terminal_in (change_object o (Section others) xs) ≡ terminal_in xs
terminal_at o low others [] r never = refl
terminal_at o low others (x ∷ xs) r never = elim (cases_eq x.number o) [
  | inl n ↦
      let s = same x.number o n in
      let rest = terminal_at o (x.number + 1) others xs r.2 (λ t e.
      let bound = rising_objects-bound (x.number + 1) xs o (TerminalObject t) r.2 e in omega (arith, bound.0, n)) in
      let passed : terminal_or x.object (terminal_in xs) ≡ terminal_in xs =
      by_object x.object (λ t is. never t (rw s (ap (λ k. Some k) is))) (terminal_in xs) in
      rw s (rest ∙ sym passed)
  | inr d ↦
      let s = differs x.number o d in
      let rest = terminal_at o (x.number + 1) others xs r.2
      (λ t e. never t (found-later low x xs r o (TerminalObject t) e)) in
      rw s (ap (terminal_or x.object) rest)
]
  where
    by_object : (y : Object) → ((t : Terminal) → y ≡ TerminalObject t → ⊥) → (z : Option Terminal) → terminal_or y z ≡ z
    by_object (Section ws) never z = refl
    by_object (Event v) never z = refl
    by_object (Mutex owner) never z = refl
    by_object (Pipe bytes) never z = refl
    by_object (ProcessObject v) never z = refl
    by_object (TerminalObject t) never z = absurd (never t refl)

-- the section that a handle names
pub section_by : (s : Win32State) (w h : ℕ) (words : List ℕ) → words_by s w h ≡ Some words
    → object_of s.objects (object_number_by s w h) ≡ Some (Section words)
section_by s w h words e = by_name (named_by s w h) refl e
  where
    by_object : (o : Option Object) → section_named o ≡ Some words → o ≡ Some (Section words)
    by_object None f = absurd (cc)
    by_object (Some (Section ws)) f = ap (λ k. Some (Section k)) (let g : ws ≡ words = cc in g)
    by_object (Some (Event v)) f = absurd (cc)
    by_object (Some (Mutex owner)) f = absurd (cc)
    by_object (Some (Pipe bytes)) f = absurd (cc)
    by_object (Some (ProcessObject v)) f = absurd (cc)
    by_object (Some (TerminalObject terminal)) f = absurd (cc)

    by_name : (o : Option ℕ) → named_by s w h ≡ o → section_named (object_at s o) ≡ Some words
        → object_of s.objects (number_or_zero (named_by s w h)) ≡ Some (Section words)
    by_name None n f = absurd (cc)
    by_name (Some names) n f =
        ap (λ o. object_of s.objects (number_or_zero o)) n ∙ by_object (object_of s.objects (object_number names)) f

module _ (script : Script) (s : Win32State) (h : IsWellFormed script s) (w k : ℕ) (words others : List ℕ)
    (named : words_by s w k ≡ Some words) where
  at : (section_words s.objects ≡ Some words) × (section_words (with_words s w k others).objects ≡ Some others)
  at =
      let o = section_by s w k words named in
      section_at (object_number_by s w k) 0 words others s.objects h.formed.objects
      (λ a ws e. h.formed.only a (object_number_by s w k) (Section ws) (Section words) 0 e o refl refl) o

  -- it is the section that the state's words are of
  pub section-found : section_words s.objects ≡ Some words
  section-found = at.0

  -- each word before the change and after it
  pub word-before : (i : ℕ) → word_in s i ≡ slice_index_or words i 0
  word-before i = rw at.0 refl

  pub word-after : (i : ℕ) → word_in (with_words s w k others) i ≡ slice_index_or others i 0
  word-after i = rw at.1 refl

  pub terminal-after : terminal_in (with_words s w k others).objects ≡ terminal_in s.objects
  terminal-after =
      let o = section_by s w k words named in
      terminal_at (object_number_by s w k) 0 others s.objects h.formed.objects
      (λ t e. let f : Some (Section words) ≡ Some (TerminalObject t) = sym o ∙ e in cc)
