-- The words of the section and the terminal, as the list of the objects tells them: they stay where an object of
-- another kind comes, and where those that nobody holds go, if the section and the terminal are held.
use Rattle.std.proofs.Common.{◌≡◌, ◌⊎◌, inl, inr, ℕ, ◌+◌, Bool, true, false, nat_lt, if◌then◌else◌, List, [], ◌∷◌}
use Rattle.std.proofs.Common.{Option, Some, refl, ap, ◌∙◌, sym}
use Rattle.tty_spec.specs.Terminal.{Terminal}
use Rattle.win32_spec.specs.Ends.{is_object_held, held_objects}
use Rattle.win32_spec.specs.Lookup.{object_of, add_object, words_or, section_words, terminal_or, terminal_in}
use Rattle.win32_spec.specs.State.{Object, Section, Event, Mutex, Pipe, ProcessObject, TerminalObject, NumberedObject}
use Rattle.win32_spec.specs.State.{Process}
use Rattle.win32_spec.specs.WellFormed.{AreRisingObjects}
use Rattle.world_spec.specs.EndLaws.{found-later, found-first}

-- a look at a list of objects, which goes by what each object adds to what those behind it tell
module _ {X : Type 0} (look : List NumberedObject → Option X) (adds : Object → Option X → Option X)
    (step : (x : NumberedObject) (xs : List NumberedObject) → look (x ∷ xs) ≡ adds x.object (look xs)) where
  -- an object that adds nothing
  abbrev pub AddsNothing : Object → Type 0
  AddsNothing y = (rest : Option X) → adds y rest ≡ rest

  look-added : (o : ℕ) (y : Object) (xs : List NumberedObject) → AddsNothing y → look (add_object o y xs) ≡ look xs
  look-added o y [] nothing = step (record { number = o; object = y }) [] ∙ nothing (look [])
  look-added o y (x ∷ xs) nothing = by_test (nat_lt o x.number) (look-added o y xs nothing)
    where
      by_test : (b : Bool) → look (add_object o y xs) ≡ look xs
          → look (if b then record { number = o; object = y } ∷ x ∷ xs else x ∷ add_object o y xs) ≡ look (x ∷ xs)
      by_test true e = step (record { number = o; object = y }) (x ∷ xs) ∙ nothing (look (x ∷ xs))
      by_test false e = step x (add_object o y xs) ∙ (ap (adds x.object) e ∙ sym (step x xs))

  look-held : (ps : List Process) (low : ℕ) (xs : List NumberedObject) → AreRisingObjects low xs
      → ((o : ℕ) (y : Object) → object_of xs o ≡ Some y → (is_object_held ps o ≡ true) ⊎ AddsNothing y)
      → look (held_objects ps xs) ≡ look xs
  look-held ps low [] r each = refl
  look-held ps low (x ∷ xs) r each =
      by_test (is_object_held ps x.number) refl (each x.number x.object (found-first x xs))
      (look-held ps (x.number + 1) xs r.2 (λ o y e. each o y (found-later low x xs r o y e)))
    where
      by_test : (b : Bool) → is_object_held ps x.number ≡ b → (is_object_held ps x.number ≡ true) ⊎ AddsNothing x.object
          → look (held_objects ps xs) ≡ look xs
          → look (if b then x ∷ held_objects ps xs else held_objects ps xs) ≡ look (x ∷ xs)
      by_test true t case e = step x (held_objects ps xs) ∙ (ap (adds x.object) e ∙ sym (step x xs))
      by_test false t (inl held) e = absurd (let f : true ≡ false = sym held ∙ t in cc)
      by_test false t (inr nothing) e = e ∙ (sym (nothing (look xs)) ∙ sym (step x xs))

-- An object that comes and is neither a section nor the terminal.
abbrev pub IsNoSection : Object → Type 0
IsNoSection y = (rest : Option (List ℕ)) → words_or y rest ≡ rest

abbrev pub IsNoTerminal : Object → Type 0
IsNoTerminal y = (rest : Option Terminal) → terminal_or y rest ≡ rest

pub section_words-added : (o : ℕ) (y : Object) (xs : List NumberedObject) → IsNoSection y
    → section_words (add_object o y xs) ≡ section_words xs
section_words-added = look-added section_words words_or (λ x xs. refl)

pub terminal_in-added : (o : ℕ) (y : Object) (xs : List NumberedObject) → IsNoTerminal y
    → terminal_in (add_object o y xs) ≡ terminal_in xs
terminal_in-added = look-added terminal_in terminal_or (λ x xs. refl)

-- Objects that nobody holds go, and the section is held.
pub section_words-held : (ps : List Process) (low : ℕ) (xs : List NumberedObject) → AreRisingObjects low xs
    → ((o : ℕ) (words : List ℕ) → object_of xs o ≡ Some (Section words) → is_object_held ps o ≡ true)
    → section_words (held_objects ps xs) ≡ section_words xs
section_words-held ps low xs r held = look-held section_words words_or (λ x ys. refl) ps low xs r each
  where
    each : (o : ℕ) (y : Object) → object_of xs o ≡ Some y → (is_object_held ps o ≡ true) ⊎ IsNoSection y
    each o (Section words) e = inl (held o words e)
    each o (Event v) e = inr (λ rest. refl)
    each o (Mutex owner) e = inr (λ rest. refl)
    each o (Pipe bytes) e = inr (λ rest. refl)
    each o (ProcessObject v) e = inr (λ rest. refl)
    each o (TerminalObject terminal) e = inr (λ rest. refl)

-- The same of the terminal.
pub terminal_in-held : (ps : List Process) (low : ℕ) (xs : List NumberedObject) → AreRisingObjects low xs
    → ((o : ℕ) (x : Terminal) → object_of xs o ≡ Some (TerminalObject x) → is_object_held ps o ≡ true)
    → terminal_in (held_objects ps xs) ≡ terminal_in xs
terminal_in-held ps low xs r held = look-held terminal_in terminal_or (λ x ys. refl) ps low xs r each
  where
    each : (o : ℕ) (y : Object) → object_of xs o ≡ Some y → (is_object_held ps o ≡ true) ⊎ IsNoTerminal y
    each o (TerminalObject x) e = inl (held o x e)
    each o (Event v) e = inr (λ rest. refl)
    each o (Mutex owner) e = inr (λ rest. refl)
    each o (Pipe bytes) e = inr (λ rest. refl)
    each o (ProcessObject v) e = inr (λ rest. refl)
    each o (Section words) e = inr (λ rest. refl)
