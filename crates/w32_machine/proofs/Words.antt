-- The section is where the machine keeps its number.
use Rattle.std.proofs.Common.{◌≡◌, ◌∙◌, ℕ, ◌+◌, List, [], ◌∷◌, Option, Some, None, IsSome, IfSome}
use Rattle.std.proofs.Common.{Result}
use Rattle.std.proofs.Common.{MatchResult, refl, sym, ap, subst, arith}
use Rattle.std.specs.Option.{IsSomeAnd}
use Rattle.w32_base.specs.declared.call.Reply.TheVariants as reply
use Rattle.win32_spec.specs.Objects.{load_reply}
use Rattle.win32_spec.specs.State.{Object, Section, Event, Mutex, Pipe, ProcessObject, TerminalObject, NumberedObject}
use Rattle.win32_spec.specs.Lookup.{object_number, object_of, words_or, section_words}
use Rattle.win32_spec.specs.LookupLaws.{same, differs, same_some}
use Rattle.win32_spec.specs.ObjectLaws.{rising_objects-bound}
use Rattle.win32_spec.specs.WellFormed.{AreRisingObjects}
use Rattle.w32_handles.specs.Table.{HeldObject, object_at}
use Rattle.w32_handles.specs.Shown.{object_shown}
use Rattle.w32_handles.specs.ShownLaws.{object_of-named, rising-objects}
use Rattle.w32_section.specs.declared.BadIndex.{BadIndex}
use Rattle.w32_kinds.specs.declared.kind.Kind.{Kind}
use Rattle.w32_kinds.specs.declared.kind.Kind.TheVariants as kind
use Rattle.w32_machine.specs.declared.machine.Machine.TheInside.{Inside}
use Rattle.w32_kinds.specs.Kinds.{IsWord}
use Rattle.w32_machine.specs.Running.{Running}
use Rattle.w32_kinds.specs.Shown.{shown}
use Rattle.w32_machine.specs.View.{view_of}
use Rattle.w32_machine.specs.Sound.{IsKind, IsSound}
use Rattle.w32_machine.proofs.Changing.{lent}

-- the section is listed
section-listed : (low : ℕ) (xs : List NumberedObject) (words : List ℕ) → AreRisingObjects low xs
    → section_words xs ≡ Some words → (o : ℕ) × (object_of xs o ≡ Some (Section words))
section-listed low [] words r e = absurd (cc)
section-listed low (x ∷ xs) words r e =
    by_object x.object refl e (λ f. section-listed (x.number + 1) xs words r.2 f)
  where
    later : (o : ℕ) × (object_of xs o ≡ Some (Section words)) → (o : ℕ) × (object_of (x ∷ xs) o ≡ Some (Section words))
    later at =
        let bound = rising_objects-bound (x.number + 1) xs at.0 (Section words) r.2 at.1 in
        let d = differs x.number at.0 (λ n. omega (arith, bound.0, n)) in
        (at.0, rw d at.1)

    by_object : (z : Object) → x.object ≡ z → words_or z (section_words xs) ≡ Some words
        → (section_words xs ≡ Some words → (o : ℕ) × (object_of xs o ≡ Some (Section words)))
        → (o : ℕ) × (object_of (x ∷ xs) o ≡ Some (Section words))
    by_object (Section w) is f rest =
        let s = same x.number x.number refl in
        let g : w ≡ words = cc in
        (x.number, rw s (ap (λ (k : Object). Some k) (is ∙ ap (λ v. Section v) g)))
    by_object (Event v) is f rest = later (rest f)
    by_object (Mutex owner) is f rest = later (rest f)
    by_object (Pipe bytes) is f rest = later (rest f)
    by_object (ProcessObject v) is f rest = later (rest f)
    by_object (TerminalObject terminal) is f rest = later (rest f)

-- what shows a section is one
shows-section : (x : Kind) (words : List ℕ) → shown x ≡ Section words → x ≡ kind.Section words
shows-section (kind.Section w) words e = ap (λ k. kind.Section k) (let f : w ≡ words = cc in f)
shows-section (kind.Event v) words e = absurd (cc)
shows-section (kind.Mutex owner) words e = absurd (cc)
shows-section (kind.Pipe p) words e = absurd (cc)
shows-section (kind.Process w slot) words e = absurd (cc)
shows-section (kind.Terminal terminal) words e = absurd (cc)

module _ (m : Inside) (sound : IsSound m) (now : Running) (shows : view_of m ≡ now) where
  its_place : (words : List ℕ) → section_words now.win32.objects ≡ Some words
      → (kept : HeldObject Kind) × (object_at m.objects m.section ≡ Some kept) × (kept.object ≡ kind.Section words)
  its_place words e =
      let at = section-listed 0 (view_of m).win32.objects words (rising-objects shown m.objects.places)
      (ap (λ (r : Running). section_words r.win32.objects) shows ∙ e) in
      let even : object_number at.0 ≡ at.0 =
      (rising_objects-bound 0 (view_of m).win32.objects at.0 (Section words) (rising-objects shown m.objects.places)
      at.1).1 in
      let found : object_shown shown (object_at m.objects at.0) ≡ Some (Section words) =
      sym (object_of-named shown m.objects at.0) ∙ ap (object_of (view_of m).win32.objects) even ∙ at.1 in
      by_answer at.0 even (object_at m.objects at.0) refl found
    where
      by_answer : (o : ℕ) → object_number o ≡ o → (k : Option (HeldObject Kind)) → object_at m.objects o ≡ k
          → object_shown shown k ≡ Some (Section words)
          → (kept : HeldObject Kind) × (object_at m.objects m.section ≡ Some kept) × (kept.object ≡ kind.Section words)
      by_answer o even None f g = absurd (cc)
      by_answer o even (Some kept) f g =
          let h : shown kept.object ≡ Section words = cc in
          let is = shows-section kept.object words h in
          let held = sound.held o kept f in
          let place : object_number o ≡ m.section =
          subst (λ k. IsKind m.processes.slots (view_of m).win32.processes m.section (object_number o) k) is
          held.kind in
          (kept, subst (λ n. object_at m.objects n ≡ Some kept) (sym even ∙ place) f, is)

  pub section-there : IsSome (section_words now.win32.objects) → IsSome (object_at m.objects m.section)
  section-there some = by_words (section_words now.win32.objects) refl some
    where
      by_words : (o : Option (List ℕ)) → section_words now.win32.objects ≡ o → IsSome o
          → IsSome (object_at m.objects m.section)
      by_words (Some words) e some = rw ((its_place words e).1) refl
      by_words None e some = absurd (cc)

  pub word-found : (x : Kind) → IsSomeAnd (object_at m.objects m.section) (λ kept. kept.object ≡ x) → (i : ℕ)
      (found : Result ℕ BadIndex) → IsWord i x found
      → IfSome (section_words now.win32.objects) (λ words.
      MatchResult found (λ v. load_reply words i ≡ reply.Word v) (λ _. load_reply words i ≡ reply.BadIndex))
  word-found x was i found did = by_words (section_words now.win32.objects) refl
    where
      by_words : (o : Option (List ℕ)) → section_words now.win32.objects ≡ o → IfSome o (λ words.
          MatchResult found (λ v. load_reply words i ≡ reply.Word v) (λ _. load_reply words i ≡ reply.BadIndex))
      by_words None e = tt
      by_words (Some words) e =
          let at = its_place words e in
          let it = lent (object_at m.objects m.section) x was in
          let same : at.0 ≡ it.0 = same_some (object_at m.objects m.section) at.0 it.0 at.1 it.1 in
          let is : x ≡ kind.Section words = sym it.2 ∙ ap (λ (k : HeldObject Kind). k.object) (sym same) ∙ at.2 in
          subst (λ k. IsWord i k found) is did
