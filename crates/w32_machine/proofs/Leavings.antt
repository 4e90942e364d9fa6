-- What an end leaves of the objects, one by one, and whether one of them is of a process.
use Rattle.std.proofs.Common.{◌≡◌, ◌≢◌, ◌∙◌, inl, inr, ℕ, ◌+◌, ◌*◌, ◌/◌, ◌≤◌, ◌<◌, Bool, true, false}
use Rattle.std.proofs.Common.{Option, Some, None, IsSome, IsTrue, refl, sym, ap, subst, arith}
use Rattle.std.specs.Option.{IsSomeAnd}
use Rattle.std.proofs.lemmas.Bool.{cases_eq, cases_lt}
use Rattle.win32_spec.specs.State.{ProcessObject}
use Rattle.win32_spec.specs.Lookup.{object_of, object_number}
use Rattle.win32_spec.specs.Ends.{is_object_of, is_process_held}
use Rattle.win32_spec.specs.LookupLaws.{same}
use Rattle.win32_spec.specs.HeldLaws.{process_held-by, is-process_held}
use Rattle.win32_spec.specs.ObjectLaws.{rising_objects-bound}
use Rattle.win32_spec.specs.HandleEffects.{is_its_object}
use Rattle.w32_handles.specs.Table.{HeldObject, Table, object_at, Changes, with_object, instead}
use Rattle.w32_handles.specs.Shown.{object_shown, objects_of}
use Rattle.w32_handles.specs.ShownLaws.{rising-objects, object_of-named}
use Rattle.w32_handles.specs.PlaceLaws.{half, Changes-with_object}
use Rattle.w32_kinds.specs.declared.kind.Kind.{Kind}
use Rattle.w32_kinds.specs.Kinds.{kind_left_by}
use Rattle.w32_kinds.specs.Shown.{shown}
use Rattle.w32_machine.specs.Ending.{left_kept}
use Rattle.w32_machine.proofs.Changing.{lent}

pub is_some : (x : Option (HeldObject Kind)) (P : HeldObject Kind → Type 0) → IsSomeAnd x P → IsSome x
is_some (Some kept) P h = refl
is_some None P h = absurd h

-- What an end leaves, up to a place.
module _ (old : Table Kind) (w : ℕ) where
  pub record LeftBelow (place : ℕ) (now : Table Kind) : Type 0 where
    pub below : (k : ℕ) → k < place → object_at now (2 * k) ≡ left_kept w (object_at old (2 * k))
    pub above : (k : ℕ) → place ≤ k → object_at now (2 * k) ≡ object_at old (2 * k)
    pub spare : now.spare ≡ old.spare

  pub left-start : LeftBelow 0 old
  left-start = record { below = λ k l. absurd (omega arith); above = λ k l. refl; spare = refl }

  module _ (place : ℕ) (now : Table Kind) (h : LeftBelow place now) where
    pub left-absent : (IsSome (object_at now (2 * place)) → ⊥) → LeftBelow (place + 1) now
    left-absent none = record {
      below = λ k l. elim (cases_eq k place) [
        | inl e ↦ rw e (nothing (object_at now (2 * place)) refl)
        | inr d ↦ h.below k (omega arith)
      ];
      above = λ k l. h.above k (omega arith);
      spare = h.spare;
    }
      where
        nothing : (x : Option (HeldObject Kind)) → object_at now (2 * place) ≡ x
            → object_at now (2 * place) ≡ left_kept w (object_at old (2 * place))
        nothing None e = e ∙ ap (left_kept w) (sym (sym (h.above place (omega arith)) ∙ e))
        nothing (Some kept) e = absurd (none (rw e refl))

    pub left-next : (x y : Kind) → IsSomeAnd (object_at now (2 * place)) (λ kept. kept.object ≡ x)
        → y ≡ kind_left_by w x
        → LeftBelow (place + 1) (with_object now (2 * place) y)
    left-next x y was is = record {
      below = λ k l. elim (cases_eq k place) [
        | inl e ↦ rw e here
        | inr d ↦ change.others (2 * k) (λ e. d (sym (half k) ∙ e ∙ half place)) ∙ h.below k (omega arith)
      ];
      above = λ k l.
          change.others (2 * k) (λ e. omega (arith, sym (half k) ∙ e ∙ half place)) ∙ h.above k (omega arith);
      spare = h.spare;
    }
      where
        change : Changes now (with_object now (2 * place) y) (2 * place) (instead y (object_at now (2 * place)))
        change = Changes-with_object now (2 * place) y
            (is_some (object_at now (2 * place)) (λ kept. kept.object ≡ x) was)

        here : object_at (with_object now (2 * place) y) (2 * place) ≡ left_kept w (object_at old (2 * place))
        here =
            let it = lent (object_at now (2 * place)) x was in
            change.here ∙ ap (instead y) it.1
            ∙ ap (λ (k : Kind). Some (record it.0 { object = k })) (is ∙ ap (kind_left_by w) (sym it.2))
            ∙ ap (left_kept w) (sym it.1 ∙ h.above place (omega arith))

    pub absent_at : (b : Bool) (o : ℕ) → o ≡ 2 * place → (IsSome (object_at now o) → IsTrue b) → b ≡ false
        → LeftBelow (place + 1) now
    absent_at b o e there not =
        left-absent (λ some. let f : true ≡ false =
        sym (there (subst (λ i. IsSome (object_at now i)) (sym e) some)) ∙ not in cc)

    pub next_at : (o : ℕ) → o ≡ 2 * place → (x y : Kind) → IsSomeAnd (object_at now o) (λ kept. kept.object ≡ x)
        → y ≡ kind_left_by w x → (new : Table Kind) → new ≡ with_object now o y
        → LeftBelow (place + 1) new
    next_at o e x y was is new made =
        subst (LeftBelow (place + 1)) (ap (λ i. with_object now i y) (sym e) ∙ sym made)
        (left-next x y (subst (λ i. IsSomeAnd (object_at now i) (λ kept. kept.object ≡ x)) e was) is)

    pub left-all : ((o : ℕ) → place ≤ o / 2 → object_at old o ≡ None) → (k : ℕ)
        → object_at now (2 * k) ≡ left_kept w (object_at old (2 * k))
    left-all past k =
        elim (cases_lt k place) [
          | inl l ↦ h.below k l
          | inr l ↦
              let none = past (2 * k) (omega (arith, half k)) in
              h.above k l ∙ none ∙ ap (left_kept w) (sym none)
        ]

-- Whether an object is of a process, up to a place.
abbrev pub IsNotOf : Table Kind → ℕ → ℕ → Type 0
IsNotOf t w k = object_shown shown (object_at t (2 * k)) ≢ Some (ProcessObject w)

module _ (t : Table Kind) (w : ℕ) where
  pub found-of : (k : ℕ) (x : Kind) → IsSomeAnd (object_at t (2 * k)) (λ kept. kept.object ≡ x)
      → is_object_of (shown x) w ≡ true
      → is_process_held (objects_of shown t.places) w ≡ true
  found-of k x was its =
      let it = lent (object_at t (2 * k)) x was in
      is-process_held (objects_of shown t.places) w (object_number (2 * k))
      (object_of-named shown t (2 * k) ∙ ap (object_shown shown) it.1
      ∙ ap (λ (z : Kind). Some (shown z)) it.2 ∙ ap Some (is_its_object (shown x) w its))

  pub none-of : (places : ℕ) → ((o : ℕ) → places ≤ o / 2 → object_at t o ≡ None)
      → ((k : ℕ) → k < places → IsNotOf t w k)
      → is_process_held (objects_of shown t.places) w ≡ false
  none-of places past none = by_test (is_process_held (objects_of shown t.places) w) refl
    where
      by_test : (b : Bool) → is_process_held (objects_of shown t.places) w ≡ b → b ≡ false
      by_test false e = refl
      by_test true e =
          let at = process_held-by 0 (objects_of shown t.places) w (rising-objects shown t.places) e in
          let even =
          (rising_objects-bound 0 (objects_of shown t.places) at.0 (ProcessObject w) (rising-objects shown t.places)
          at.1).1 in
          let found : object_shown shown (object_at t (2 * (at.0 / 2))) ≡ Some (ProcessObject w) =
          ap (λ o. object_shown shown (object_at t o)) even
          ∙ sym (object_of-named shown t at.0) ∙ ap (object_of (objects_of shown t.places)) even ∙ at.1 in
          elim (cases_lt (at.0 / 2) places) [
            | inl l ↦ absurd (none (at.0 / 2) l found)
            | inr l ↦
                let empty = past (2 * (at.0 / 2)) (omega (arith, half (at.0 / 2))) in
                absurd (let f : None ≡ Some (ProcessObject w) = ap (object_shown shown) (sym empty) ∙ found in cc)
          ]

  pub not-absent : (k : ℕ) → (IsSome (object_at t (2 * k)) → ⊥) → IsNotOf t w k
  not-absent k none e = by_answer (object_at t (2 * k)) refl
    where
      by_answer : (x : Option (HeldObject Kind)) → object_at t (2 * k) ≡ x → ⊥
      by_answer None f =
          let g : None ≡ Some (ProcessObject w) = ap (object_shown shown) (sym f) ∙ e in cc
      by_answer (Some kept) f = none (rw f refl)

  pub not-other : (k : ℕ) (x : Kind) → IsSomeAnd (object_at t (2 * k)) (λ kept. kept.object ≡ x)
      → is_object_of (shown x) w ≡ false → IsNotOf t w k
  not-other k x was its e =
      let it = lent (object_at t (2 * k)) x was in
      let f : Some (shown x) ≡ Some (ProcessObject w) =
      ap (λ (z : Kind). Some (shown z)) (sym it.2) ∙ ap (object_shown shown) (sym it.1) ∙ e in
      let g : shown x ≡ ProcessObject w = cc in
      let s = same w w refl in
      let n : is_object_of (ProcessObject w) w ≡ false = ap (λ z. is_object_of z w) (sym g) ∙ its in
      let h : true ≡ false = rw s at n in cc

  -- the same with the number at hand
  pub found-at : (k o : ℕ) → o ≡ 2 * k → (x : Kind) → IsSomeAnd (object_at t o) (λ kept. kept.object ≡ x) → (b : Bool)
      → b ≡ is_object_of (shown x) w → b ≡ true
      → true ≡ is_process_held (objects_of shown t.places) w
  found-at k o e x was b is its =
      sym (found-of k x (subst (λ i. IsSomeAnd (object_at t i) (λ kept. kept.object ≡ x)) e was) (sym is ∙ its))

  pub absent_here : (k o : ℕ) → o ≡ 2 * k → (b : Bool) → (IsSome (object_at t o) → IsTrue b) → b ≡ false
      → IsNotOf t w k
  absent_here k o e b there not =
      not-absent k (λ some. let f : true ≡ false =
      sym (there (subst (λ i. IsSome (object_at t i)) (sym e) some)) ∙ not in cc)

  pub other_here : (k o : ℕ) → o ≡ 2 * k → (x : Kind) → IsSomeAnd (object_at t o) (λ kept. kept.object ≡ x) → (b : Bool)
      → b ≡ is_object_of (shown x) w → b ≡ false
      → IsNotOf t w k
  other_here k o e x was b is none =
      not-other k x (subst (λ i. IsSomeAnd (object_at t i) (λ kept. kept.object ≡ x)) e was) (sym is ∙ none)
