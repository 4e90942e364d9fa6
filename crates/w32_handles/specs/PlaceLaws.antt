-- Each change of a table of objects is a change of the objects that it shows.
use Rattle.std.proofs.Common.{◌≡◌, ◌≢◌, inl, inr, ℕ, zero, suc, ◌*◌, ◌/◌, ◌%◌, List, [], ◌∷◌, Option, Some, None}
use Rattle.std.proofs.Common.{IsSome}
use Rattle.std.proofs.Common.{slice_index_or, slice_set, refl, sym, ap, ◌∙◌, subst, arith, true≢false}
use Rattle.std.proofs.lemmas.Bool.{cases_eq}
use Rattle.std.proofs.lemmas.List.{get_or-set_other}
use Rattle.win32_spec.specs.State.{Object, NumberedObject, Win32State}
use Rattle.win32_spec.specs.Lookup.{object_number, object_of, change_object, add_object, IsFresh}
use Rattle.win32_spec.specs.Ends.{object_left_by, objects_left_by}
use Rattle.win32_spec.specs.ObjectLaws.{object_of-change_same, object_of-change_other, rising-change_object}
use Rattle.win32_spec.specs.ObjectLaws.{object_of-add_new, object_of-add_other, rising-add_object, object_of-left}
use Rattle.win32_spec.specs.ObjectLaws.{left_object, rising-left}
use Rattle.w32_handles.specs.Table.{HeldObject, Table, object_at, Changes, instead, with_object}
use Rattle.w32_handles.specs.Shown.{object_shown, objects_of, without_object}
use Rattle.w32_handles.specs.ShownLaws.{are_same, rising-objects, object_of-place, object_of-named}
use Rattle.w32_handles.specs.ShownLaws.{object_of-without_same}
use Rattle.w32_handles.specs.ShownLaws.{object_of-without_other, rising-without_object}

pub half : (k : ℕ) → 2 * k / 2 ≡ k
half k = omega arith

module _ {K : Type 0} where
  -- what is under a number stands at half of it
  pub at_place : (t : Table K) (k : ℕ) → object_at t (2 * k) ≡ slice_index_or t.places k None
  at_place t k = ap (λ i. slice_index_or t.places i None) (half k)

  place_within : (places : List (Option (HeldObject K))) (k : ℕ) (kept : Option (HeldObject K))
      → IsSome (slice_index_or places k None)
      → slice_index_or (slice_set places k kept) k None ≡ kept
  place_within [] k kept some = absurd (true≢false (sym some))
  place_within (p ∷ places) zero kept some = refl
  place_within (p ∷ places) (suc k) kept some = place_within places k kept some

  -- the table with another object under a number changes just there
  pub Changes-with_object : (t : Table K) (o : ℕ) (object : K) → IsSome (object_at t o)
      → Changes t (with_object t o object) o (instead object (object_at t o))
  Changes-with_object t o object some = record {
    here = place_within t.places (o / 2) (instead object (object_at t o)) some;
    others = λ other d. get_or-set_other t.places (o / 2) (other / 2) (instead object (object_at t o)) None d;
  }

-- what the end of process w leaves of each object
abbrev pub left_shown : ℕ → Option Object → Option Object
left_shown w None = None
left_shown w (Some x) = Some (object_left_by w x)

pub found-left : (w : ℕ) (xs : List NumberedObject) (o : ℕ)
    → object_of (objects_left_by w xs) o ≡ left_shown w (object_of xs o)
found-left w xs o = by_answer (object_of xs o) refl (object_of (objects_left_by w xs) o) refl
  where
    by_answer : (old : Option Object) → object_of xs o ≡ old → (found : Option Object)
        → object_of (objects_left_by w xs) o ≡ found → found ≡ left_shown w old
    by_answer (Some x) e found g = sym g ∙ object_of-left w xs o x e
    by_answer None e None g = refl
    by_answer None e (Some y) g =
        let l = left_object w xs o y g in absurd (let h : None ≡ Some l.0 = sym e ∙ l.1 in cc)

module _ {K : Type 0} (f : K → Object) where
  -- what is found by twice a place after a change: what was put there, or what stood there
  found-here : (old new : Table K) (o : ℕ) (kept : Option (HeldObject K)) → Changes old new o kept
      → object_of (objects_of f new.places) (object_number o) ≡ object_shown f kept
  found-here old new o kept c = object_of-named f new o ∙ ap (object_shown f) c.here

  found-other : (old new : Table K) (o : ℕ) (kept : Option (HeldObject K)) → Changes old new o kept → (k : ℕ)
      → 2 * k ≢ object_number o
      → object_of (objects_of f new.places) (2 * k) ≡ object_of (objects_of f old.places) (2 * k)
  found-other old new o kept c k d =
      let apart : 2 * k / 2 ≢ o / 2 = λ e. d (ap (λ n. 2 * n) (sym (half k) ∙ e)) in
      object_of-place f new.places k
      ∙ ap (object_shown f) (sym (at_place new k) ∙ c.others (2 * k) apart ∙ at_place old k)
      ∙ sym (object_of-place f old.places k)

  -- an object that stays, whatever its count of holders
  pub objects-stay : (old new : Table K) (o : ℕ) (kept : Option (HeldObject K)) → Changes old new o kept
      → object_shown f kept ≡ object_shown f (object_at old o)
      → objects_of f new.places ≡ objects_of f old.places
  objects-stay old new o kept c stays =
      are_same f (objects_of f new.places) (objects_of f old.places) (rising-objects f new.places)
      (rising-objects f old.places) finds
    where
      finds : (k : ℕ) → object_of (objects_of f new.places) (2 * k) ≡ object_of (objects_of f old.places) (2 * k)
      finds k =
          elim (cases_eq (2 * k) (object_number o)) [
            | inl e ↦ subst (λ n. object_of (objects_of f new.places) n ≡ object_of (objects_of f old.places) n)
                (sym e) (found-here old new o kept c ∙ stays ∙ sym (object_of-named f old o))
            | inr d ↦ found-other old new o kept c k d
          ]

  -- an object that becomes another one
  pub objects-change : (old new : Table K) (o : ℕ) (kept : Option (HeldObject K)) (x y : Object)
      → Changes old new o kept
      → object_shown f (object_at old o) ≡ Some x → object_shown f kept ≡ Some y
      → objects_of f new.places ≡ change_object (object_number o) y (objects_of f old.places)
  objects-change old new o kept x y c was is =
      are_same f (objects_of f new.places) (change_object (object_number o) y (objects_of f old.places))
      (rising-objects f new.places)
      (rising-change_object (object_number o) y 0 (objects_of f old.places) (rising-objects f old.places)) finds
    where
      same_there : object_of (objects_of f new.places) (object_number o) ≡
          object_of (change_object (object_number o) y (objects_of f old.places)) (object_number o)
      same_there =
          found-here old new o kept c ∙ is
          ∙ sym (object_of-change_same (object_number o) y (objects_of f old.places) x
          (object_of-named f old o ∙ was))

      finds : (k : ℕ) → object_of (objects_of f new.places) (2 * k) ≡
          object_of (change_object (object_number o) y (objects_of f old.places)) (2 * k)
      finds k =
          elim (cases_eq (2 * k) (object_number o)) [
            | inl e ↦ subst (λ n. object_of (objects_of f new.places) n ≡
                object_of (change_object (object_number o) y (objects_of f old.places)) n) (sym e) same_there
            | inr d ↦ found-other old new o kept c k d
                ∙ sym (object_of-change_other (object_number o) y (objects_of f old.places) (2 * k) d)
          ]

  -- a new object
  pub objects-add : (old new : Table K) (o : ℕ) (kept : Option (HeldObject K)) (y : Object) → Changes old new o kept
      → object_at old o ≡ None → object_shown f kept ≡ Some y
      → objects_of f new.places ≡ add_object (object_number o) y (objects_of f old.places)
  objects-add old new o kept y c free is =
      are_same f (objects_of f new.places) (add_object (object_number o) y (objects_of f old.places))
      (rising-objects f new.places)
      (rising-add_object (object_number o) y 0 (objects_of f old.places) (rising-objects f old.places)
      (omega arith) (omega arith) none) finds
    where
      none : object_of (objects_of f old.places) (object_number o) ≡ None
      none = object_of-named f old o ∙ ap (object_shown f) free

      same_there : object_of (objects_of f new.places) (object_number o) ≡
          object_of (add_object (object_number o) y (objects_of f old.places)) (object_number o)
      same_there =
          found-here old new o kept c ∙ is
          ∙ sym (object_of-add_new (object_number o) y (objects_of f old.places) none)

      finds : (k : ℕ) → object_of (objects_of f new.places) (2 * k) ≡
          object_of (add_object (object_number o) y (objects_of f old.places)) (2 * k)
      finds k =
          elim (cases_eq (2 * k) (object_number o)) [
            | inl e ↦ subst (λ n. object_of (objects_of f new.places) n ≡
                object_of (add_object (object_number o) y (objects_of f old.places)) n) (sym e) same_there
            | inr d ↦ found-other old new o kept c k d
                ∙ sym (object_of-add_other (object_number o) y (objects_of f old.places) (2 * k) d)
          ]

  -- its number is fresh
  pub is_fresh : (s : Win32State) (t : Table K) (o : ℕ) → s.objects ≡ objects_of f t.places → o % 2 ≡ 0
      → object_at t o ≡ None → IsFresh s o
  is_fresh s t o shows even free =
      let whole : object_number o ≡ o = omega arith in
      record {
        even = whole;
        free = subst (λ xs. object_of xs o ≡ None) (sym shows)
            (subst (λ n. object_of (objects_of f t.places) n ≡ None) whole
            (object_of-named f t o ∙ ap (object_shown f) free));
      }

  -- an object that goes
  pub objects-drop : (old new : Table K) (o : ℕ) → Changes old new o None
      → objects_of f new.places ≡ without_object (object_number o) (objects_of f old.places)
  objects-drop old new o c =
      are_same f (objects_of f new.places) (without_object (object_number o) (objects_of f old.places))
      (rising-objects f new.places)
      (rising-without_object (object_number o) 0 (objects_of f old.places) (rising-objects f old.places)) finds
    where
      finds : (k : ℕ) → object_of (objects_of f new.places) (2 * k) ≡
          object_of (without_object (object_number o) (objects_of f old.places)) (2 * k)
      finds k =
          elim (cases_eq (2 * k) (object_number o)) [
            | inl e ↦ subst (λ n. object_of (objects_of f new.places) n ≡
                object_of (without_object (object_number o) (objects_of f old.places)) n) (sym e)
                (found-here old new o None c
                ∙ sym (object_of-without_same (object_number o) (objects_of f old.places)))
            | inr d ↦ found-other old new o None c k d
                ∙ sym (object_of-without_other (object_number o) (objects_of f old.places) (2 * k) d)
          ]

  pub objects-left : (w : ℕ) (old new : Table K)
      → ((k : ℕ) → object_shown f (object_at new (2 * k)) ≡ left_shown w (object_shown f (object_at old (2 * k))))
      → objects_of f new.places ≡ objects_left_by w (objects_of f old.places)
  objects-left w old new left =
      are_same f (objects_of f new.places) (objects_left_by w (objects_of f old.places))
      (rising-objects f new.places) (rising-left w 0 (objects_of f old.places) (rising-objects f old.places)) finds
    where
      finds : (k : ℕ) → object_of (objects_of f new.places) (2 * k) ≡
          object_of (objects_left_by w (objects_of f old.places)) (2 * k)
      finds k =
          object_of-place f new.places k ∙ ap (object_shown f) (sym (at_place new k)) ∙ left k
          ∙ ap (left_shown w) (ap (object_shown f) (at_place old k) ∙ sym (object_of-place f old.places k))
          ∙ sym (found-left w (objects_of f old.places) (2 * k))
