-- Laws of finding and changing objects.
use Rattle.std.proofs.Common.{◌≡◌, ◌≢◌, ◌⊎◌, inl, inr, ℕ, ◌+◌, ◌≤◌, List, [], ◌∷◌, Option, Some, None, refl, sym, ap}
use Rattle.std.proofs.Common.{◌∙◌, arith}
use Rattle.std.proofs.lemmas.Bool.{cases_eq, cases_lt}
use Rattle.win32_spec.specs.State.{Object, NumberedObject}
use Rattle.win32_spec.specs.Lookup.{object_number, object_of, change_object, add_object}
use Rattle.win32_spec.specs.Ends.{object_left_by, objects_left_by}
use Rattle.win32_spec.specs.WellFormed.{AreRisingObjects}
use Rattle.win32_spec.specs.LookupLaws.{same, differs, before, not_before, same_some, not_none}

pub object_of-change_same : (o : ℕ) (y : Object) (xs : List NumberedObject) (x : Object) → object_of xs o ≡ Some x
    → object_of (change_object o y xs) o ≡ Some y
object_of-change_same o y [] x e = absurd (cc)
object_of-change_same o y (z ∷ xs) x e =
    elim (cases_eq z.number o) [
      | inl n ↦ let s = same z.number o n in rw (s, s) refl
      | inr d ↦ let s = differs z.number o d in rw (s, s) (object_of-change_same o y xs x (rw s at e))
    ]

pub object_of-change_other : (o : ℕ) (y : Object) (xs : List NumberedObject) (a : ℕ) → a ≢ o
    → object_of (change_object o y xs) a ≡ object_of xs a
object_of-change_other o y [] a d = refl
object_of-change_other o y (z ∷ xs) a d =
    elim (cases_eq z.number o) [
      | inl n ↦ let s = same z.number o n in let t = differs z.number a (λ e. d (sym e ∙ n)) in
          rw (s, t) (object_of-change_other o y xs a d)
      | inr n ↦ let s = differs z.number o n in rw (s, object_of-change_other o y xs a d)
    ]

pub object_of-change_none : (o : ℕ) (y : Object) (xs : List NumberedObject) (a : ℕ) → object_of xs a ≡ None
    → object_of (change_object o y xs) a ≡ None
object_of-change_none o y [] a e = refl
object_of-change_none o y (z ∷ xs) a e =
    elim (cases_eq z.number a) [
      | inl n ↦ let s = same z.number a n in absurd (let f : Some z.object ≡ None = rw s at e in cc)
      | inr d ↦ let s = differs z.number a d in let rest = object_of-change_none o y xs a (rw s at e) in
          elim (cases_eq z.number o) [
            | inl m ↦ let t = same z.number o m in rw (t, s) rest
            | inr m ↦ let t = differs z.number o m in rw (t, s) rest
          ]
    ]

-- an object of the changed list is another one of the old list, or the one that was changed
pub changed_object : (o : ℕ) (y : Object) (xs : List NumberedObject) (a : ℕ) (z : Object)
    → object_of (change_object o y xs) a ≡ Some z
    → ((a ≢ o) × (object_of xs a ≡ Some z)) ⊎ ((a ≡ o) × (x : Object) × (object_of xs o ≡ Some x) × (z ≡ y))
changed_object o y xs a z e =
    elim (cases_eq a o) [
      | inl n ↦ inr (at_same n (object_of xs o) refl)
      | inr d ↦ inl (d, sym (object_of-change_other o y xs a d) ∙ e)
    ]
  where
    at_same : a ≡ o → (found : Option Object) → object_of xs o ≡ found
        → (a ≡ o) × (x : Object) × (object_of xs o ≡ Some x) × (z ≡ y)
    at_same n None h =
        absurd (not_none (object_of (change_object o y xs) o) z
        (ap (λ k. object_of (change_object o y xs) k) (sym n) ∙ e) (object_of-change_none o y xs o h))
    at_same n (Some x) h = (
      n,
      x,
      h,
      same_some (object_of (change_object o y xs) o) z y (ap (λ k. object_of (change_object o y xs) k) (sym n) ∙ e)
          (object_of-change_same o y xs x h),
    )

pub rising-change_object : (o : ℕ) (y : Object) (low : ℕ) (xs : List NumberedObject) → AreRisingObjects low xs
    → AreRisingObjects low (change_object o y xs)
rising-change_object o y low [] r = tt
rising-change_object o y low (z ∷ xs) r =
    elim (cases_eq z.number o) [
      | inl n ↦ let s = same z.number o n in rw s (r.0, r.1, rising-change_object o y (z.number + 1) xs r.2)
      | inr d ↦ let s = differs z.number o d in rw s (r.0, r.1, rising-change_object o y (z.number + 1) xs r.2)
    ]

pub rising_objects-bound : (low : ℕ) (xs : List NumberedObject) (o : ℕ) (x : Object) → AreRisingObjects low xs
    → object_of xs o ≡ Some x
    → (low ≤ o) × (object_number o ≡ o)
rising_objects-bound low [] o x r e = absurd (cc)
rising_objects-bound low (z ∷ xs) o x r e =
    elim (cases_eq z.number o) [
      | inl n ↦ (omega (arith, r.0), rw (← n) r.1)
      | inr d ↦ let s = differs z.number o d in let b = rising_objects-bound (z.number + 1) xs o x r.2 (rw s at e) in
          (omega (arith, r.0, b.0), b.1)
    ]

pub rising_objects-lower : (low lower : ℕ) (xs : List NumberedObject) → lower ≤ low → AreRisingObjects low xs
    → AreRisingObjects lower xs
rising_objects-lower low lower [] l r = tt
rising_objects-lower low lower (z ∷ xs) l r = (omega (arith, r.0), r.1, r.2)

-- One more object.
pub object_of-add_new : (o : ℕ) (y : Object) (xs : List NumberedObject) → object_of xs o ≡ None
    → object_of (add_object o y xs) o ≡ Some y
object_of-add_new o y [] free = let s = same o o refl in rw s refl
object_of-add_new o y (z ∷ xs) free =
    elim (cases_lt o z.number) [
      | inl l ↦ let t = before o z.number l in let s = same o o refl in rw (t, s) refl
      | inr l ↦ elim (cases_eq z.number o) [
        | inl n ↦ let s = same z.number o n in absurd (let f : Some z.object ≡ None = rw s at free in cc)
        | inr d ↦ let t = not_before o z.number l in let s = differs z.number o d in
            rw (t, s) (object_of-add_new o y xs (rw s at free))
      ]
    ]

pub object_of-add_other : (o : ℕ) (y : Object) (xs : List NumberedObject) (a : ℕ) → a ≢ o
    → object_of (add_object o y xs) a ≡ object_of xs a
object_of-add_other o y [] a d = let s = differs o a (λ e. d (sym e)) in rw s refl
object_of-add_other o y (z ∷ xs) a d =
    elim (cases_lt o z.number) [
      | inl l ↦ let t = before o z.number l in let s = differs o a (λ e. d (sym e)) in rw (t, s) refl
      | inr l ↦ let t = not_before o z.number l in rw (t, object_of-add_other o y xs a d)
    ]

pub rising-add_object : (o : ℕ) (y : Object) (low : ℕ) (xs : List NumberedObject) → AreRisingObjects low xs → low ≤ o
    → object_number o ≡ o
    → object_of xs o ≡ None → AreRisingObjects low (add_object o y xs)
rising-add_object o y low [] r l even free = (l, even, tt)
rising-add_object o y low (z ∷ xs) r l even free =
    elim (cases_lt o z.number) [
      | inl m ↦ let t = before o z.number m in rw t (l, even, (omega arith, r.1, r.2))
      | inr m ↦ elim (cases_eq z.number o) [
        | inl n ↦ let s = same z.number o n in absurd (let f : Some z.object ≡ None = rw s at free in cc)
        | inr d ↦ let t = not_before o z.number m in let s = differs z.number o d in
            let above : z.number + 1 ≤ o = omega arith in
            rw t (r.0, r.1, rising-add_object o y (z.number + 1) xs r.2 above even (rw s at free))
      ]
    ]

-- What the end of a process leaves.
pub object_of-left : (w : ℕ) (xs : List NumberedObject) (o : ℕ) (x : Object) → object_of xs o ≡ Some x
    → object_of (objects_left_by w xs) o ≡ Some (object_left_by w x)
object_of-left w [] o x e = absurd (cc)
object_of-left w (z ∷ xs) o x e =
    elim (cases_eq z.number o) [
      | inl n ↦ let s = same z.number o n in let f : Some z.object ≡ Some x = rw s at e in let g : z.object ≡ x =
          cc in rw (s, g) refl
      | inr d ↦ let s = differs z.number o d in rw s (object_of-left w xs o x (rw s at e))
    ]

pub left_object : (w : ℕ) (xs : List NumberedObject) (o : ℕ) (y : Object) → object_of (objects_left_by w xs) o ≡ Some y
    → (x : Object) × (object_of xs o ≡ Some x) × (y ≡ object_left_by w x)
left_object w [] o y e = absurd (cc)
left_object w (z ∷ xs) o y e =
    elim (cases_eq z.number o) [
      | inl n ↦ let s = same z.number o n in let f : Some (object_left_by w z.object) ≡ Some y = rw s at e in
          (z.object, rw s refl, cc)
      | inr d ↦ let s = differs z.number o d in let rest = left_object w xs o y (rw s at e) in
          (rest.0, rw s rest.1, rest.2)
    ]

pub rising-left : (w low : ℕ) (xs : List NumberedObject) → AreRisingObjects low xs
    → AreRisingObjects low (objects_left_by w xs)
rising-left w low [] r = tt
rising-left w low (z ∷ xs) r = (r.0, r.1, rising-left w (z.number + 1) xs r.2)
