-- What is found among the objects of a table, and what each change of the table is to them.
use Rattle.std.proofs.Common.{◌≡◌, ◌≢◌, inl, inr, ℕ, zero, suc, ◌+◌, ◌*◌, ◌/◌, ◌<◌, List, [], ◌∷◌, Option}
use Rattle.std.proofs.Common.{Some, None, slice_index_or, refl, sym, ap, ◌∙◌, subst, arith}
use Rattle.std.proofs.lemmas.Bool.{cases_eq, cases_lt}
use Rattle.win32_spec.specs.State.{Object, NumberedObject}
use Rattle.win32_spec.specs.Lookup.{object_number, object_of}
use Rattle.win32_spec.specs.WellFormed.{AreRisingObjects}
use Rattle.win32_spec.specs.LookupLaws.{same, differs, not_none}
use Rattle.win32_spec.specs.ObjectLaws.{rising_objects-bound, rising_objects-lower}
use Rattle.w32_handles.specs.Table.{HeldObject, Table, object_at}
use Rattle.w32_handles.specs.Shown.{object_shown, objects_from, objects_of, without_object}

-- two lists by rising numbers in which each number finds the same are one list
abbrev pub FindsObjects : List NumberedObject → List NumberedObject → Type 0
FindsObjects xs ys = (o : ℕ) → object_of xs o ≡ object_of ys o

pub object_of-below : (low : ℕ) (xs : List NumberedObject) (o : ℕ) → AreRisingObjects low xs → o < low
    → object_of xs o ≡ None
object_of-below low xs o r l = by_answer (object_of xs o) refl
  where
    by_answer : (found : Option Object) → object_of xs o ≡ found → found ≡ None
    by_answer None e = refl
    by_answer (Some x) e = absurd (omega (arith, (rising_objects-bound low xs o x r e).0))

pub same_objects : (low low' : ℕ) (xs ys : List NumberedObject) → AreRisingObjects low xs → AreRisingObjects low' ys
    → FindsObjects xs ys → xs ≡ ys
same_objects low low' [] [] r r' finds = refl
same_objects low low' [] (y ∷ ys) r r' finds =
    let s = same y.number y.number refl in absurd (let f : None ≡ Some y.object = rw s at (finds y.number) in cc)
same_objects low low' (x ∷ xs) [] r r' finds =
    let s = same x.number x.number refl in absurd (let f : Some x.object ≡ None = rw s at (finds x.number) in cc)
same_objects low low' (x ∷ xs) (y ∷ ys) r r' finds =
    elim (cases_eq x.number y.number) [
      | inl n ↦ with_heads n (heads n)
          (same_objects (x.number + 1) (y.number + 1) xs ys r.2 r'.2 (rest n))
      | inr d ↦ absurd (apart d)
    ]
  where
    heads : x.number ≡ y.number → x.object ≡ y.object
    heads n =
        let s = same x.number x.number refl in
        let t = same y.number x.number (sym n) in
        let f : Some x.object ≡ Some y.object = rw (s, t) at (finds x.number) in cc

    rest : x.number ≡ y.number → FindsObjects xs ys
    rest n o =
        elim (cases_eq x.number o) [
          | inl e ↦
              object_of-below (x.number + 1) xs o r.2 (omega (arith, e))
              ∙ sym (object_of-below (y.number + 1) ys o r'.2 (omega (arith, e, n)))
          | inr d ↦
              let s = differs x.number o d in
              let t = differs y.number o (λ e. d (n ∙ e)) in
              rw (s, t) at (finds o)
        ]

    with_heads : x.number ≡ y.number → x.object ≡ y.object → xs ≡ ys → (x ∷ xs) ≡ (y ∷ ys)
    with_heads n e tails =
        let head : x ≡ y = ap (λ (number : ℕ). record x { number = number }) n
        ∙ ap (λ (object : Object). record y { object = object }) e in cc

    apart : x.number ≢ y.number → ⊥
    apart d =
        elim (cases_lt x.number y.number) [
          | inl l ↦
              let s = same x.number x.number refl in
              let t = differs y.number x.number (λ e. d (sym e)) in
              let f : Some x.object ≡ object_of ys x.number = rw (s, t) at (finds x.number) in
              not_none (object_of ys x.number) x.object (sym f)
              (object_of-below (y.number + 1) ys x.number r'.2 (omega arith))
          | inr l ↦
              let s = same y.number y.number refl in
              let t = differs x.number y.number d in
              let f : object_of xs y.number ≡ Some y.object = rw (s, t) at (finds y.number) in
              not_none (object_of xs y.number) y.object f
              (object_of-below (x.number + 1) xs y.number r.2 (omega arith))
        ]

-- without the object of a number
pub object_of-without_same : (o : ℕ) (xs : List NumberedObject) → object_of (without_object o xs) o ≡ None
object_of-without_same o [] = refl
object_of-without_same o (x ∷ xs) =
    elim (cases_eq x.number o) [
      | inl n ↦ let s = same x.number o n in rw s (object_of-without_same o xs)
      | inr d ↦ let s = differs x.number o d in rw (s, s) (object_of-without_same o xs)
    ]

pub object_of-without_other : (o : ℕ) (xs : List NumberedObject) (a : ℕ) → a ≢ o
    → object_of (without_object o xs) a ≡ object_of xs a
object_of-without_other o [] a d = refl
object_of-without_other o (x ∷ xs) a d =
    elim (cases_eq x.number o) [
      | inl n ↦ let s = same x.number o n in let t = differs x.number a (λ e. d (sym e ∙ n)) in
          rw (s, t) (object_of-without_other o xs a d)
      | inr n ↦ let s = differs x.number o n in rw (s, object_of-without_other o xs a d)
    ]

pub rising-without_object : (o low : ℕ) (xs : List NumberedObject) → AreRisingObjects low xs
    → AreRisingObjects low (without_object o xs)
rising-without_object o low [] r = tt
rising-without_object o low (x ∷ xs) r =
    let rest = rising-without_object o (x.number + 1) xs r.2 in
    elim (cases_eq x.number o) [
      | inl n ↦ let s = same x.number o n in
          rw s (rising_objects-lower (x.number + 1) low (without_object o xs) (omega (arith, r.0)) rest)
      | inr d ↦ let s = differs x.number o d in rw s (r.0, r.1, rest)
    ]

-- The objects of a table.
module _ {K : Type 0} (f : K → Object) where
  rising-from : (place : ℕ) (places : List (Option (HeldObject K)))
      → AreRisingObjects (2 * place) (objects_from f place places)
  rising-from place [] = tt
  rising-from place (None ∷ places) =
      rising_objects-lower (2 * (place + 1)) (2 * place) (objects_from f (place + 1) places) (omega arith)
      (rising-from (place + 1) places)
  rising-from place (Some kept ∷ places) = (
    omega arith,
    omega arith,
    rising_objects-lower (2 * (place + 1)) (2 * place + 1) (objects_from f (place + 1) places) (omega arith)
        (rising-from (place + 1) places),
  )

  pub rising-objects : (places : List (Option (HeldObject K))) → AreRisingObjects 0 (objects_of f places)
  rising-objects places = rising-from 0 places

  object_of-from : (place k : ℕ) (places : List (Option (HeldObject K)))
      → object_of (objects_from f place places) (2 * (place + k)) ≡ object_shown f (slice_index_or places k None)
  object_of-from place k [] = refl
  object_of-from place zero (None ∷ places) =
      object_of-below (2 * (place + 1)) (objects_from f (place + 1) places) (2 * (place + 0))
      (rising-from (place + 1) places) (omega arith)
  object_of-from place zero (Some kept ∷ places) =
      let s = same (2 * place) (2 * (place + 0)) (omega arith) in rw s refl
  object_of-from place (suc k) (None ∷ places) =
      let e : 2 * (place + suc k) ≡ 2 * (place + 1 + k) = omega arith in
      rw e (object_of-from (place + 1) k places)
  object_of-from place (suc k) (Some kept ∷ places) =
      let e : 2 * (place + suc k) ≡ 2 * (place + 1 + k) = omega arith in
      let s = differs (2 * place) (2 * (place + 1 + k)) (λ n. omega arith) in
      rw (e, s) (object_of-from (place + 1) k places)

  -- the object of a place is found by twice that place
  pub object_of-place : (places : List (Option (HeldObject K))) (k : ℕ)
      → object_of (objects_of f places) (2 * k) ≡ object_shown f (slice_index_or places k None)
  object_of-place places k =
      let e : 2 * k ≡ 2 * (0 + k) = omega arith in rw e (object_of-from 0 k places)

  -- what a handle names is found by its number, of which the lowest bit doesn't count
  pub object_of-named : (t : Table K) (o : ℕ)
      → object_of (objects_of f t.places) (object_number o) ≡ object_shown f (object_at t o)
  object_of-named t o = object_of-place t.places (o / 2)

  -- an odd number is none of an object
  pub object_of-odd : (places : List (Option (HeldObject K))) (o : ℕ) → object_number o ≢ o
      → object_of (objects_of f places) o ≡ None
  object_of-odd places o odd = by_answer (object_of (objects_of f places) o) refl
    where
      by_answer : (found : Option Object) → object_of (objects_of f places) o ≡ found → found ≡ None
      by_answer None e = refl
      by_answer (Some x) e = absurd (odd (rising_objects-bound 0 (objects_of f places) o x (rising-objects places) e).1)

  -- Two lists of objects are one where each even number finds the same.
  pub are_same : (xs ys : List NumberedObject) → AreRisingObjects 0 xs → AreRisingObjects 0 ys
      → ((k : ℕ) → object_of xs (2 * k) ≡ object_of ys (2 * k)) → xs ≡ ys
  are_same xs ys r r' finds = same_objects 0 0 xs ys r r' each
    where
      odd : (zs : List NumberedObject) → AreRisingObjects 0 zs → (o : ℕ) → object_number o ≢ o
          → (found : Option Object) → object_of zs o ≡ found → found ≡ None
      odd zs s o d None e = refl
      odd zs s o d (Some x) e = absurd (d (rising_objects-bound 0 zs o x s e).1)

      each : FindsObjects xs ys
      each o =
          elim (cases_eq (object_number o) o) [
            | inl even ↦ subst (λ n. object_of xs n ≡ object_of ys n) even (finds (o / 2))
            | inr d ↦ odd xs r o d (object_of xs o) refl ∙ sym (odd ys r' o d (object_of ys o) refl)
          ]
