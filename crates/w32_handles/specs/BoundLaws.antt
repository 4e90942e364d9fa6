-- No more objects than handles, and no more holders of one.
use Rattle.std.proofs.Common.{◌≡◌, inl, inr, ℕ, suc, ◌+◌, ◌*◌, ◌≤◌, ◌<◌, Bool, true, false}
use Rattle.std.proofs.Common.{if◌then◌else◌, nat_eq, List, [], ◌∷◌, Option, Some, None, IsSome, length}
use Rattle.std.proofs.Common.{slice_index_or, refl, ap, subst, arith}
use Rattle.std.proofs.lemmas.Bool.{cases_eq, cases_lt}
use Rattle.win32_spec.specs.Handles.{Handle, holders_of}
use Rattle.win32_spec.specs.State.{Object, NumberedObject, Process}
use Rattle.win32_spec.specs.Lookup.{is_alive, object_number, object_of, add_object}
use Rattle.win32_spec.specs.Pipes.{all_holders_of}
use Rattle.win32_spec.specs.WellFormed.{AreRisingObjects}
use Rattle.win32_spec.specs.LookupLaws.{same, differs, before, not_before}
use Rattle.w32_handles.specs.Table.{HeldObject}
use Rattle.w32_handles.specs.Counted.{holders_on, all_holders_on, all_handles, count_objects}
use Rattle.w32_handles.specs.CountLaws.{is_on}
use Rattle.w32_handles.specs.Shown.{objects_from, without_object}
use Rattle.w32_handles.specs.ShownLaws.{object_of-below}

-- one handle names one object
one_holder : (p : Handle) (hs : List Handle) (o : ℕ) → object_number o ≡ o
    → holders_on (p ∷ hs) o ≡ (if nat_eq (object_number p.names) o then 1 else 0) + holders_on hs o
one_holder p hs o even = omega (arith, is_on p.names o even)

pub holders_on-le : (hs : List Handle) (o : ℕ) → object_number o ≡ o → holders_on hs o ≤ length hs
holders_on-le [] o even = omega arith
holders_on-le (p ∷ hs) o even =
    by_test (nat_eq (object_number p.names) o) (one_holder p hs o even) (holders_on-le hs o even)
  where
    by_test : (b : Bool) → holders_on (p ∷ hs) o ≡ (if b then 1 else 0) + holders_on hs o → holders_on hs o ≤ length hs
        → holders_on (p ∷ hs) o ≤ suc (length hs)
    by_test true e l = omega arith
    by_test false e l = omega arith

pub all_holders_on-le : (ps : List Process) (o : ℕ) → object_number o ≡ o → all_holders_on ps o ≤ all_handles ps
all_holders_on-le [] o even = omega arith
all_holders_on-le (p ∷ ps) o even = by_life (is_alive p.life) (all_holders_on-le ps o even)
  where
    by_life : (b : Bool) → all_holders_on ps o ≤ all_handles ps
        → (if b then holders_of p.handles o else 0) + all_holders_of ps o
        + ((if b then holders_of p.handles (o + 1) else 0) + all_holders_of ps (o + 1)) ≤
        (if b then length p.handles else 0) + all_handles ps
    by_life true l = omega (arith, holders_on-le p.handles o even)
    by_life false l = omega arith

module _ {K : Type 0} where
  -- a sum over the numbers of the objects, which stand at the places from one on
  abbrev sum_over : (ℕ → ℕ) → ℕ → List (Option (HeldObject K)) → ℕ
  sum_over g place [] = 0
  sum_over g place (None ∷ places) = sum_over g (place + 1) places
  sum_over g place (Some kept ∷ places) = g (2 * place) + sum_over g (place + 1) places

  sum-plus : (g h : ℕ → ℕ) (place : ℕ) (places : List (Option (HeldObject K)))
      → sum_over (λ o. g o + h o) place places ≡ sum_over g place places + sum_over h place places
  sum-plus g h place [] = refl
  sum-plus g h place (None ∷ places) = sum-plus g h (place + 1) places
  sum-plus g h place (Some kept ∷ places) = omega (arith, sum-plus g h (place + 1) places)

  sum-same : (g h : ℕ → ℕ) → ((k : ℕ) → g (2 * k) ≡ h (2 * k)) → (place : ℕ) (places : List (Option (HeldObject K)))
      → sum_over g place places ≡ sum_over h place places
  sum-same g h e place [] = refl
  sum-same g h e place (None ∷ places) = sum-same g h e (place + 1) places
  sum-same g h e place (Some kept ∷ places) = omega (arith, e place, sum-same g h e (place + 1) places)

  sum-zero : (place : ℕ) (places : List (Option (HeldObject K))) → sum_over (λ o. 0) place places ≡ 0
  sum-zero place [] = refl
  sum-zero place (None ∷ places) = sum-zero (place + 1) places
  sum-zero place (Some kept ∷ places) = omega (arith, sum-zero (place + 1) places)

  -- of one number
  sum-past : (n place : ℕ) (places : List (Option (HeldObject K))) → n < 2 * place
      → sum_over (λ o. if nat_eq n o then 1 else 0) place places ≡ 0
  sum-past n place [] l = refl
  sum-past n place (None ∷ places) l = sum-past n (place + 1) places (omega arith)
  sum-past n place (Some kept ∷ places) l =
      let s = differs n (2 * place) (λ e. omega arith) in
      rw s (omega (arith, sum-past n (place + 1) places (omega arith)))

  sum-one : (n place : ℕ) (places : List (Option (HeldObject K)))
      → sum_over (λ o. if nat_eq n o then 1 else 0) place places ≤ 1
  sum-one n place [] = omega arith
  sum-one n place (None ∷ places) = sum-one n (place + 1) places
  sum-one n place (Some kept ∷ places) =
      elim (cases_eq n (2 * place)) [
        | inl e ↦ let s = same n (2 * place) e in
            let rest = sum-past n (place + 1) places (omega arith) in rw s (omega (arith, rest))
        | inr d ↦ let s = differs n (2 * place) d in rw s (omega (arith, sum-one n (place + 1) places))
      ]

  sum-handles : (hs : List Handle) (place : ℕ) (places : List (Option (HeldObject K)))
      → sum_over (holders_on hs) place places ≤ length hs
  sum-handles [] place places = omega (arith, sum-zero place places)
  sum-handles (p ∷ hs) place places =
      let one : ℕ → ℕ = λ o. if nat_eq (object_number p.names) o then 1 else 0 in
      omega (
        arith,
        sum-same (holders_on (p ∷ hs)) (λ o. one o + holders_on hs o) (λ k. one_holder p hs (2 * k) (omega arith)) place
            places,
        sum-plus one (holders_on hs) place places,
        sum-one (object_number p.names) place places,
        sum-handles hs place places,
      )

  sum-holders : (ps : List Process) (place : ℕ) (places : List (Option (HeldObject K)))
      → sum_over (all_holders_on ps) place places ≤ all_handles ps
  sum-holders [] place places = omega (arith, sum-zero place places)
  sum-holders (p ∷ ps) place places = by_life (is_alive p.life) refl (sum-holders ps place places)
    where
      by_life : (b : Bool) → is_alive p.life ≡ b → sum_over (all_holders_on ps) place places ≤ all_handles ps
          → sum_over (all_holders_on (p ∷ ps)) place places ≤ all_handles (p ∷ ps)
      by_life true e rest =
          let split = sum-same (all_holders_on (p ∷ ps)) (λ o. holders_on p.handles o + all_holders_on ps o)
          (λ k. rw e (omega arith)) place places in
          rw e (omega (
            arith,
            split,
            sum-plus (holders_on p.handles) (all_holders_on ps) place places,
            sum-handles p.handles place places,
            rest,
          ))
      by_life false e rest =
          let split = sum-same (all_holders_on (p ∷ ps)) (all_holders_on ps) (λ k. rw e (omega arith)) place places in
          rw e (omega (arith, split, rest))

  -- where each object is held, there are no more objects than handles
  count-sum : (g : ℕ → ℕ) (place : ℕ) (places : List (Option (HeldObject K)))
      → ((k : ℕ) → IsSome (slice_index_or places k None) → 0 < g (2 * (place + k)))
      → count_objects places ≤ sum_over g place places
  count-sum g place [] held = omega arith
  count-sum g place (None ∷ places) held =
      count-sum g (place + 1) places
      (λ k some. subst (λ n. 0 < g (2 * n)) (omega arith) (held (suc k) some))
  count-sum g place (Some kept ∷ places) held =
      let here : 0 < g (2 * place) = subst (λ n. 0 < g (2 * n)) (omega arith) (held 0 refl) in
      omega (
        arith,
        here,
        count-sum g (place + 1) places
            (λ k some. subst (λ n. 0 < g (2 * n)) (omega arith) (held (suc k) some)),
      )

  pub count-le : (ps : List Process) (places : List (Option (HeldObject K)))
      → ((k : ℕ) → IsSome (slice_index_or places k None) → 0 < all_holders_on ps (2 * k))
      → count_objects places ≤ all_handles ps
  count-le ps places held =
      omega (
        arith,
        count-sum (all_holders_on ps) 0 places
            (λ k some. subst (λ n. 0 < all_holders_on ps (2 * n)) (omega arith) (held k some)),
        sum-holders ps 0 places,
      )

  pub length-objects : (f : K → Object) (place : ℕ) (places : List (Option (HeldObject K)))
      → length (objects_from f place places) ≡ count_objects places
  length-objects f place [] = refl
  length-objects f place (None ∷ places) = length-objects f (place + 1) places
  length-objects f place (Some kept ∷ places) = omega (arith, length-objects f (place + 1) places)

-- One object less, or one more.
pub without_object-absent : (o : ℕ) (xs : List NumberedObject) → object_of xs o ≡ None → without_object o xs ≡ xs
without_object-absent o [] e = refl
without_object-absent o (x ∷ xs) e =
    elim (cases_eq x.number o) [
      | inl n ↦ let s = same x.number o n in absurd (let f : Some x.object ≡ None = rw s at e in cc)
      | inr d ↦ let s = differs x.number o d in
          rw s (ap (λ rest. x ∷ rest) (without_object-absent o xs (rw s at e)))
    ]

pub length-without : (low o : ℕ) (x : Object) (xs : List NumberedObject) → AreRisingObjects low xs
    → object_of xs o ≡ Some x
    → length (without_object o xs) + 1 ≡ length xs
length-without low o x [] r e = absurd (cc)
length-without low o x (z ∷ xs) r e =
    elim (cases_eq z.number o) [
      | inl n ↦
          let s = same z.number o n in
          let gone = without_object-absent o xs (object_of-below (z.number + 1) xs o r.2 (omega arith)) in
          rw (s, gone) (omega arith)
      | inr d ↦ let s = differs z.number o d in
          rw s (omega (arith, length-without (z.number + 1) o x xs r.2 (rw s at e)))
    ]

pub length-add : (o : ℕ) (x : Object) (xs : List NumberedObject) → length (add_object o x xs) ≡ length xs + 1
length-add o x [] = refl
length-add o x (z ∷ xs) =
    elim (cases_lt o z.number) [
      | inl l ↦ let t = before o z.number l in rw t (omega arith)
      | inr l ↦ let t = not_before o z.number l in rw t (omega (arith, length-add o x xs))
    ]
