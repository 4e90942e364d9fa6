-- The object and the slot of a process.
use Rattle.std.proofs.Common.{◌≡◌, ℕ, zero, suc, ◌+◌, ◌*◌, ◌<◌, true, false, List, [], ◌∷◌, Option, Some, None}
use Rattle.std.proofs.Common.{slice_index_or, refl, ap, arith, ◌∙◌, sym}
use Rattle.win32_spec.specs.State.{Object}
use Rattle.win32_spec.specs.ProcessCalls.{process_object}
use Rattle.w32_handles.specs.PlaceLaws.{at_place}
use Rattle.w32_handles.specs.Shown.{object_shown, objects_from, objects_of}
use Rattle.w32_handles.specs.Table.{HeldObject, Table, object_at}
use Rattle.w32_machine.specs.Handing.{is_its_object}

module _ {K : Type 0} (f : K → Object) (w : ℕ) where
  -- the first object that is that of a process
  first-from : (place n : ℕ) (places : List (Option (HeldObject K)))
      → ((k : ℕ) → k < n → is_its_object (object_shown f (slice_index_or places k None)) w ≡ false)
      → is_its_object (object_shown f (slice_index_or places n None)) w ≡ true
      → process_object (objects_from f place places) w ≡ Some (2 * (place + n))
  first-from place n [] before here = absurd (cc)
  first-from place zero (None ∷ places) before here = absurd (cc)
  first-from place (suc n) (None ∷ places) before here =
      first-from (place + 1) n places (λ k l. before (suc k) (omega arith)) here
      ∙ ap (λ i. Some (2 * i)) (omega arith)
  first-from place zero (Some kept ∷ places) before here = rw here (ap (λ i. Some (2 * i)) (omega arith))
  first-from place (suc n) (Some kept ∷ places) before here =
      let s = before 0 (omega arith) in
      rw s (first-from (place + 1) n places (λ k l. before (suc k) (omega arith)) here
      ∙ ap (λ i. Some (2 * i)) (omega arith))

  none-from : (place : ℕ) (places : List (Option (HeldObject K)))
      → ((k : ℕ) → is_its_object (object_shown f (slice_index_or places k None)) w ≡ false)
      → process_object (objects_from f place places) w ≡ None
  none-from place [] none = refl
  none-from place (None ∷ places) none = none-from (place + 1) places (λ k. none (suc k))
  none-from place (Some kept ∷ places) none =
      let s = none 0 in rw s (none-from (place + 1) places (λ k. none (suc k)))

  -- the same by the numbers of a table
  pub first-found : (n : ℕ) (t : Table K)
      → ((k : ℕ) → k < n → is_its_object (object_shown f (object_at t (2 * k))) w ≡ false)
      → is_its_object (object_shown f (object_at t (2 * n))) w ≡ true
      → process_object (objects_of f t.places) w ≡ Some (2 * n)
  first-found n t before here =
      first-from 0 n t.places
      (λ k l. ap (λ o. is_its_object (object_shown f o) w) (sym (at_place t k)) ∙ before k l)
      (ap (λ o. is_its_object (object_shown f o) w) (sym (at_place t n)) ∙ here)
      ∙ ap (λ i. Some (2 * i)) (omega arith)

  pub none-found : (t : Table K) → ((k : ℕ) → is_its_object (object_shown f (object_at t (2 * k))) w ≡ false)
      → process_object (objects_of f t.places) w ≡ None
  none-found t none =
      none-from 0 t.places (λ k. ap (λ o. is_its_object (object_shown f o) w) (sym (at_place t k)) ∙ none k)
