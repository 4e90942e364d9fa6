-- Laws of rows of places as maps.
use Rattle.std.proofs.Common.{◌≡◌, ◌≢◌, ℕ, zero, suc, ◌+◌, ◌-◌, ◌<◌, ◌≤◌, Bool, true, false, cond, ◌&&◌, T, List, []}
use Rattle.std.proofs.Common.{◌∷◌, length}
use Rattle.std.proofs.Common.{Option, Some, None, refl, sym, ◌∙◌, ap, subst, arith, true≢false, ltb-true, ltb-false}
use Rattle.std.proofs.Common.{lt-ltb, le-ltb}
use Rattle.std.proofs.Common.{eq-eqb, ne_eqb, eqb-true, option_and_then, slice_get, slice_set, nat_lt}
use Rattle.std.proofs.Common.{nat_eq, replicate}
use Rattle.std.specs.Ordering.{nat_cmp, is_lt, eq_by_cmp}
use Rattle.std.specs.declared.cmp.Ordering.TheVariants.{Less, Equal, Greater}
use Rattle.std.specs.Cmp.{nat_cmp_total, unsigned_tied}
use Rattle.std.specs.FinMap as map
use Rattle.std.specs.FinMap.{nat_cmp-IsAntisymmetric}
use Rattle.std.specs.FinMap.Entries.{find, is_sorted, below_all}
use Rattle.posix_model.specs.Numbered.{entry_before, entries_from, map_from}

tied : (x y : ℕ) → x ≡ y → eq_by_cmp nat_cmp x y ≡ true
tied x y e = unsigned_tied x y ∙ eq-eqb x y e

apart : (x y : ℕ) → x ≢ y → eq_by_cmp nat_cmp x y ≡ false
apart x y h = unsigned_tied x y ∙ ne_eqb x y h

rises : (x y : ℕ) → x < y → is_lt (nat_cmp x y) ≡ true
rises x y h = ap (λ b. is_lt (cond b Less (cond (nat_eq x y) Equal Greater))) (lt-ltb x y h)

-- what a row of places from n on tells of number q
module _ {A X : Type 0} (told : A → Option X) where
  abbrev pub seen : ℕ → List A → ℕ → Option X
  seen n places q = cond (nat_lt q n) None (option_and_then told (slice_get places (q - n)))

  find_low : (n q : ℕ) (places : List A) → q < n → find nat_cmp q (entries_from told n places) ≡ None
  find_low n q [] h = refl
  find_low n q (place ∷ places) h =
      elim (told place) as (λ o. find nat_cmp q (entry_before n o (entries_from told (n + 1) places)) ≡ None) [
        | None ↦ find_low (n + 1) q places (omega arith)
        | Some x ↦ ap (λ b. cond b (Some x) (find nat_cmp q (entries_from told (n + 1) places))) (apart q n (omega
            arith))
            ∙ find_low (n + 1) q places (omega arith)
      ]

  find_at : (n k : ℕ) (places : List A) → find nat_cmp (n + k) (entries_from told n places) ≡ option_and_then told
      (slice_get places k)
  find_at n k [] = refl
  find_at n zero (place ∷ places) =
      elim (told place) as (λ o. find nat_cmp (n + 0) (entry_before n o (entries_from told (n + 1) places)) ≡ o) [
        | None ↦ find_low (n + 1) (n + 0) places (omega arith)
        | Some x ↦ ap (λ b. cond b (Some x) (find nat_cmp (n + 0) (entries_from told (n + 1) places))) (tied (n + 0)
            n (omega arith))
      ]
  find_at n (suc k) (place ∷ places) =
      let along : n + suc k ≡ (n + 1) + k = omega arith in
      let rest : find nat_cmp (n + suc k) (entries_from told (n + 1) places) ≡ option_and_then told (slice_get places
      k) =
      ap (λ m. find nat_cmp m (entries_from told (n + 1) places)) along ∙ find_at (n + 1) k places in
      elim (told place) as (λ o. find nat_cmp (n + suc k) (entry_before n o (entries_from told (n + 1) places)) ≡
      option_and_then told (slice_get places k)) [
        | None ↦ rest
        | Some x ↦ ap (λ b. cond b (Some x) (find nat_cmp (n + suc k) (entries_from told (n + 1) places))) (apart (n
            + suc k) n (omega arith)) ∙ rest
      ]

  below_from : (m n : ℕ) (places : List A) → m < n → below_all nat_cmp m (entries_from told n places) ≡ true
  below_from m n [] h = refl
  below_from m n (place ∷ places) h =
      elim (told place) as (λ o. below_all nat_cmp m (entry_before n o (entries_from told (n + 1) places)) ≡ true) [
        | None ↦ below_from m (n + 1) places (omega arith)
        | Some x ↦ ap (λ b. b && below_all nat_cmp m (entries_from told (n + 1) places)) (rises m n h) ∙ below_from m
            (n + 1) places (omega arith)
      ]

  sorted_from : (n : ℕ) (places : List A) → is_sorted nat_cmp (entries_from told n places) ≡ true
  sorted_from n [] = refl
  sorted_from n (place ∷ places) =
      elim (told place) as (λ o. is_sorted nat_cmp (entry_before n o (entries_from told (n + 1) places)) ≡ true) [
        | None ↦ sorted_from (n + 1) places
        | Some x ↦ ap (λ b. b && is_sorted nat_cmp (entries_from told (n + 1) places)) (below_from n (n + 1) places
            (omega arith)) ∙ sorted_from (n + 1) places
      ]

  holds : (b : Bool) → b ≡ true → T b
  holds b e = subst T (sym e) tt

  -- the entries of the map are those of the row
  pub entries-map_from : (n : ℕ) (places : List A) → map.entries (map_from told n places) ≡ entries_from told n places
  entries-map_from n places = map.entries-from_sorted nat_cmp (entries_from told n places) (holds _ (sorted_from n
      places))

  pub get-map_from : (n : ℕ) (places : List A) (q : ℕ) → map.get (map_from told n places) q ≡ seen n places q
  get-map_from n places q =
      map.get-from_sorted nat_cmp (entries_from told n places) q (holds _ (sorted_from n places))
      ∙ elim (nat_lt q n) as (λ b. nat_lt q n ≡ b → find nat_cmp q (entries_from told n places) ≡ cond b None
      (option_and_then told (slice_get places (q - n)))) [
        | true ↦ λ e. find_low n q places (ltb-true q n e)
        | false ↦ λ e. let within : n ≤ q = ltb-false q n e in
            ap (λ m. find nat_cmp m (entries_from told n places)) (omega arith) ∙ find_at n (q - n) places
      ] refl

module _ {A X : Type 0} (told : A → Option X) (n : ℕ) (places : List A) where
  pub get_below : (q : ℕ) → q < n → map.get (map_from told n places) q ≡ None
  get_below q h =
      get-map_from told n places q ∙ ap (λ b. cond b None (option_and_then told (slice_get places (q - n)))) (lt-ltb
      q n h)

  pub get_from : (q k : ℕ) → q ≡ n + k → map.get (map_from told n places) q ≡ option_and_then told (slice_get places k)
  get_from q k e =
      get-map_from told n places q
      ∙ ap (λ b. cond b None (option_and_then told (slice_get places (q - n)))) (le-ltb q n (omega arith))
      ∙ ap (λ j. option_and_then told (slice_get places j)) (omega arith)

pub slice_get-set_same : {A : Type 0} (xs : List A) (i : ℕ) (v : A) → i < length xs → slice_get (slice_set xs i v) i
    ≡ Some v
slice_get-set_same [] i v h = absurd (omega arith)
slice_get-set_same (x ∷ xs) zero v h = refl
slice_get-set_same (x ∷ xs) (suc i) v h = slice_get-set_same xs i v (omega arith)

pub slice_get-set_other : {A : Type 0} (xs : List A) (i k : ℕ) (v : A) → k ≢ i → slice_get (slice_set xs i v) k ≡
    slice_get xs k
slice_get-set_other [] i k v h = refl
slice_get-set_other (x ∷ xs) zero zero v h = absurd (h refl)
slice_get-set_other (x ∷ xs) zero (suc k) v h = refl
slice_get-set_other (x ∷ xs) (suc i) zero v h = refl
slice_get-set_other (x ∷ xs) (suc i) (suc k) v h = slice_get-set_other xs i k v (λ e. h (ap suc e))

module _ {A X : Type 0} (told : A → Option X) (n : ℕ) (places : List A) (i : ℕ) (v : A) where
  seen-set_same : (q : ℕ) → q ≡ n + i → i < length places → seen told n (slice_set places i v) q ≡ told v
  seen-set_same q e h =
      let at : q - n ≡ i = omega arith in
      ap (λ b. cond b None (option_and_then told (slice_get (slice_set places i v) (q - n)))) (le-ltb q n (omega arith))
      ∙ ap (λ k. option_and_then told (slice_get (slice_set places i v) k)) at
      ∙ ap (option_and_then told) (slice_get-set_same places i v h)

  seen-set_other : (q : ℕ) → q ≢ n + i → seen told n (slice_set places i v) q ≡ seen told n places q
  seen-set_other q h =
      elim (nat_lt q n) as (λ b. nat_lt q n ≡ b → cond b None (option_and_then told (slice_get (slice_set places i v)
      (q - n))) ≡ cond b None (option_and_then told (slice_get places (q - n)))) [
        | true ↦ λ e. refl
        | false ↦ λ e. let within : n ≤ q = ltb-false q n e in
            ap (option_and_then told) (slice_get-set_other places i (q - n) v (λ s. h (omega arith)))
      ] refl

  other_key : (q : ℕ) → eq_by_cmp nat_cmp q (n + i) ≡ false → q ≢ n + i
  other_key q e s = true≢false (sym (tied q (n + i) s) ∙ e)

  same_key : (q : ℕ) → eq_by_cmp nat_cmp q (n + i) ≡ true → q ≡ n + i
  same_key q e = eqb-true q (n + i) (sym (unsigned_tied q (n + i)) ∙ e)

  -- a place that now tells x
  pub map_from-set : (x : X) → i < length places → told v ≡ Some x → map_from told n (slice_set places i v) ≡
      map.insert (map_from told n places) (n + i) x
  map_from-set x h e = map.same_map nat_cmp_total nat_cmp-IsAntisymmetric _ _ (λ q.
      get-map_from told n (slice_set places i v) q
      ∙ elim (eq_by_cmp nat_cmp q (n + i)) as (λ b. eq_by_cmp nat_cmp q (n + i) ≡ b → seen told n (slice_set places i
      v) q ≡ cond b (Some x) (map.get (map_from told n places) q)) [
        | true ↦ λ is. seen-set_same q (same_key q is) h ∙ e
        | false ↦ λ is. seen-set_other q (other_key q is) ∙ sym (get-map_from told n places q)
      ] refl
      ∙ sym (map.get-insert nat_cmp_total (map_from told n places) (n + i) x q))

  -- a place that now tells nothing
  pub map_from-unset : i < length places → told v ≡ None → map_from told n (slice_set places i v) ≡ map.remove
      (map_from told n places) (n + i)
  map_from-unset h e = map.same_map nat_cmp_total nat_cmp-IsAntisymmetric _ _ (λ q.
      get-map_from told n (slice_set places i v) q
      ∙ elim (eq_by_cmp nat_cmp q (n + i)) as (λ b. eq_by_cmp nat_cmp q (n + i) ≡ b → seen told n (slice_set places i
      v) q ≡ cond b None (map.get (map_from told n places) q)) [
        | true ↦ λ is. seen-set_same q (same_key q is) h ∙ e
        | false ↦ λ is. seen-set_other q (other_key q is) ∙ sym (get-map_from told n places q)
      ] refl
      ∙ sym (map.get-remove nat_cmp_total (map_from told n places) (n + i) q))

entries_none : {A X : Type 0} (told : A → Option X) (n count : ℕ) (v : A) → told v ≡ None → entries_from told n
    (replicate count v) ≡ []
entries_none told n zero v e = refl
entries_none told n (suc count) v e = ap (λ o. entry_before n o (entries_from told (n + 1) (replicate count v))) e ∙
    entries_none told (n + 1) count v e

-- places that tell nothing
pub map_from-none : {A X : Type 0} (told : A → Option X) (n count : ℕ) (v : A) → told v ≡ None → map_from told n
    (replicate count v) ≡ map.empty
map_from-none told n count v e = ap map.from_sorted (entries_none told n count v e)
    ∙ map.same_map nat_cmp_total nat_cmp-IsAntisymmetric _ _ (λ q. map.get-from_sorted nat_cmp [] q tt ∙ sym
    (map.get-empty nat_cmp q))

-- a record that is taken out and put in again
pub insert-remove : {X : Type 0} (m : map.FinMap nat_cmp X) (k : ℕ) (x : X) → map.insert (map.remove m k) k x ≡
    map.insert m k x
insert-remove m k x = map.same_map nat_cmp_total nat_cmp-IsAntisymmetric _ _ (λ q.
    map.get-insert nat_cmp_total (map.remove m k) k x q
    ∙ elim (eq_by_cmp nat_cmp q k) as (λ b. eq_by_cmp nat_cmp q k ≡ b → cond b (Some x) (map.get (map.remove m k) q)
    ≡ cond b (Some x) (map.get m q)) [
      | true ↦ λ is. refl
      | false ↦ λ is. map.get-remove nat_cmp_total m k q ∙ ap (λ b. cond b None (map.get m q)) is
    ] refl
    ∙ sym (map.get-insert nat_cmp_total m k x q))
