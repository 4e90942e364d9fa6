-- Laws of the sets that marks tell.
use Rattle.std.proofs.Common.{◌≡◌, ℕ, zero, suc, ◌+◌, ◌<◌, Bool, true, false, cond, ◌||◌, List, [], ◌∷◌}
use Rattle.std.proofs.Common.{length, Option}
use Rattle.std.proofs.Common.{Some, None, refl, sym, ◌∙◌, ap, arith, slice_get, slice_set, replicate, not, nat_eq}
use Rattle.std.proofs.Common.{eq-eqb, ne_eqb}
use Rattle.std.proofs.Common.{eqb-true, true≢false}
use Rattle.std.specs.List.{list_any}
use Rattle.std.specs.Ordering.{nat_cmp}
use Rattle.std.specs.Cmp.{nat_cmp_total, unsigned_tied}
use Rattle.std.specs.FinSet as set
use Rattle.std.specs.FinSet.{nat_cmp-IsAntisymmetric}
use Rattle.posix_model.specs.Marked.{marked_from, marked}
use Rattle.posix_model.proofs.NumberedLaws.{slice_get-set_same, slice_get-set_other}

abbrev pub is_mark : Option ℕ → Bool
is_mark None = false
is_mark (Some mark) = not (nat_eq mark 0)

among : ℕ → List ℕ → Bool
among q ks = list_any (λ y. nat_eq y q) ks

any_low : (n q : ℕ) (places : List ℕ) → q < n → list_any (λ y. nat_eq y q) (marked_from n places) ≡ false
any_low n q [] h = refl
any_low n q (mark ∷ marks) h =
    elim (nat_eq mark 0) as (λ b. list_any (λ y. nat_eq y q) (cond b (marked_from (n + 1) marks) (n ∷ marked_from (n
    + 1) marks)) ≡ false) [
      | true ↦ any_low (n + 1) q marks (omega arith)
      | false ↦ ap (λ b. b || list_any (λ y. nat_eq y q) (marked_from (n + 1) marks)) (ne_eqb n q (omega arith)) ∙
          any_low (n + 1) q marks (omega arith)
    ]

any_at : (n k q : ℕ) (places : List ℕ) → q ≡ n + k → list_any (λ y. nat_eq y q) (marked_from n places) ≡ is_mark
    (slice_get places k)
any_at n k q [] e = refl
any_at n zero q (mark ∷ marks) e =
    elim (nat_eq mark 0) as (λ b. list_any (λ y. nat_eq y q) (cond b (marked_from (n + 1) marks) (n ∷ marked_from (n
    + 1) marks)) ≡ not b) [
      | true ↦ any_low (n + 1) q marks (omega arith)
      | false ↦ ap (λ b. b || list_any (λ y. nat_eq y q) (marked_from (n + 1) marks)) (eq-eqb n q (omega arith))
    ]
any_at n (suc k) q (mark ∷ marks) e =
    let rest : list_any (λ y. nat_eq y q) (marked_from (n + 1) marks) ≡ is_mark (slice_get marks k) = any_at (n + 1)
    k q marks (omega arith) in
    elim (nat_eq mark 0) as (λ b. list_any (λ y. nat_eq y q) (cond b (marked_from (n + 1) marks) (n ∷ marked_from (n
    + 1) marks)) ≡ is_mark (slice_get marks k)) [
      | true ↦ rest
      | false ↦ ap (λ b. b || list_any (λ y. nat_eq y q) (marked_from (n + 1) marks)) (ne_eqb n q (omega arith)) ∙ rest
    ]

pub has_is : (places : List ℕ) (q : ℕ) → set.contains (marked places) q ≡ is_mark (slice_get places q)
has_is places q = set.contains-from_list_nat (marked_from 0 places) q ∙ any_at 0 q q places (omega arith)

zeros_get : (count q : ℕ) → is_mark (slice_get (replicate count 0) q) ≡ false
zeros_get zero q = refl
zeros_get (suc count) zero = refl
zeros_get (suc count) (suc q) = zeros_get count q

pub cleared : (count : ℕ) → marked (replicate count 0) ≡ set.empty
cleared count = set.same_set nat_cmp_total nat_cmp-IsAntisymmetric _ _ (λ q.
    has_is (replicate count 0) q ∙ zeros_get count q ∙ sym (set.contains-empty nat_cmp q))

pub marked-set : (places : List ℕ) (k : ℕ) → k < length places → marked (slice_set places k 1) ≡ set.insert (marked
    places) k
marked-set places k h = set.same_set nat_cmp_total nat_cmp-IsAntisymmetric _ _ (λ q.
    has_is (slice_set places k 1) q
    ∙ elim (nat_eq q k) as (λ b. nat_eq q k ≡ b → is_mark (slice_get (slice_set places k 1) q) ≡ (b || set.contains
    (marked places) q)) [
      | true ↦ λ is. ap (λ m. is_mark (slice_get (slice_set places k 1) m)) (eqb-true q k is) ∙ ap is_mark
          (slice_get-set_same places k 1 h)
      | false ↦ λ is. ap is_mark (slice_get-set_other places k q 1 (λ same. true≢false (sym (eq-eqb q k same) ∙ is)))
          ∙ sym (has_is places q)
    ] refl
    ∙ ap (λ b. b || set.contains (marked places) q) (sym (unsigned_tied q k))
    ∙ sym (set.contains-insert nat_cmp_total (marked places) k q))
