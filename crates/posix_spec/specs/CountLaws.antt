-- How many entries pass a test, after one is put in its place or taken away.
use Rattle.std.specs.Prelude.{◌≡◌, ℕ, ◌+◌, ◌<◌, ◌≤◌, Bool, true, false, cond, List, [], ◌∷◌, length, Some, T}
use Rattle.std.specs.Ordering.{nat_cmp, is_eq}
use Rattle.std.specs.declared.cmp.Ordering.TheVariants.{Less, Equal, Greater}
use Rattle.std.specs.FinMap.Entries.{find, put, where_key, is_sorted, by_order}
use Rattle.std.specs.Cmp.{ranked}
use Rattle.std.proofs.Common.{refl, sym, ap, ◌∙◌, arith}
use Rattle.posix_spec.specs.State.{Record}
use Rattle.posix_spec.specs.Records.{numbers_where}
use Rattle.posix_spec.specs.RecordLaws.{same_record, no_record}
use Rattle.posix_spec.specs.EntryLaws.{found_above, both_first, both_second}

abbrev pub one_if : Bool → ℕ
one_if b = cond b 1 0

module _ (test : ℕ → Record → Bool) where
  abbrev counted : List (ℕ × Record) → ℕ
  counted es = length (numbers_where test es)

  pub counted_first : (e : ℕ × Record) (es : List (ℕ × Record)) → counted (e ∷ es) ≡ one_if (test e.0 e.1) + counted es
  counted_first e es = elim (test e.0 e.1)
      as (λ b. length (cond b (e.0 ∷ numbers_where test es) (numbers_where test es)) ≡ one_if b + counted es)
      [ true ↦ omega arith | false ↦ omega arith ]

  -- put in its place: at most one more
  pub counted_put : (k : ℕ) (v : Record) (es : List (ℕ × Record)) → counted (put nat_cmp k v es) ≤ one_if
      (test k v) + counted es
  counted_put k v [] = omega (arith, counted_first (k, v) [])
  counted_put k v (e ∷ es) =
      elim (nat_cmp k e.0) as (λ r. r ≡ nat_cmp k e.0 → counted
      (by_order r ((k, v) ∷ e ∷ es) ((e.0, v) ∷ es) (e ∷ put nat_cmp k v es)) ≤ one_if (test k v) + counted
      (e ∷ es)) [
        | Less ↦ λ _. omega (arith, counted_first (k, v) (e ∷ es))
        | Equal ↦ λ t. let same = ap (λ n. one_if (test n v)) (ranked k e.0 Equal t) in
            omega (arith, counted_first (e.0, v) es, counted_first e es, same)
        | Greater ↦ λ _. omega (arith, counted_first e (put nat_cmp k v es), counted_first e es, counted_put k v es)
      ] refl

  -- put over one that passes alike: as many
  pub counted_over : (k : ℕ) (old v : Record) (es : List (ℕ × Record)) → T (is_sorted nat_cmp es) →
      find nat_cmp k es ≡ Some old → ((n : ℕ) → test n v ≡ test n old) → counted (put nat_cmp k v es) ≡ counted es
  counted_over k old v [] sorted is alike = absurd (no_record old is)
  counted_over k old v (e ∷ es) sorted is alike =
      elim (nat_cmp k e.0) as (λ r. r ≡ nat_cmp k e.0 → cond (is_eq r) (Some e.1) (find nat_cmp k es) ≡ Some old →
      counted (by_order r ((k, v) ∷ e ∷ es) ((e.0, v) ∷ es) (e ∷ put nat_cmp k v es)) ≡ counted (e ∷ es)) [
        | Less ↦ λ t there. let low : k < e.0 = ranked k e.0 Less t in
            let high = found_above k e.0 old es (both_first _ _ sorted) there in absurd (omega arith)
        | Equal ↦ λ _ here. let same : one_if (test e.0 v) ≡ one_if (test e.0 e.1) =
            ap one_if (alike e.0 ∙ ap (test e.0) (sym (same_record e.1 old here))) in
            omega (arith, counted_first (e.0, v) es, counted_first e es, same)
        | Greater ↦ λ _ there. omega (
          arith,
          counted_first e (put nat_cmp k v es),
          counted_first e es,
          counted_over k old v es
              (both_second _ _ sorted) there alike,
        )
      ] refl is

  -- where some are taken away: no more
  pub counted_where_key : (p : ℕ → Bool) (es : List (ℕ × Record)) → counted (where_key nat_cmp p es) ≤ counted es
  counted_where_key p [] = omega arith
  counted_where_key p (e ∷ es) =
      elim (p e.0) as (λ b. counted (cond b (e ∷ where_key nat_cmp p es) (where_key nat_cmp p es)) ≤ counted (e ∷ es)) [
        | true ↦ omega (arith, counted_first e (where_key nat_cmp p es), counted_first e es, counted_where_key p es)
        | false ↦ omega (arith, counted_first e es, counted_where_key p es)
      ]
