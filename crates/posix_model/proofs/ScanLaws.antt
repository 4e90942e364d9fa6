-- Going through the processes of a table.
use Rattle.std.proofs.Common.{◌≡◌, ℕ, suc, ◌+◌, ◌<◌, Bool, true, false, cond, ◌||◌, List, [], ◌∷◌}
use Rattle.std.proofs.Common.{length, drop, Option, Some, None}
use Rattle.std.proofs.Common.{refl, sym, ◌∙◌, ap, arith, slice_index_or, Box, drop-cons}
use Rattle.std.proofs.Math.Seq.{drop-length}
use Rattle.posix_spec.specs.State.{Record}
use Rattle.posix_spec.specs.Records.{numbers_where}
use Rattle.posix_model.specs.declared.process.Process.{Process}
use Rattle.posix_model.specs.Numbered.{entry_before, entries_from}
use Rattle.posix_model.specs.Table.{record_in}
use Rattle.posix_model.specs.Scanned.{is_passed_in, some_entry, count_entries}

module _ {Z : Type 0} (seats : List (Option (Box Process Z))) where
  -- what is left from seat i on
  abbrev pub entries_at : ℕ → List (ℕ × Record)
  entries_at i = entries_from record_in (2 + i) (drop i seats)

  pub entries_step : (i : ℕ) (seat : Option (Box Process Z)) → i < length seats → seat ≡ slice_index_or seats i seat →
      entries_at i ≡ entry_before (2 + i) (record_in seat) (entries_at (i + 1))
  entries_step i seat h is =
      let next : suc i ≡ i + 1 = omega arith in
      let number : (2 + i) + 1 ≡ 2 + (i + 1) = omega arith in
      ap (entries_from record_in (2 + i)) (drop-cons seats i seat h ∙ ap (λ x. x ∷ drop (suc i) seats) (sym is))
      ∙ ap (λ n. entry_before (2 + i) (record_in seat) (entries_from record_in n (drop (suc i) seats))) number
      ∙ ap (λ n. entry_before (2 + i) (record_in seat) (entries_from record_in (2 + (i + 1)) (drop n seats))) next

  pub entries_end : entries_at (length seats) ≡ []
  entries_end = ap (entries_from record_in (2 + length seats)) (drop-length seats)

module _ (test : ℕ → Record → Bool) (n : ℕ) (rest : List (ℕ × Record)) where
  pub some_step : (o : Option Record) → some_entry test (entry_before n o rest) ≡ (is_passed_in test n o ||
      some_entry test rest)
  some_step None = refl
  some_step (Some r) = refl

  pub count_step : (o : Option Record) → count_entries test (entry_before n o rest) ≡ cond (is_passed_in test n o)
      (count_entries test rest + 1) (count_entries test rest)
  count_step None = refl
  count_step (Some r) =
      elim (test n r) as (λ b. length (cond b (n ∷ numbers_where test rest) (numbers_where test rest)) ≡ cond b
      (count_entries test rest + 1) (count_entries test rest)) [
        | true ↦ omega arith
        | false ↦ refl
      ]
