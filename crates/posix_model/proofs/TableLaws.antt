-- Laws of the records of a table.
use Rattle.std.proofs.Common.{◌≡◌, ℕ, ◌+◌, ◌-◌, ◌<◌, ◌≤◌, List, length, Option, Some, None}
use Rattle.std.proofs.Common.{refl, sym, ◌∙◌, ap, arith}
use Rattle.std.proofs.Common.{option_and_then, slice_set, slice_index_or, Box, IsSome, is_some}
use Rattle.std.proofs.Common.{true≢false}
use Rattle.std.proofs.lemmas.Option.{slice_get_read, slice_get_past}
use Rattle.std.specs.FinMap as map
use Rattle.posix_model.specs.declared.process.Process.{Process}
use Rattle.posix_model.specs.Numbered.{map_from}
use Rattle.posix_model.specs.Shown.{record_of}
use Rattle.posix_model.specs.Table.{record_in}
use Rattle.posix_model.proofs.NumberedLaws.{get_below, get_from, map_from-set, map_from-unset}

pub no_some : {X : Type 0} (o : Option X) → o ≡ None → IsSome o → ⊥
no_some o e s = true≢false (sym s ∙ ap is_some e)

module _ {Z : Type 0} (seats : List (Option (Box Process Z))) where
  pub seat_of : (q k : ℕ) (seat : Option (Box Process Z)) → q ≡ 2 + k → k < length seats → seat ≡ slice_index_or
      seats k seat →
      map.get (map_from record_in 2 seats) q ≡ record_in seat
  seat_of q k seat e h is = get_from record_in 2 seats q k e ∙ ap (option_and_then record_in) (slice_get_read seats
      (length seats) k seat refl h is)

  pub seat_below : (q : ℕ) → q < 2 → map.get (map_from record_in 2 seats) q ≡ None
  seat_below q h = get_below record_in 2 seats q h

  pub seat_past : (q : ℕ) → 2 + length seats ≤ q → map.get (map_from record_in 2 seats) q ≡ None
  seat_past q h =
      get_from record_in 2 seats q (q - 2) (omega arith) ∙ ap (option_and_then record_in) (slice_get_past seats (q -
      2) (omega arith))

  pub seat_taken : (q k : ℕ) → q ≡ 2 + k → k < length seats → map_from record_in 2 (slice_set seats k None) ≡
      map.remove (map_from record_in 2 seats) q
  seat_taken q k e h = map_from-unset record_in 2 seats k None h refl ∙ ap (map.remove (map_from record_in 2 seats))
      (sym e)

  pub seat_put : (q k : ℕ) (process : Box Process Z) → q ≡ 2 + k → k < length seats →
      map_from record_in 2 (slice_set seats k (Some process)) ≡ map.insert (map_from record_in 2 seats) q (record_of
      process.value)
  seat_put q k process e h =
      map_from-set record_in 2 seats k (Some process) (record_of process.value) h refl
      ∙ ap (λ n. map.insert (map_from record_in 2 seats) n (record_of process.value)) (sym e)
