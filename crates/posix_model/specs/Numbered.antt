-- A row of places as a map from numbers: each place has the number that is one more than that of the place before it.
use Rattle.std.specs.Prelude.{ℕ, ◌+◌, List, [], ◌∷◌, Option, Some, None}
use Rattle.std.specs.Ordering.{nat_cmp}
use Rattle.std.specs.FinMap as map

-- with what a place tells, where it tells something
abbrev pub entry_before : {X : Type 0} → ℕ → Option X → List (ℕ × X) → List (ℕ × X)
entry_before n None es = es
entry_before n (Some x) es = (n, x) ∷ es

module _ {A X : Type 0} (told : A → Option X) where
  -- what the places tell, from number n on
  abbrev pub entries_from : ℕ → List A → List (ℕ × X)
  entries_from n [] = []
  entries_from n (place ∷ places) = entry_before n (told place) (entries_from (n + 1) places)

  abbrev pub map_from : ℕ → List A → map.FinMap nat_cmp X
  map_from n places = map.from_sorted (entries_from n places)
