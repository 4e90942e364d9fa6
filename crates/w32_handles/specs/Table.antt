-- What a contract sees of a table of objects.
use Rattle.std.specs.Prelude.{◌≡◌, ◌≢◌, ℕ, ◌+◌, ◌-◌, ◌/◌, List, Option, Some, None, refl, nat_lt, if◌then◌else◌}
use Rattle.std.specs.Prelude.{slice_index_or, slice_set}
use Rattle.std.specs.Coded.{Coded, code_by, coded×, coded_ℕ, coded_list, coded_option}

-- an object, and how many holders it has
pub record HeldObject (K : Type 0) : Type 0 where
  pub object : K
  pub holders : ℕ

-- each place with an object or nothing, and how many further objects there is room for
pub record Table (K : Type 0) : Type 0 where
  pub places : List (Option (HeldObject K))
  pub spare : ℕ

-- both are stored as pairs
abbrev pub kept_code : {K : Type 0} → Coded K → Coded (HeldObject K)
kept_code {K} code =
    code_by (K
    × ℕ) (coded× code coded_ℕ) (λ k. (k.object, k.holders)) (λ p. record { object = p.0; holders = p.1 })
    (λ _. refl)

abbrev pub table_code : {K : Type 0} → Coded K → Coded (Table K)
table_code {K} code =
    code_by
    (List (Option (HeldObject K)) × ℕ)
    (coded× (coded_list (coded_option (kept_code code))) coded_ℕ)
    (λ t. (t.places, t.spare))
    (λ p. record { places = p.0; spare = p.1 })
    (λ _. refl)

module _ {K : Type 0} where
  -- the object of a number, whose lowest bit doesn't count, with its holders
  abbrev pub object_at : Table K → ℕ → Option (HeldObject K)
  object_at t o = slice_index_or t.places (o / 2) None

  -- the new table has this under a number, and under each number of another object what the old one had
  pub record Changes (old new : Table K) (o : ℕ) (kept : Option (HeldObject K)) : Type 0 where
    pub here : object_at new o ≡ kept
    pub others : (other : ℕ) → other / 2 ≢ o / 2 → object_at new other ≡ object_at old other

  -- with a holder more
  abbrev pub one_more : Option (HeldObject K) → Option (HeldObject K)
  one_more None = None
  one_more (Some kept) = Some (record kept { holders = kept.holders + 1 })

  -- with a holder less, and nothing where it was the last one
  abbrev pub one_less : Option (HeldObject K) → Option (HeldObject K)
  one_less None = None
  one_less (Some kept) = if nat_lt 1 kept.holders then Some (record kept { holders = kept.holders - 1 }) else None

  -- how many objects go with one holder of this one
  abbrev pub freed : Option (HeldObject K) → ℕ
  freed None = 0
  freed (Some kept) = if nat_lt 1 kept.holders then 0 else 1

  -- another object with the same holders
  abbrev pub instead : K → Option (HeldObject K) → Option (HeldObject K)
  instead object None = None
  instead object (Some kept) = Some (record kept { object = object })

  -- the table with another object under a number
  abbrev pub with_object : Table K → ℕ → K → Table K
  with_object t o object = record t { places = slice_set t.places (o / 2) (instead object (object_at t o)) }
