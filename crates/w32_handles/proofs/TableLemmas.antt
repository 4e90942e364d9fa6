-- What the places of a table of handles are to its calls.
use Rattle.std.proofs.Common.{not, All, take, slice_get, ◌⊎◌, inl, inr, cond, count_by, ◌≡◌, ◌≢◌, ℕ, ◌+◌}
use Rattle.std.proofs.Common.{◌-◌, ◌≤◌, ◌<◌, Bool, true, false, nat_eq, List, [], ◌∷◌, ◌++◌}
use Rattle.std.proofs.Common.{length, get_or, set, replicate, Option, Some, None, IsSome, is_some, refl, sym, ap, subst}
use Rattle.std.proofs.Common.{◌∙◌, arith, true≢false, if◌then◌else◌}
use Rattle.std.proofs.lemmas.Bool.{cases_eq, cases_lt}
use Rattle.std.proofs.lemmas.List.{length-set, length-replicate, get_or-replicate, get_or-set_same, get_or-set_other}
use Rattle.std.proofs.lemmas.List.{get_or_default, set-get_or, take_more, take_all}
use Rattle.std.proofs.lemmas.List.Elements.{All-more}
use Rattle.std.proofs.lemmas.Option.{get_or_from_slice_get, slice_get_within, slice_get-get_or}
use Rattle.std.proofs.lemmas.List.Sums.{sum_by-cons}
use Rattle.win32_spec.specs.Handles.{Handle, handle_of, with_handle, without_handle, is_listed, listed_handles}
use Rattle.win32_spec.specs.Handles.{AreRisingFrom, IsLowestFree}
use Rattle.w32_handles.specs.Places.{handles_from}
use Rattle.win32_spec.specs.LookupLaws.{same, differs}
use Rattle.w32_handles.proofs.PlaceLemmas.{AreRisingFrom-from, handle_of-from, is_listed-push}
use Rattle.w32_handles.proofs.PlaceLemmas.{length-from_free, length-from_full, listed_handles-from}
use Rattle.w32_handles.proofs.PlaceLemmas.{with_handle-from, without_handle-from}

-- What the calls ask of a table, whose places show its list.
module _ (ps : List (Option ℕ)) (hs : List Handle) (shown : handles_from 1 ps ≡ hs) (full : length ps ≡ 64) where
  pub rising_now : AreRisingFrom 1 hs
  rising_now = subst (AreRisingFrom 1) shown (AreRisingFrom-from 1 ps (omega arith))

  pub rising_after : (k : ℕ) (p : Option ℕ) → AreRisingFrom 1 (handles_from 1 (set ps k p))
  rising_after k p = AreRisingFrom-from 1 (set ps k p) (omega (arith, length-set ps k p))

  pub named_at : (k h : ℕ) (d read : Option ℕ) → k + 1 ≡ h → k < 64 → get_or ps k d ≡ read → handle_of hs h ≡ read
  named_at k h d read place range is =
      let within : k < length ps = omega arith in
      rw (← shown) (handle_of-from 1 k h ps (omega arith) ∙ get_or_default ps k None d within ∙ is)

  pub closed_at : (k h : ℕ) → k + 1 ≡ h → handles_from 1 (set ps k None) ≡ without_handle hs h
  closed_at k h place = rw (← shown) (without_handle-from 1 k h ps (omega arith))

  pub absent_at : (k h : ℕ) (d : Option ℕ) → k + 1 ≡ h → k < 64 → get_or ps k d ≡ None → hs ≡ without_handle hs h
  absent_at k h d place range is =
      let within : k < length ps = omega arith in
      let empty : get_or ps k None ≡ None = get_or_default ps k None d within ∙ is in
      let kept : set ps k None ≡ ps = ap (set ps k) (sym empty) ∙ set-get_or ps k None in
      sym shown ∙ ap (handles_from 1) (sym kept) ∙ closed_at k h place

  pub lowest_at : (k : ℕ) → k < length ps → get_or ps k None ≡ None → ((j : ℕ) → j < k → IsSome (get_or ps j None))
      → IsLowestFree hs (k + 1)
  lowest_at k within empty filled = record {
    from_one = omega arith;
    free = rw (← shown) (handle_of-from 1 k (k + 1) ps (omega arith) ∙ empty);
    lower =
        λ j low below. rw (← shown) (rw (handle_of-from 1 (j - 1) j ps (omega arith)) (filled (j - 1) (omega arith)));
  }

  pub opened_at : (k o : ℕ) → k < length ps → get_or ps k None ≡ None
      → handles_from 1 (set ps k (Some o)) ≡ with_handle hs (k + 1) o
  opened_at k o within empty = rw (← shown) (with_handle-from 1 k (k + 1) o ps (omega arith) within empty)

  pub not_full_at : (k : ℕ) → k < length ps → get_or ps k None ≡ None → length hs < 64
  not_full_at k within empty = rw (← shown) (omega (arith, length-from_free 1 k ps within empty))

  pub full_now : ((k : ℕ) (d : Option ℕ) → k < length ps → IsSome (get_or ps k d)) → length hs ≡ 64
  full_now all = rw (← shown) (length-from_full 1 ps all ∙ full)

-- What holds while handles are handed on: so many of the list have been looked at, each of them names something,
-- and what is kept is what has these numbers.
pub record AreKept (ps : List (Option ℕ)) (hs : List Handle) (list : List ℕ) (kept : List (Option ℕ)) (next : ℕ) :
    Type 0 where
  pub within : next ≤ length list
  pub room : length kept ≡ 64
  pub found : All (λ number. IsSome (handle_of hs number)) (take next list)
  pub same : (k : ℕ) → k < 64
      → get_or kept k None ≡ (if is_listed (take next list) (1 + k) then get_or ps k None else None)

pub AreKept-none : (ps : List (Option ℕ)) (hs : List Handle) (list : List ℕ) → AreKept ps hs list (replicate 64 None) 0
AreKept-none ps hs list = record {
  within = omega arith;
  room = length-replicate {A = Option ℕ} 64 None;
  found = λ k d l. absurd (omega arith);
  same = λ k l. get_or-replicate {A = Option ℕ} 64 k None None l;
}

-- a listed number that no handle has is not one of handles
pub not_all_found : (hs : List Handle) (list : List ℕ) (next h : ℕ) → slice_get list next ≡ Some h
    → handle_of hs h ≡ None → All (λ number. IsSome (handle_of hs number)) list → ⊥
not_all_found hs list next h at absent all =
    let found : IsSome (handle_of hs h) =
    subst (λ (n : ℕ). IsSome (handle_of hs n)) (get_or_from_slice_get list next h 0 at)
    (all next 0 (slice_get_within list next h at)) in
    true≢false (sym (subst IsSome absent found))

pub AreKept-more : (ps : List (Option ℕ)) (hs : List Handle) (list : List ℕ) (kept : List (Option ℕ))
    (next place h : ℕ) (read : Option ℕ) → AreKept ps hs list kept next → slice_get list next ≡ Some h → place + 1 ≡ h
    → place < 64 → get_or ps place None ≡ read → handle_of hs h ≡ read → IsSome read
    → AreKept ps hs list (set kept place read) (next + 1)
AreKept-more ps hs list kept next place h read so_far at is_place range is named some =
    let within : next < length list = slice_get_within list next h at in
    let here : get_or list next 0 ≡ h = get_or_from_slice_get list next h 0 at in
    let more : take (next + 1) list ≡ take next list ++ h ∷ [] = take_more list next 0 within ∙
    ap (λ n. take next list ++ n ∷ []) here in
    record {
      within = omega arith;
      room = length-set kept place read ∙ so_far.room;
      found = All-more (λ number. IsSome (handle_of hs number)) list next 0 within so_far.found (rw (here, named) some);
      same = λ k l. rw (more, is_listed-push (take next list) h (1 + k)) (by_place k l (cases_eq k place));
    }
  where
    by_place : (k : ℕ) → k < 64 → (k ≡ place) ⊎ (k ≢ place)
        → get_or (set kept place read) k None ≡
        (if (if nat_eq h (1 + k) then true else is_listed (take next list) (1 + k)) then get_or ps k None else None)
    by_place k l (inl own) =
        let test : nat_eq h (1 + k) ≡ true = same h (1 + k) (omega arith) in
        let inside : place < length kept = omega (arith, so_far.room) in
        rw (test, own) (get_or-set_same kept place read None inside ∙ sym is)
    by_place k l (inr other) =
        let test : nat_eq h (1 + k) ≡ false = differs h (1 + k) (omega arith) in
        rw test (get_or-set_other kept place k read None other ∙ so_far.same k l)

-- at the end of the list the kept ones are those that are listed
pub listed_at_end : (ps : List (Option ℕ)) (hs : List Handle) (list : List ℕ) (kept : List (Option ℕ)) (next : ℕ)
    → handles_from 1 ps ≡ hs → length ps ≡ 64 → AreKept ps hs list kept next → length list ≤ next
    → handles_from 1 kept ≡ listed_handles hs list
listed_at_end ps hs list kept next shown full so_far end =
    let whole : take next list ≡ list = take_all next list end in
    rw (← shown)
    (listed_handles-from 1 ps kept list (omega (arith, so_far.room))
    (λ k l. rw whole at (so_far.same k (omega arith))))

pub all_found_at_end : (ps : List (Option ℕ)) (hs : List Handle) (list : List ℕ) (kept : List (Option ℕ)) (next : ℕ)
    → AreKept ps hs list kept next → length list ≤ next → All (λ number. IsSome (handle_of hs number)) list
all_found_at_end ps hs list kept next so_far end = rw (take_all next list end) at so_far.found

pub past_end : (list : List ℕ) (next : ℕ) (r : Option ℕ) → r ≡ slice_get list next → ((h : ℕ) → r ≡ Some h → ⊥)
    → length list ≤ next
past_end list next r is none = by_order (cases_lt next (length list))
  where
    by_order : (next < length list) ⊎ (length list ≤ next) → length list ≤ next
    by_order (inl inside) = absurd (none (get_or list next 0) (is ∙ slice_get-get_or list next 0 inside))
    by_order (inr past) = past

pub is_none_from : (r : Option ℕ) (b : Bool) → is_some r ≡ not b → b ≡ true → r ≡ None
is_none_from None b is set = refl
is_none_from (Some x) b is set = absurd (true≢false (is ∙ ap not set))

pub is_some_from : (r : Option ℕ) (b : Bool) → is_some r ≡ not b → b ≡ false → IsSome r
is_some_from r b is unset = is ∙ ap not unset

-- the handles are the places that have something
pub length-handles_from : (n : ℕ) (ps : List (Option ℕ)) → length (handles_from n ps) ≡ count_by is_some ps
length-handles_from n [] = refl
length-handles_from n (None ∷ ps) =
    omega (arith, length-handles_from (n + 1) ps, sum_by-cons (λ (p : Option ℕ). cond (is_some p) 1 0) None ps)
length-handles_from n (Some q ∷ ps) =
    omega (arith, length-handles_from (n + 1) ps, sum_by-cons (λ (p : Option ℕ). cond (is_some p) 1 0) (Some q) ps)
