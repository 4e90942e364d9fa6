-- Free ranges of pages.
use Rattle.std.proofs.Common.{◌≡◌, ℕ, ◌+◌, ◌-◌, ◌<◌, ◌≤◌, List, Bool, true, false, length, get_or, take, drop, All}
use Rattle.std.proofs.Common.{IsTrue, ◌↔◌, subst, ap, sym, ◌∙◌, inl, inr, arith, length-drop, length-take-le}
use Rattle.std.proofs.Common.{get_or-drop, get_or-take}
use Rattle.std.proofs.lemmas.Bool.{cases_lt}
use Rattle.std.proofs.lemmas.List.{get_or_default}
use Rattle.win32_spec.specs.Regions.{IsFreeRange}

-- the pages of a range, taken out of the list of all pages
length-pages : (taken : List Bool) (base size : ℕ) → length taken ≡ 1024 → base + size ≤ 1024
    → length (take size (drop base taken)) ≡ size
length-pages taken base size room within = length-take-le size (drop base taken) (omega (arith, length-drop base taken))

get_or-pages : (taken : List Bool) (base size k : ℕ) (d : Bool) → k < size
    → get_or (take size (drop base taken)) k d ≡ get_or taken (base + k) d
get_or-pages taken base size k d below = get_or-take size (drop base taken) k d below ∙ get_or-drop base taken k d

pub free_from_all : (taken : List Bool) (base size : ℕ) → length taken ≡ 1024 → base + size ≤ 1024 →
    All (λ page. page ≡ false) (take size (drop base taken)) → IsFreeRange taken base size
free_from_all taken base size room within all = record {
  within = within;
  free = λ page low high.
      let below : page - base < size = omega arith in
      let there : base + (page - base) ≡ page = omega arith in
      let inside : page - base < length (take size (drop base taken)) =
      omega (arith, length-pages taken base size room within) in
      ap (λ i. get_or taken i true) (sym there) ∙ sym (get_or-pages taken base size (page - base) true below) ∙
      all (page - base) true inside;
}

pub all_from_free : (taken : List Bool) (base size : ℕ) → length taken ≡ 1024 → IsFreeRange taken base size →
    All (λ page. page ≡ false) (take size (drop base taken))
all_from_free taken base size room free = λ k d inside.
    let below : k < size = omega (arith, length-pages taken base size room free.within) in
    let there : base + k < length taken = omega (arith, free.within) in
    get_or-pages taken base size k d below
    ∙ get_or_default taken (base + k) d true there
    ∙ free.free (base + k) (omega arith) (omega arith)

-- where each free range begins at a page or past it, and none at that page, each begins at the next one or past it
pub begins_later : (taken : List Bool) (base size : ℕ) → ((lower : ℕ) → IsFreeRange taken lower size → base ≤ lower) →
    (IsFreeRange taken base size → ⊥) → (lower : ℕ) → IsFreeRange taken lower size → base + 1 ≤ lower
begins_later taken base size at_or_past none_here lower free = elim (cases_lt base lower) [
  | inl past ↦ omega arith
  | inr not_past ↦
      let IsFree : ℕ → Type 0 = λ page. IsFreeRange taken page size in
      let here : lower ≡ base = omega (arith, at_or_past lower free) in
      absurd (none_here (subst IsFree here free))
]

-- a test of the pages between two places tells whether the range that they make is free
pub range_test : (taken : List Bool) (base size low high : ℕ) (answer : Bool) → length taken ≡ 1024 → low ≡ base
    → high ≡ base + size → high ≤ 1024 →
    (IsTrue answer ↔ All (λ page. page ≡ false) (take (high - low) (drop low taken))) →
    IsTrue answer ↔ IsFreeRange taken base size
range_test taken base size low high answer room low_is high_is within tested =
    let count : high - low ≡ size = omega arith in
    let pages : take (high - low) (drop low taken) ≡ take size (drop base taken) =
    ap (λ n. take n (drop low taken)) count ∙ ap (λ n. take size (drop n taken)) low_is in
    let AreFree : List Bool → Type 0 = λ ps. All (λ page. page ≡ false) ps in (
      λ t. free_from_all taken base size room (omega arith) (subst AreFree pages (tested.0 t)),
      λ f. tested.1 (subst AreFree (sym pages) (all_from_free taken base size room f)),
    )
