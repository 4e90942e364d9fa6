-- The test of each byte lets through exactly the bytes that keep a cygheap's layout, and finds the place at which all
-- others break it.
use Rattle.std.specs.Prelude.{◌≡◌, ◌↔◌, ℕ, suc, ◌+◌, ◌-◌, ◌≤◌, ◌<◌, Bool, true, false, if◌then◌else◌, List, [], ◌∷◌}
use Rattle.std.specs.Prelude.{length, take, Option, Some, None}
use Rattle.std.proofs.Common.{inl, inr, refl, sym, ◌∙◌, ap, subst, arith, get_or}
use Rattle.std.proofs.lemmas.Bool.{cases_eq, cases_order, true≢false, eq-eqb, ne_eqb}
use Rattle.std.proofs.lemmas.List.{length-take-le, get_or-take}
use Rattle.layer_spec.specs.Heap.{heap_bytes, IsHeapBytes}
use Rattle.layer_spec.specs.HeapReads.{byte_at}
use Rattle.layer_spec.specs.HeapLaws.{length-heap_bytes}
use Rattle.layer_spec.specs.HeapBreaks.{BeginsHeap, BreaksAt, WrongLength, LeastPlace, fits_at, first_misfit}
use Rattle.layer_spec.specs.HeapBreaks.{first_break}
use Rattle.layer_spec.specs.BreakParts.{fits_alike}
use Rattle.layer_spec.specs.BreakFits.{FitBelow, complete}
use Rattle.layer_spec.specs.BreakChildren.{heap_fits}
use Rattle.layer_spec.specs.BreakAll.{fit_is_heap}

-- bytes that are the same below a place fit alike there
pub fit_alike : (a b : List ℕ) (n : ℕ) → ((j : ℕ) → j < n → byte_at a j ≡ byte_at b j) → FitBelow a n → FitBelow b n
fit_alike a b n same below k h =
    sym (fits_alike a b k (byte_at b k) (λ j l. same j (omega arith))) ∙ ap (fits_at a k) (sym (same k h)) ∙ below k h

-- a place from i on, among n, whose byte is the first that doesn't fit
pub record Misfit (bytes : List ℕ) (i n place : ℕ) : Type 0 where
  pub from : i ≤ place
  pub to : place < i + n
  pub before : (k : ℕ) → i ≤ k → k < place → fits_at bytes k (byte_at bytes k) ≡ true
  pub there : fits_at bytes place (byte_at bytes place) ≡ false

-- what is found among n bytes from i on: none, where all fit, or the first that doesn't
pub Found : List ℕ → ℕ → ℕ → Option ℕ → Type 0
Found bytes i n None = (k : ℕ) → i ≤ k → k < i + n → fits_at bytes k (byte_at bytes k) ≡ true
Found bytes i n (Some place) = Misfit bytes i n place

one_more : (bytes : List ℕ) (i n : ℕ) (o : Option ℕ) → fits_at bytes i (byte_at bytes i) ≡ true
    → Found bytes (i + 1) n o → Found bytes i (suc n) o
unfolding Found
one_more bytes i n None here found = λ k l h. elim (cases_eq i k) [
  | inl e ↦ subst (λ (x : ℕ). fits_at bytes x (byte_at bytes x) ≡ true) e here
  | inr other ↦ found k (omega arith) (omega arith)
]
one_more bytes i n (Some place) here found = record {
  from = omega (arith, found.from);
  to = omega (arith, found.to);
  before = λ k l h. elim (cases_eq i k) [
    | inl e ↦ subst (λ (x : ℕ). fits_at bytes x (byte_at bytes x) ≡ true) e here
    | inr other ↦ found.before k (omega arith) h
  ];
  there = found.there;
}

by_test : (bytes : List ℕ) (i n : ℕ) (c : Bool) (o : Option ℕ) → fits_at bytes i (byte_at bytes i) ≡ c
    → Found bytes (i + 1) n o → Found bytes i (suc n) (if c then o else Some i)
unfolding Found
by_test bytes i n true o here found = one_more bytes i n o here found
by_test bytes i n false o here found =
    record { from = omega arith; to = omega arith; before = λ k l h. absurd (omega arith); there = here }

pub misfit_found : (bytes : List ℕ) (i : ℕ) (rest : List ℕ)
    → ((k : ℕ) → k < length rest → byte_at bytes (i + k) ≡ get_or rest k 0)
    → Found bytes i (length rest) (first_misfit bytes i rest)
unfolding Found first_misfit
misfit_found bytes i [] at = λ k l h. absurd (omega arith)
misfit_found bytes i (b ∷ rest) at =
    let place : i + 0 ≡ i = omega arith in
    let same : byte_at bytes i ≡ b = subst (λ (x : ℕ). byte_at bytes x ≡ b) place (at 0 (omega arith)) in
    by_test bytes i (length rest) (fits_at bytes i b) (first_misfit bytes (i + 1) rest) (ap (fits_at bytes i) same)
    (misfit_found bytes (i + 1) rest (λ k h.
    let next : i + suc k ≡ i + 1 + k = omega arith in
    subst (λ (x : ℕ). byte_at bytes x ≡ get_or rest k 0) next (at (suc k) (omega arith))))

pub break_found : (bytes : List ℕ) → length bytes ≡ 288 → Found bytes 0 288 (first_misfit bytes 0 bytes)
break_found bytes size = subst (λ (n : ℕ). Found bytes 0 n (first_misfit bytes 0 bytes)) size
    (misfit_found bytes 0 bytes (λ k h. let place : 0 + k ≡ k = omega arith in ap (byte_at bytes) place))

-- Some bytes of the layout begin with the first n of 288 bytes exactly where these fit.
pub fit_where_begun : (bytes : List ℕ) (n : ℕ) → length bytes ≡ 288 → n ≤ 288
    → BeginsHeap (take n bytes) → FitBelow bytes n
fit_where_begun bytes n size within begun =
    let count : length (take n bytes) ≡ n = length-take-le n bytes (omega arith) in
    let front : take n (heap_bytes begun.fields) ≡ take n bytes
    = subst (λ (m : ℕ). take m (heap_bytes begun.fields) ≡ take n bytes) count begun.begins in
    fit_alike (heap_bytes begun.fields) bytes n
    (λ j l. sym (get_or-take n (heap_bytes begun.fields) j 0 l)
    ∙ ap (λ (xs : List ℕ). get_or xs j 0) front ∙ get_or-take n bytes j 0 l)
    (λ k l. heap_fits begun.fields begun.legal k (omega arith))

pub begun_where_fit : (bytes : List ℕ) (n : ℕ) → length bytes ≡ 288 → n ≤ 288
    → FitBelow bytes n → BeginsHeap (take n bytes)
begun_where_fit bytes n size within fit =
    let count : length (take n bytes) ≡ n = length-take-le n bytes (omega arith) in
    let there : FitBelow (take n bytes) n = fit_alike bytes (take n bytes) n
    (λ j l. sym (get_or-take n bytes j 0 l)) fit in
    let done = complete (288 - n) (take n bytes) (omega arith) (subst (FitBelow (take n bytes)) (sym count) there) in
    let kept = fit_is_heap done.whole done.size done.fits in
    record {
      fields = kept.fields;
      legal = kept.legal;
      begins = subst (λ (w : List ℕ). take (length (take n bytes)) w ≡ take n bytes) kept.layout done.begins;
    }

-- So the test lets through exactly the bytes that keep the layout,
none_found : (bytes : List ℕ) → length bytes ≡ 288 → (o : Option ℕ) → Found bytes 0 288 o
    → (o ≡ None → IsHeapBytes bytes) × (IsHeapBytes bytes → o ≡ None)
unfolding Found
none_found bytes size None found =
    (λ _. fit_is_heap bytes size (λ k h. found k (omega arith) (omega arith)), λ _. refl)
none_found bytes size (Some place) found = (
  λ e. cc,
  λ kept. absurd (true≢false (sym (subst (λ (xs : List ℕ). fits_at xs place (byte_at xs place) ≡ true)
      (sym kept.layout) (heap_fits kept.fields kept.legal place (omega (arith, found.to)))) ∙ found.there)),
)

pub kept_where_none : (bytes : List ℕ) → length bytes ≡ 288
    → (first_misfit bytes 0 bytes ≡ None → IsHeapBytes bytes) × (IsHeapBytes bytes → first_misfit bytes 0 bytes ≡ None)
kept_where_none bytes size = none_found bytes size (first_misfit bytes 0 bytes) (break_found bytes size)

-- and finds the place at which others break it.
place_found : (bytes : List ℕ) → length bytes ≡ 288 → (place : ℕ) (o : Option ℕ) → Found bytes 0 288 o
    → o ≡ Some place → BreaksAt bytes place
unfolding Found
place_found bytes size place None found e = cc
place_found bytes size place (Some p) found e =
    let same : p ≡ place = cc in
    let within : p < 288 = omega (arith, found.to) in
    subst (BreaksAt bytes) same (LeastPlace p size within
    (begun_where_fit bytes p size (omega arith) (λ k h. found.before k (omega arith) h))
    (λ begun. true≢false
    (sym (fit_where_begun bytes (p + 1) size (omega arith) begun p (omega arith)) ∙ found.there)))

pub breaks_where_found : (bytes : List ℕ) (place : ℕ) → length bytes ≡ 288
    → first_misfit bytes 0 bytes ≡ Some place → BreaksAt bytes place
breaks_where_found bytes place size e =
    place_found bytes size place (first_misfit bytes 0 bytes) (break_found bytes size) e

-- where they break it, the test finds that place
least_found : (bytes : List ℕ) → length bytes ≡ 288 → (place : ℕ) → place < 288 → FitBelow bytes place
    → (FitBelow bytes (place + 1) → ⊥) → (o : Option ℕ) → Found bytes 0 288 o → o ≡ Some place
unfolding Found
least_found bytes size place within below no_more None found =
    absurd (no_more (λ k h. found k (omega arith) (omega arith)))
least_found bytes size place within below no_more (Some p) found = elim (cases_order p place) [
  | inl e ↦ ap Some e
  | inr other ↦ elim other [
    | inl less ↦ absurd (true≢false (sym (below p less) ∙ found.there))
    | inr more ↦ absurd (no_more (λ k h. found.before k (omega arith) (omega arith)))
  ]
]

-- Exactly the bytes that keep the layout have no break,
pub break_none : (bytes : List ℕ) → (first_break bytes ≡ None) ↔ IsHeapBytes bytes
break_none bytes = elim (cases_eq (length bytes) 288) [
  | inl size ↦ let test = eq-eqb (length bytes) 288 size in (
    (λ e. (kept_where_none bytes size).0 (sym (ap (λ t. (if t then first_misfit bytes 0 bytes else Some 288)) test)
        ∙ e)),
    (λ kept. ap (λ t. (if t then first_misfit bytes 0 bytes else Some 288)) test ∙ (kept_where_none bytes size).1 kept),
  )
  | inr other ↦ let test = ne_eqb (length bytes) 288 other in (
    (λ e. let some = sym (ap (λ t. (if t then first_misfit bytes 0 bytes else Some 288)) test) ∙ e in cc),
    (λ kept. absurd (other (ap length kept.layout ∙ length-heap_bytes kept.fields kept.legal))),
  )
]

-- and of all others the break is the place at which they break it.
break_of : (bytes : List ℕ) (place : ℕ) → BreaksAt bytes place → first_break bytes ≡ Some place
break_of bytes place (WrongLength other) =
    ap (λ t. (if t then first_misfit bytes 0 bytes else Some 288)) (ne_eqb (length bytes) 288 other)
break_of bytes place (LeastPlace p size within begins breaks) =
    ap (λ t. (if t then first_misfit bytes 0 bytes else Some 288)) (eq-eqb (length bytes) 288 size)
    ∙ least_found bytes size p within (fit_where_begun bytes p size (omega arith) begins)
    (λ fit. breaks (begun_where_fit bytes (p + 1) size (omega arith) fit))
    (first_misfit bytes 0 bytes) (break_found bytes size)

of_break : (bytes : List ℕ) (place : ℕ) → first_break bytes ≡ Some place → BreaksAt bytes place
of_break bytes place e = elim (cases_eq (length bytes) 288) [
  | inl size ↦ breaks_where_found bytes place size
      (sym (ap (λ t. (if t then first_misfit bytes 0 bytes else Some 288)) (eq-eqb (length bytes) 288 size)) ∙ e)
  | inr other ↦
      let some = sym (ap (λ t. (if t then first_misfit bytes 0 bytes else Some 288))
      (ne_eqb (length bytes) 288 other)) ∙ e in
      let same : 288 ≡ place = cc in
      subst (BreaksAt bytes) same (WrongLength other)
]

pub break_some : (bytes : List ℕ) (place : ℕ) → (first_break bytes ≡ Some place) ↔ BreaksAt bytes place
break_some bytes place = (of_break bytes place, break_of bytes place)
