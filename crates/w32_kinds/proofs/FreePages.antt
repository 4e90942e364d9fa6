-- There is always room for a module: few of the 128 blocks of 8 pages have a taken page.
use Rattle.std.proofs.Common.{◌≡◌, ◌≢◌, inl, inr, ℕ, zero, suc, ◌+◌, ◌*◌, ◌/◌, ◌≤◌, ◌<◌, Bool, true, false, ◌&&◌}
use Rattle.std.proofs.Common.{◌||◌, nat_eq, nat_le, nat_lt, if◌then◌else◌, List, [], ◌∷◌, length, Option, Some, None}
use Rattle.std.proofs.Common.{slice_get, refl, sym, ap, ◌∙◌, arith}
use Rattle.std.proofs.lemmas.Bool.{cases_eq}
use Rattle.std.proofs.lemmas.Bool.Decides.{nat_tests}
use Rattle.w32_base.specs.declared.setup.Module.{Module}
use Rattle.script_spec.specs.declared.script.OccupiedPage.{OccupiedPage}
use Rattle.script_spec.specs.declared.script.Script.{Script}
use Rattle.win32_spec.specs.LookupLaws.{same, differs}
use Rattle.win32_spec.specs.Placing.{is_occupied, pages_of, is_in_module, taken_pages}
use Rattle.win32_spec.specs.PlacingLaws.{taken_pages-at}
use Rattle.win32_spec.specs.Regions.{IsFreeRange}
use Rattle.win32_spec.specs.State.{PlacedModule}

-- a number is in a list
abbrev is_in : List ℕ → ℕ → Bool
is_in [] k = false
is_in (x ∷ xs) k = nat_eq x k || is_in xs k

-- a list without a number
abbrev without : List ℕ → ℕ → List ℕ
without [] k = []
without (x ∷ xs) k = if nat_eq x k then without xs k else x ∷ without xs k

length-without : (xs : List ℕ) (k : ℕ) → length (without xs k) ≤ length xs
length-without [] k = omega arith
length-without (x ∷ xs) k = by_test (nat_eq x k) (length-without xs k)
  where
    by_test : (b : Bool) → length (without xs k) ≤ length xs
        → length (if b then without xs k else x ∷ without xs k) ≤ length (x ∷ xs)
    by_test true l = omega arith
    by_test false l = omega arith

shorter-without : (xs : List ℕ) (k : ℕ) → is_in xs k ≡ true → length (without xs k) < length xs
shorter-without [] k e = absurd (cc)
shorter-without (x ∷ xs) k e = by_test (nat_eq x k) e (length-without xs k) (shorter-without xs k)
  where
    by_test : (b : Bool) → (b || is_in xs k) ≡ true → length (without xs k) ≤ length xs
        → (is_in xs k ≡ true → length (without xs k) < length xs)
        → length (if b then without xs k else x ∷ without xs k) < length (x ∷ xs)
    by_test true f l rest = omega arith
    by_test false f l rest = omega (arith, rest f)

in-without : (xs : List ℕ) (k j : ℕ) → j ≢ k → is_in (without xs k) j ≡ is_in xs j
in-without [] k j d = refl
in-without (x ∷ xs) k j d =
    elim (cases_eq x k) [
      | inl e ↦
          let a = same x k e in
          let b = differs x j (λ f. d (omega arith)) in
          rw (a, b) (in-without xs k j d)
      | inr n ↦ let a = differs x k n in rw a (ap (λ b. nat_eq x j || b) (in-without xs k j d))
    ]

-- of n numbers one isn't in a list that is shorter
not-in : (n : ℕ) (xs : List ℕ) → length xs < n → (k : ℕ) × (k < n) × (is_in xs k ≡ false)
not-in zero xs l = absurd (omega arith)
not-in (suc n) xs l = by_test (is_in xs n) refl (not-in n (without xs n))
  where
    by_test : (b : Bool) → is_in xs n ≡ b
        → (length (without xs n) < n → (k : ℕ) × (k < n) × (is_in (without xs n) k ≡ false))
        → (k : ℕ) × (k < suc n) × (is_in xs k ≡ false)
    by_test false e less = (n, omega arith, e)
    by_test true e less =
        let rest = less (omega (arith, shorter-without xs n e)) in
        (rest.0, omega (arith, rest.1), sym (in-without xs n rest.0 (λ f. omega (arith, f, rest.1))) ∙ rest.2)

-- the blocks of the occupied pages, and of the placed modules, each of which lies in two blocks at most
abbrev occupied_blocks : List OccupiedPage → List ℕ
occupied_blocks [] = []
occupied_blocks (o ∷ os) = o.page / 8 ∷ occupied_blocks os

abbrev blocks : List OccupiedPage → List PlacedModule → List ℕ
blocks os [] = occupied_blocks os
blocks os (m ∷ ms) = m.base / 8 ∷ (m.base / 8 + 1) ∷ blocks os ms

length-occupied : (os : List OccupiedPage) → length (occupied_blocks os) ≡ length os
length-occupied [] = refl
length-occupied (o ∷ os) = omega (arith, length-occupied os)

length-blocks : (os : List OccupiedPage) (ms : List PlacedModule)
    → length (blocks os ms) ≡ length os + 2 * length ms
length-blocks os [] = omega (arith, length-occupied os)
length-blocks os (m ∷ ms) = omega (arith, length-blocks os ms)

not-occupied : (os : List OccupiedPage) (creation page : ℕ) → is_in (occupied_blocks os) (page / 8) ≡ false
    → is_occupied os creation page ≡ false
not-occupied [] creation page e = refl
not-occupied (o ∷ os) creation page e =
    by_tests (nat_eq (o.page / 8) (page / 8)) refl e (not-occupied os creation page)
  where
    by_tests : (b : Bool) → nat_eq (o.page / 8) (page / 8) ≡ b → (b || is_in (occupied_blocks os) (page / 8)) ≡ false
        → (is_in (occupied_blocks os) (page / 8) ≡ false → is_occupied os creation page ≡ false)
        → ((nat_eq o.creation creation && nat_eq o.page page) || is_occupied os creation page) ≡ false
    by_tests true t f rest = absurd (cc)
    by_tests false t f rest =
        let d = differs o.page page (λ g. absurd (let h = same (o.page / 8) (page / 8) (ap (λ i. i / 8) g) in
        let j : true ≡ false = sym h ∙ t in cc)) in
        rw (d, rest f) (off (nat_eq o.creation creation))
      where
        off : (b : Bool) → ((b && false) || false) ≡ false
        off true = refl
        off false = refl

-- no module of the script has more than 8 pages
abbrev pub AreSmall : List Module → Type 0
AreSmall modules = (k : ℕ) → pages_of (slice_get modules k) ≤ 8

pub are_small : (modules : List Module) → AreSmall modules
are_small modules k = by_module (slice_get modules k)
  where
    by_module : (o : Option Module) → pages_of o ≤ 8
    by_module None = omega arith
    by_module (Some wanted) = omega (arith, wanted.size_in_range)

not-in-module : (modules : List Module) (os : List OccupiedPage) (ms : List PlacedModule) (page : ℕ)
    → is_in (blocks os ms) (page / 8) ≡ false
    → (is_in_module modules ms page ≡ false) × (is_in (occupied_blocks os) (page / 8) ≡ false)
not-in-module modules os [] page e = (refl, e)
not-in-module modules os (m ∷ ms) page e =
    by_tests (nat_eq (m.base / 8) (page / 8)) refl (nat_eq (m.base / 8 + 1) (page / 8)) refl e
    (not-in-module modules os ms page)
  where
    by_tests : (b : Bool) → nat_eq (m.base / 8) (page / 8) ≡ b → (c : Bool)
        → nat_eq (m.base / 8 + 1) (page / 8) ≡ c
        → (b || (c || is_in (blocks os ms) (page / 8))) ≡ false
        → (is_in (blocks os ms) (page / 8) ≡ false
        → (is_in_module modules ms page ≡ false) × (is_in (occupied_blocks os) (page / 8) ≡ false))
        → (is_in_module modules (m ∷ ms) page ≡ false) × (is_in (occupied_blocks os) (page / 8) ≡ false)
    by_tests true t c u f less = absurd (cc)
    by_tests false t true u f less = absurd (cc)
    by_tests false t false u f less =
        let rest = less f in
        let small = are_small modules m.module_no in
        (rw rest.0 (outside small), rest.1)
      where
        apart : (a k : ℕ) → nat_eq a k ≡ false → a ≢ k
        apart a k e f = absurd (let s = same a k f in let g : true ≡ false = sym s ∙ e in cc)

        outside : pages_of (slice_get modules m.module_no) ≤ 8
            → ((nat_le m.base page && nat_lt page (m.base + pages_of (slice_get modules m.module_no))) || false) ≡ false
        outside small =
            let p = apart (m.base / 8) (page / 8) t in
            let q = apart (m.base / 8 + 1) (page / 8) u in
            grind (arith, nat_tests, small, p, q)

-- a range of 8 pages is free
pub free-range : (script : Script) (creation : ℕ) (placed : List PlacedModule) (size : ℕ) → size ≤ 8
    → length script.occupied ≤ 64 → length placed ≤ 8
    → (base : ℕ) × IsFreeRange (taken_pages script creation placed) base size
free-range script creation placed size small few most =
    let at = not-in 128 (blocks script.occupied placed)
    (omega (arith, length-blocks script.occupied placed)) in (
      8 * at.0,
      record {
        within = omega (arith, at.1);
        free = λ page low high.
            let block : page / 8 ≡ at.0 = omega arith in
            let out : is_in (blocks script.occupied placed) (page / 8) ≡ false = rw block at.2 in
            let both = not-in-module script.setup.modules script.occupied placed page out in
            let occupied = not-occupied script.occupied creation page both.1 in
            taken_pages-at script creation placed page (omega (arith, at.1))
            ∙ rw (occupied, both.0) refl;
      },
    )
