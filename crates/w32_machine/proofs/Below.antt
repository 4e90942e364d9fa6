-- The handles of a list with numbers below one, and how many of them name an object.
use Rattle.std.proofs.Common.{◌≡◌, ◌∙◌, inl, inr, ℕ, ◌+◌, ◌≤◌, ◌<◌, nat_eq, nat_lt, if◌then◌else◌, List, [], ◌∷◌}
use Rattle.std.proofs.Common.{Option, Some, None, refl, ap, arith}
use Rattle.std.proofs.lemmas.Bool.{cases_eq, cases_lt}
use Rattle.win32_spec.specs.Handles.{Handle, handle_of, holders_of, AreRisingFrom}
use Rattle.win32_spec.specs.LookupLaws.{same, differs, before, not_before}
use Rattle.win32_spec.specs.HandleLaws.{handle_of-below}

abbrev pub handles_below : ℕ → List Handle → List Handle
handles_below k [] = []
handles_below k (p ∷ ps) = if nat_lt p.number k then p ∷ handles_below k ps else handles_below k ps

-- how many handles a handle is that names this
abbrev pub count_named : Option ℕ → ℕ → ℕ
count_named None q = 0
count_named (Some names) q = if nat_eq names q then 1 else 0

pub below-next : (low : ℕ) (hs : List Handle) (k q : ℕ) → AreRisingFrom low hs
    → holders_of (handles_below (k + 1) hs) q ≡ holders_of (handles_below k hs) q + count_named (handle_of hs k) q
below-next low [] k q r = refl
below-next low (p ∷ ps) k q r =
    let rest = below-next (p.number + 1) ps k q r.2 in
    elim (cases_lt p.number k) [
      | inl l ↦
          let a = before p.number k l in
          let b = before p.number (k + 1) (omega arith) in
          let d = differs p.number k (λ e. omega arith) in
          rw (a, b, d) (omega (arith, rest))
      | inr l ↦ elim (cases_eq p.number k) [
        | inl e ↦
            let a = not_before p.number k l in
            let b = before p.number (k + 1) (omega arith) in
            let s = same p.number k e in
            let none : handle_of ps k ≡ None = handle_of-below (p.number + 1) ps k r.2 (omega arith) in
            let more : holders_of (handles_below (k + 1) ps) q ≡ holders_of (handles_below k ps) q + 0 =
            rest ∙ ap (λ o. holders_of (handles_below k ps) q + count_named o q) none in
            rw (a, b, s) (omega (arith, more))
        | inr d ↦
            let a = not_before p.number k l in
            let b = not_before p.number (k + 1) (omega arith) in
            let s = differs p.number k d in
            rw (a, b, s) rest
      ]
    ]

pub below-first : (low k : ℕ) (hs : List Handle) → AreRisingFrom low hs → k ≤ low → handles_below k hs ≡ []
below-first low k [] r l = refl
below-first low k (p ∷ ps) r l =
    let a = not_before p.number k (omega (arith, r.0)) in
    rw a (below-first (p.number + 1) k ps r.2 (omega (arith, r.0)))

pub below-all : (low k : ℕ) (hs : List Handle) → AreRisingFrom low hs → 64 < k → handles_below k hs ≡ hs
below-all low k [] r l = refl
below-all low k (p ∷ ps) r l =
    let a = before p.number k (omega (arith, r.1)) in
    rw a (ap (λ rest. p ∷ rest) (below-all (p.number + 1) k ps r.2 l))

-- no more of them than all
pub below-le : (k : ℕ) (hs : List Handle) (q : ℕ) → holders_of (handles_below k hs) q ≤ holders_of hs q
below-le k [] q = omega arith
below-le k (p ∷ ps) q =
    let rest = below-le k ps q in
    elim (cases_lt p.number k) [
      | inl l ↦ let a = before p.number k l in rw a (omega (arith, rest))
      | inr l ↦ let a = not_before p.number k l in rw a (omega (arith, rest))
    ]
