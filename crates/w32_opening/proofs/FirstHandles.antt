-- The handles of a process that have the numbers from 1 on, one after another.
use Rattle.std.proofs.Common.{◌≡◌, ◌∙◌, inl, inr, ℕ, ◌+◌, ◌≤◌, ◌<◌, List, [], ◌∷◌, ◌++◌, length, None}
use Rattle.std.proofs.Common.{true, false, IsSome, refl, sym, ap, subst, arith}
use Rattle.std.proofs.lemmas.Bool.{cases_eq, cases_lt}
use Rattle.win32_spec.specs.Handles.{Handle, handle_of, with_handle, IsLowestFree}
use Rattle.win32_spec.specs.LookupLaws.{same, differs, not_before}
use Rattle.w32_opening.specs.Rows.{IsRow}

has : (k : ℕ) (hs : List Handle) (n : ℕ) → IsRow k hs → k ≤ n → n < k + length hs → IsSome (handle_of hs n)
has k [] n row l m = absurd (omega (arith, l, m))
has k (h ∷ hs) n row l m = elim (cases_eq h.number n) [
  | inl e ↦ let s = same h.number n e in rw s refl
  | inr d ↦ let s = differs h.number n d in
      rw s (has (k + 1) hs n row.1 (omega (arith, l, d, row.0)) (omega (arith, m)))
]

lacks : (k : ℕ) (hs : List Handle) (n : ℕ) → IsRow k hs → k + length hs ≤ n → handle_of hs n ≡ None
lacks k [] n row l = refl
lacks k (h ∷ hs) n row l =
    let s = differs h.number n (λ e. omega (arith, e, row.0, l)) in rw s (lacks (k + 1) hs n row.1 (omega (arith, l)))

-- the lowest free number is the one behind them
pub free-number : (hs : List Handle) (n : ℕ) → IsRow 1 hs → IsLowestFree hs n → n ≡ length hs + 1
free-number hs n row free = elim (cases_lt n (1 + length hs)) [
  | inl l ↦ absurd (let f : false ≡ true = rw free.free at (has 1 hs n row free.from_one l) in cc)
  | inr l ↦ elim (cases_eq n (length hs + 1)) [
    | inl e ↦ e
    | inr d ↦ absurd (let none = lacks 1 hs (1 + length hs) row (omega arith) in
        let f : false ≡ true = rw none at (free.lower (1 + length hs) (omega arith) (omega (arith, l, d))) in cc)
  ]
]

behind : (k : ℕ) (hs : List Handle) (n o : ℕ) → IsRow k hs → n ≡ k + length hs
    → with_handle hs n o ≡ hs ++ record { number = n; names = o } ∷ []
behind k [] n o row e = refl
behind k (h ∷ hs) n o row e =
    let b = not_before n h.number (omega (arith, row.0, e)) in
    rw b (ap (λ (xs : List Handle). h ∷ xs) (behind (k + 1) hs n o row.1 (omega (arith, e))))

row-behind : (k : ℕ) (hs : List Handle) (n o : ℕ) → IsRow k hs → n ≡ k + length hs
    → IsRow k (hs ++ record { number = n; names = o } ∷ [])
row-behind k [] n o row e = (omega (arith, e), tt)
row-behind k (h ∷ hs) n o row e = (row.0, row-behind (k + 1) hs n o row.1 (omega (arith, e)))

module _ (hs new : List Handle) (n o : ℕ) (row : IsRow 1 hs) (free : IsLowestFree hs n)
    (opened : new ≡ with_handle hs n o) where
  number : n ≡ 1 + length hs
  number = omega (arith, free-number hs n row free)

  pub next-opened : new ≡ hs ++ record { number = length hs + 1; names = o } ∷ []
  next-opened =
      opened ∙ behind 1 hs n o row number
      ∙ ap (λ k. hs ++ record { number = k; names = o } ∷ []) (free-number hs n row free)

  pub next-row : IsRow 1 new
  next-row = subst (IsRow 1) (sym (opened ∙ behind 1 hs n o row number)) (row-behind 1 hs n o row number)
