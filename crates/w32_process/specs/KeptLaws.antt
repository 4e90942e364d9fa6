-- Laws of looking for an ended process by its number.
use Rattle.std.proofs.Common.{◌≡◌, ◌≢◌, ◌⊎◌, inl, inr, ℕ, ◌++◌, List, [], ◌∷◌, Some, None, IsSome, refl, sym}
use Rattle.std.proofs.Common.{true≢false}
use Rattle.std.proofs.lemmas.Bool.{cases_eq}
use Rattle.win32_spec.specs.LookupLaws.{same, differs}
use Rattle.w32_process.specs.declared.kept.Kept.{Kept}
use Rattle.w32_process.specs.Table.{code_of, without_kept}
use Rattle.w32_process.specs.Sound.{AreDistinct}

-- one process more at the end
pub code_of-push_other : (es : List Kept) (e : Kept) (n : ℕ) → code_of es n ≡ None → n ≢ e.number
    → code_of (es ++ e ∷ []) n ≡ None
code_of-push_other [] e n none other = let s = differs e.number n (λ q. other (sym q)) in rw s
code_of-push_other (x ∷ es) e n none other =
    elim (cases_eq x.number n) [
      | inl q ↦ let s = same x.number n q in absurd (let found : Some x.code ≡ None = rw s at none in cc)
      | inr d ↦ let s = differs x.number n d in rw s (code_of-push_other es e n (rw s at none) other)
    ]

pub code_of-push_cases : (es : List Kept) (e : Kept) (n : ℕ) → IsSome (code_of (es ++ e ∷ []) n)
    → IsSome (code_of es n) ⊎ (n ≡ e.number)
code_of-push_cases [] e n some =
    elim (cases_eq e.number n) [
      | inl q ↦ inr (sym q)
      | inr d ↦ let s = differs e.number n d in absurd (true≢false (sym (rw s at some)))
    ]
code_of-push_cases (x ∷ es) e n some =
    elim (cases_eq x.number n) [
      | inl q ↦ let s = same x.number n q in inl (rw s refl)
      | inr d ↦ let s = differs x.number n d in rw s (code_of-push_cases es e n (rw s at some))
    ]

pub AreDistinct-push : (es : List Kept) (e : Kept) → AreDistinct es → code_of es e.number ≡ None
    → AreDistinct (es ++ e ∷ [])
AreDistinct-push [] e distinct none = (refl, tt)
AreDistinct-push (x ∷ es) e distinct none =
    elim (cases_eq x.number e.number) [
      | inl q ↦ let s = same x.number e.number q in absurd (let found : Some x.code ≡ None = rw s at none in cc)
      | inr d ↦
          let s = differs x.number e.number d in
          (code_of-push_other es e x.number distinct.0 d, AreDistinct-push es e distinct.1 (rw s at none))
    ]

-- one process less
pub code_of-without_none : (es : List Kept) (w n : ℕ) → code_of es n ≡ None → code_of (without_kept es w) n ≡ None
code_of-without_none [] w n none = refl
code_of-without_none (x ∷ es) w n none =
    elim (cases_eq x.number n) [
      | inl q ↦ let s = same x.number n q in absurd (let found : Some x.code ≡ None = rw s at none in cc)
      | inr d ↦
          let s = differs x.number n d in
          let rest : code_of es n ≡ None = rw s at none in
          elim (cases_eq x.number w) [
            | inl o ↦ let t = same x.number w o in rw t rest
            | inr o ↦ let t = differs x.number w o in rw (t, s) (code_of-without_none es w n rest)
          ]
    ]

pub AreDistinct-without : (es : List Kept) (w : ℕ) → AreDistinct es → AreDistinct (without_kept es w)
AreDistinct-without [] w distinct = tt
AreDistinct-without (x ∷ es) w distinct =
    elim (cases_eq x.number w) [
      | inl o ↦ let t = same x.number w o in rw t distinct.1
      | inr o ↦
          let t = differs x.number w o in
          rw t (code_of-without_none es w x.number distinct.0, AreDistinct-without es w distinct.1)
    ]

pub code_of-without_same : (es : List Kept) (w : ℕ) → AreDistinct es → code_of (without_kept es w) w ≡ None
code_of-without_same [] w distinct = refl
code_of-without_same (x ∷ es) w distinct =
    elim (cases_eq x.number w) [
      | inl o ↦ let t = same x.number w o in rw t (rw o at distinct.0)
      | inr o ↦ let t = differs x.number w o in rw (t, t) (code_of-without_same es w distinct.1)
    ]
