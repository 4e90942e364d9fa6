-- What is looked up among the ended processes that are kept.
use Rattle.std.proofs.Common.{◌≡◌, ◌≢◌, ℕ, zero, suc, ◌+◌, ◌<◌, ◌++◌, true, nat_eq, List, [], ◌∷◌, length, get_or, take}
use Rattle.std.proofs.Common.{drop, Some, None, refl, sym, ap, ◌∙◌, arith}
use Rattle.std.proofs.lemmas.Bool.Decides.{nat_tests}
use Rattle.std.proofs.lemmas.List.{get_or_default}
use Rattle.win32_spec.specs.LookupLaws.{same, differs}
use Rattle.w32_process.specs.declared.kept.Kept.{Kept}
use Rattle.w32_process.specs.Table.{code_of, without_kept}

is_same : (n m : ℕ) → nat_eq n m ≡ true → n ≡ m
is_same n m e = grind (arith, nat_tests)

-- an ended process for places past the last one
abbrev pub no_kept : Kept
no_kept = record { number = 0; slot = 0; program = None; code = 0 }

-- the number of the process at a place
abbrev pub number_in : List Kept → ℕ → ℕ
number_in es k = (get_or es k no_kept).number

-- none of the first so many has the number
abbrev pub IsAbsentBelow : List Kept → ℕ → ℕ → Type 0
IsAbsentBelow es w i = (k : ℕ) → k < i → number_in es k ≡ w → ⊥

pub code_of-absent : (es : List Kept) (w i : ℕ) → IsAbsentBelow es w i → length es ≡ i → code_of es w ≡ None
code_of-absent [] w i absent end = refl
code_of-absent (e ∷ es) w i absent end =
    let here : e.number ≢ w = absent 0 (omega arith) in
    let s = differs e.number w here in
    rw s (code_of-absent es w (length es) (λ k l. absent (suc k) (omega arith)) refl)

pub code_of-found : (es : List Kept) (w i : ℕ) → IsAbsentBelow es w i → i < length es → number_in es i ≡ w
    → code_of es w ≡ Some (get_or es i no_kept).code
code_of-found [] w i absent within at = absurd (omega arith)
code_of-found (e ∷ es) w zero absent within at = let s = same e.number w at in rw s
code_of-found (e ∷ es) w (suc i) absent within at =
    let here : e.number ≢ w = absent 0 (omega arith) in
    let s = differs e.number w here in
    rw s (code_of-found es w i (λ k l. absent (suc k) (omega arith)) (omega arith) at)

pub without-found : (es : List Kept) (w i : ℕ) → IsAbsentBelow es w i → i < length es → number_in es i ≡ w
    → take i es ++ drop (suc i) es ≡ without_kept es w
without-found [] w i absent within at = absurd (omega arith)
without-found (e ∷ es) w zero absent within at = let s = same e.number w at in rw s
without-found (e ∷ es) w (suc i) absent within at =
    let here : e.number ≢ w = absent 0 (omega arith) in
    let s = differs e.number w here in
    rw s (ap (λ rest. e ∷ rest) (without-found es w i (λ k l. absent (suc k) (omega arith)) (omega arith) at))

-- the program's test at a place
number_at-found : (es : List Kept) (w i : ℕ) (item : Kept) → i < length es → item ≡ get_or es i item
    → nat_eq item.number w ≡ true → number_in es i ≡ w
number_at-found es w i item within found test =
    let here : item ≡ get_or es i no_kept = found ∙ get_or_default es i item no_kept within in
    let number : item.number ≡ number_in es i = ap (λ (e : Kept). e.number) here in
    sym number ∙ is_same item.number w test

pub code_at : (es : List Kept) (w i : ℕ) (item : Kept) → IsAbsentBelow es w i → i < length es
    → item ≡ get_or es i item → nat_eq item.number w ≡ true → Some item.code ≡ code_of es w
code_at es w i item absent within found test =
    let here : item ≡ get_or es i no_kept = found ∙ get_or_default es i item no_kept within in
    ap (λ (e : Kept). Some e.code) here
    ∙ sym (code_of-found es w i absent within (number_at-found es w i item within found test))

pub without_at : (es : List Kept) (w i : ℕ) (item : Kept) → IsAbsentBelow es w i → i < length es
    → item ≡ get_or es i item → nat_eq item.number w ≡ true → take i es ++ drop (i + 1) es ≡ without_kept es w
without_at es w i item absent within found test =
    let next : i + 1 ≡ suc i = omega arith in
    rw next (without-found es w i absent within (number_at-found es w i item within found test))
