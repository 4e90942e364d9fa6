-- The cygheap of the first layer process.
use Rattle.std.proofs.Common.{◌≡◌, ◌∙◌, ℕ, zero, suc, ◌+◌, ◌-◌, ◌≤◌, List, ◌∷◌, ◌++◌, length, take}
use Rattle.std.proofs.Common.{drop, replicate, slice_set, refl, ap, arith}
use Rattle.win32_spec.specs.Opening.{base_bytes, opening_cygheap}
use Rattle.win32_spec.specs.State.{PlacedModule}

pub zeros-behind : (n m : ℕ) → drop {A = ℕ} n (replicate m 0) ≡ replicate (m - n) 0
zeros-behind zero m = let e : m ≡ m - 0 = omega arith in ap (λ k. replicate {A = ℕ} k 0) e
zeros-behind (suc n) zero = let e : 0 ≡ 0 - suc n = omega arith in ap (λ k. replicate {A = ℕ} k 0) e
zeros-behind (suc n) (suc m) =
    let e : m - n ≡ suc m - suc n = omega arith in zeros-behind n m ∙ ap (λ k. replicate {A = ℕ} k 0) e

pub zeros-before : (n m : ℕ) → n ≤ m → take {A = ℕ} n (replicate m 0) ≡ replicate n 0
zeros-before zero m l = refl
zeros-before (suc n) zero l = absurd (omega (arith, l))
zeros-before (suc n) (suc m) l = ap (λ (xs : List ℕ). 0 ∷ xs) (zeros-before n m (omega (arith, l)))

-- the version at 0 and the bytes from 140 on
pub cygheap-written : (placed : List PlacedModule) (old set bytes new : List ℕ) (n m : ℕ) → old ≡ replicate (n + 1) 0
    → set ≡ slice_set old 0 1 → n ≡ 287 → m ≡ 139 → bytes ≡ base_bytes placed
    → new ≡ take (m + 1) set ++ bytes ++ drop (m + 1 + length bytes) set
    → new ≡ opening_cygheap placed
unfolding opening_cygheap
cygheap-written placed old set bytes new n m zeros version is_n is_m are written =
    let s : set ≡ 1 ∷ replicate n 0 = version ∙ ap (λ (xs : List ℕ). slice_set xs 0 1) (zeros ∙ more n) in
    written
    ∙ ap (λ (xs : List ℕ). take (m + 1) xs ++ bytes ++ drop (m + 1 + length bytes) xs) s
    ∙ parts
  where
    more : (n : ℕ) → replicate {A = ℕ} (n + 1) 0 ≡ 0 ∷ replicate n 0
    more n = ap (λ k. replicate {A = ℕ} k 0) (let e : n + 1 ≡ suc n = omega arith in e)

    front : take {A = ℕ} (m + 1) (1 ∷ replicate n 0) ≡ 1 ∷ replicate 139 0
    front =
        let e : m + 1 ≡ suc m = omega arith in
        ap (λ k. take {A = ℕ} k (1 ∷ replicate n 0)) e
        ∙ ap (λ (xs : List ℕ). 1 ∷ xs)
        (zeros-before m n (omega (arith, is_n, is_m)) ∙ ap (λ k. replicate {A = ℕ} k 0) is_m)

    back : drop {A = ℕ} (m + 1 + length bytes) (1 ∷ replicate n 0) ≡ replicate (148 - length (base_bytes placed)) 0
    back =
        let e : m + 1 + length bytes ≡ suc (m + length bytes) = omega arith in
        ap (λ k. drop {A = ℕ} k (1 ∷ replicate n 0)) e
        ∙ zeros-behind (m + length bytes) n
        ∙ ap (λ k. replicate {A = ℕ} k 0) (let f = ap (λ (xs : List ℕ). length xs) are in
        let g : n - (m + length bytes) ≡ 148 - length (base_bytes placed) = omega (arith, f, is_n, is_m) in g)

    parts : take {A = ℕ} (m + 1) (1 ∷ replicate n 0) ++ bytes ++ drop (m + 1 + length bytes) (1 ∷ replicate n 0)
        ≡ 1 ∷ replicate 139 0 ++ base_bytes placed ++ replicate (148 - length (base_bytes placed)) 0
    parts =
        ap (λ (xs : List ℕ). xs ++ bytes ++ drop (m + 1 + length bytes) (1 ∷ replicate n 0)) front
        ∙ ap (λ (xs : List ℕ). (1 ∷ replicate 139 0) ++ bytes ++ xs) back
        ∙ ap (λ (xs : List ℕ). (1 ∷ replicate 139 0) ++ xs ++ replicate (148 - length (base_bytes placed)) 0) are
