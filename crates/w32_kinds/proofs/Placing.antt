-- The placed modules as the code keeps them, one after another.
use Rattle.std.proofs.Common.{◌≡◌, ℕ, zero, suc, ◌+◌, ◌≤◌, ◌<◌, Bool, true, false, ◌&&◌, ◌||◌, nat_eq, nat_le}
use Rattle.std.proofs.Common.{nat_lt, if◌then◌else◌, List, [], ◌∷◌, ◌++◌, length, drop, get_or, slice_get, Some}
use Rattle.std.proofs.Common.{None, refl, ap, arith}
use Rattle.w32_base.specs.declared.setup.Module.{Module}
use Rattle.win32_spec.specs.Placing.{pages_of, is_in_module, base_in}
use Rattle.w32_kinds.specs.Placed.{placed_of}
use Rattle.w32_kinds.specs.declared.placements.Placement.{Placement}

pub length-placed : (xs : List Placement) → length (placed_of xs) ≡ length xs
length-placed [] = refl
length-placed (x ∷ xs) = omega (arith, length-placed xs)

pub placed-push : (xs : List Placement) (x : Placement)
    → placed_of (xs ++ x ∷ []) ≡ placed_of xs ++ record { module_no = x.number; base = x.base } ∷ []
placed-push [] x = refl
placed-push (y ∷ xs) x = ap (λ ps. record { module_no = y.number; base = y.base } ∷ ps) (placed-push xs x)

-- the base of one more module
pub base-next : (xs : List Placement) (k n : ℕ) (d : Placement) → k < length xs
    → base_in (placed_of (drop k xs)) n ≡
    (if nat_eq (get_or xs k d).number n then Some (get_or xs k d).base else base_in (placed_of (drop (k + 1) xs)) n)
base-next [] k n d l = absurd (omega arith)
base-next (x ∷ xs) zero n d l = refl
base-next (x ∷ xs) (suc k) n d l =
    let i : suc k + 1 ≡ suc (k + 1) = omega arith in rw i (base-next xs k n d (omega arith))

pub base-end : (xs : List Placement) (k n : ℕ) → length xs ≤ k → base_in (placed_of (drop k xs)) n ≡ None
base-end [] zero n l = refl
base-end [] (suc k) n l = refl
base-end (x ∷ xs) zero n l = absurd (omega arith)
base-end (x ∷ xs) (suc k) n l = base-end xs k n (omega arith)

-- whether one more module has a page
pub module-next : (modules : List Module) (xs : List Placement) (k page : ℕ) (d : Placement) → k < length xs
    → is_in_module modules (placed_of (drop k xs)) page ≡
    ((nat_le (get_or xs k d).base page
    && nat_lt page ((get_or xs k d).base + pages_of (slice_get modules (get_or xs k d).number)))
    || is_in_module modules (placed_of (drop (k + 1) xs)) page)
module-next modules [] k page d l = absurd (omega arith)
module-next modules (x ∷ xs) zero page d l = refl
module-next modules (x ∷ xs) (suc k) page d l =
    let i : suc k + 1 ≡ suc (k + 1) = omega arith in rw i (module-next modules xs k page d (omega arith))

pub module-end : (modules : List Module) (xs : List Placement) (k page : ℕ) → length xs ≤ k
    → is_in_module modules (placed_of (drop k xs)) page ≡ false
module-end modules [] zero page l = refl
module-end modules [] (suc k) page l = refl
module-end modules (x ∷ xs) zero page l = absurd (omega arith)
module-end modules (x ∷ xs) (suc k) page l = module-end modules xs k page (omega arith)

-- one test, and more
pub or-true : (a b : Bool) → a ≡ true → (a || b) ≡ true
or-true a b e = rw e refl

pub or-false : (a b : Bool) → a ≡ false → (a || b) ≡ b
or-false a b e = rw e refl
