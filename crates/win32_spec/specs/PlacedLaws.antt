-- The words, the cygheap and the placed modules with which a run begins.
use Rattle.std.proofs.Common.{◌≡◌, ℕ, ◌+◌, ◌-◌, ◌≤◌, List, [], ◌∷◌, ◌++◌, length, Some, None, slice_get, refl, arith}
use Rattle.std.proofs.Common.{append_assoc, length-append}
use Rattle.std.proofs.lemmas.List.{length-replicate}
use Rattle.w32_base.specs.declared.setup.Module.{Module}
use Rattle.script_spec.specs.declared.script.Script.{Script}
use Rattle.win32_spec.specs.State.{PlacedModule}
use Rattle.win32_spec.specs.Placing.{base_in, and_placed}
use Rattle.win32_spec.specs.Opening.{opening_words, ArePlaced, base_bytes, opening_cygheap}
use Rattle.win32_spec.specs.WellFormed.{AreModules}
use Rattle.win32_spec.specs.PlaceEffects.{modules-behind, base_in-behind}

pub length-opening_words : length opening_words ≡ 12001
unfolding opening_words
length-opening_words = omega (arith, length-replicate {A = ℕ} 11998 0)

pub length-base_bytes : (placed : List PlacedModule) → length (base_bytes placed) ≡ length placed + length placed
length-base_bytes [] = refl
length-base_bytes (m ∷ ms) = omega (arith, length-base_bytes ms)

pub length-opening_cygheap : (placed : List PlacedModule) → length placed ≤ 8 → length (opening_cygheap placed) ≡ 288
unfolding opening_cygheap
length-opening_cygheap placed few =
    simp length-append (omega (
      arith,
      length-base_bytes placed,
      length-replicate {A = ℕ} 139 0,
      length-replicate {A = ℕ} (148 - length (base_bytes placed)) 0,
    ))

-- an element behind others
pub slice_get-behind : {X : Type 0} (front : List X) (x : X) (rest : List X)
    → slice_get (front ++ x ∷ rest) (length front) ≡ Some x
slice_get-behind [] x rest = refl
slice_get-behind (y ∷ ys) x rest = slice_get-behind ys x rest

-- the placed modules are the script's
pub placed-modules : (script : Script) (creation m : ℕ) (rest front : List Module) (before after : List PlacedModule)
    → script.setup.modules ≡ front ++ rest → length front ≡ m → ((k : ℕ) → m ≤ k → base_in before k ≡ None)
    → AreModules script.setup.modules before → ArePlaced script creation m rest before after
    → AreModules script.setup.modules after × (length after ≡ length before + length rest)
placed-modules script creation m [] front before after e n free h placed = rw placed (h, omega arith)
placed-modules script creation m (wanted ∷ others) front before after e n free h placed =
    let listed : slice_get script.setup.modules m ≡ Some wanted = rw (e, ← n) (slice_get-behind front wanted others) in
    let longer : length (front ++ wanted ∷ []) ≡ m + 1 = omega (arith, length-append front (wanted ∷ [])) in
    let next = placed-modules script creation (m + 1) others (front ++ wanted ∷ []) (and_placed before m placed.0) after
    (rw append_assoc e) longer
    (λ k l. base_in-behind before k m placed.0 (free k (omega arith)) (λ i. omega arith))
    (modules-behind script.setup.modules before m placed.0 (free m (omega arith))
    (record { wanted = wanted; listed = listed; within = placed.1.0.within }) h) placed.2 in
    (next.0, omega (arith, next.1, length-append before (record { module_no = m; base = placed.0 } ∷ [])))
