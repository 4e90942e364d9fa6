-- Places that are filled one after another.
use Rattle.std.specs.Prelude.{◌≡◌, ℕ, suc, ◌+◌, ◌-◌, ◌≤◌, ◌<◌, Bool, false, List, [], ◌∷◌, ◌++◌, length, map, replicate}
use Rattle.std.specs.List.{range_with_len}
use Rattle.std.proofs.Common.{refl, sym, ◌∙◌, ap, arith, set, append_assoc}
use Rattle.std.proofs.lemmas.List.{set_at, append-nil}
use Rattle.std.proofs.lemmas.List.FromFn.{map-range_with_len_more, length-map-range_with_len}
use Rattle.w32_base.specs.declared.instr.Action.{Action}
use Rattle.w32_base.specs.declared.instr.Action.TheVariants.{Default}
use Rattle.layer_spec.specs.HeapReads.{action_in, base_in, child_in, child_count_in}
use Rattle.cygheap_image.specs.Fields.{fields_in}
use Rattle.cygheap_image.specs.Shown.{pair_of, shown_children}
use Rattle.cygheap_image.specs.FieldLaws.{child_count_told}

-- the first k of n places hold f of their numbers, and the others d
unfoldable pub filled : {X : Type 0} → (ℕ → X) → X → (n k : ℕ) → List X
filled f d n k = map f (range_with_len 0 k) ++ replicate (n - k) d

pub filled_more : {X : Type 0} (f : ℕ → X) (d : X) (n k : ℕ) → k < n
    → set (filled f d n k) k (f k) ≡ filled f d n (k + 1)
unfolding filled
filled_more {X} f d n k within =
    let others : List X = replicate (n - (k + 1)) d in
    let place : length (map f (range_with_len 0 k)) ≡ k = length-map-range_with_len f 0 k in
    let one : n - k ≡ suc (n - (k + 1)) = omega arith in
    ap (λ (m : ℕ). set (map f (range_with_len 0 k) ++ replicate m d) k (f k)) one
    ∙ set_at (map f (range_with_len 0 k)) d others (f k) k place
    ∙ sym (append_assoc (map f (range_with_len 0 k)) (f k ∷ []) others)
    ∙ ap (λ (xs : List X). xs ++ others) (sym (map-range_with_len_more f 0 k k (omega arith)))

pub filled_step : {X : Type 0} (f : ℕ → X) (d : X) (n k : ℕ) (now : List X) (place : ℕ) (x : X) → k < n
    → now ≡ filled f d n k → place ≡ k → x ≡ f k → set now place x ≡ filled f d n (k + 1)
filled_step {X} f d n k now place x within is at value =
    ap (λ (xs : List X). set xs place x) is
    ∙ ap (λ (p : ℕ). set (filled f d n k) p x) at
    ∙ ap (λ (y : X). set (filled f d n k) k y) value
    ∙ filled_more f d n k within

-- the actions, the bases and the children of a cygheap, once all are there
pub actions_filled : (bytes : List ℕ) (now : List Action) (k : ℕ)
    → now ≡ filled (λ i. action_in bytes (i + 1)) Default 31 k → k ≡ 31 → now ≡ (fields_in bytes).actions
unfolding filled fields_in
actions_filled bytes now k is all = is ∙ ap (λ (n : ℕ). filled (λ i. action_in bytes (i + 1)) Default 31 n) all

pub bases_filled : (bytes now : List ℕ) (k : ℕ) → now ≡ filled (base_in bytes) 0 8 k → k ≡ 8
    → now ≡ (fields_in bytes).bases
unfolding filled fields_in
bases_filled bytes now k is all = is ∙ ap (λ (n : ℕ). filled (base_in bytes) 0 8 n) all

pairs_of : (bytes xs : List ℕ) → map (λ i. pair_of (child_in bytes i)) xs ≡ map pair_of (map (child_in bytes) xs)
pairs_of bytes [] = refl
pairs_of bytes (x ∷ xs) = ap (λ rest. pair_of (child_in bytes x) ∷ rest) (pairs_of bytes xs)

pub children_filled : (bytes : List ℕ) (now : List (ℕ × Bool)) (k : ℕ)
    → now ≡ filled (λ i. pair_of (child_in bytes i)) (0, false) 32 k → k ≡ child_count_in bytes
    → now ≡ shown_children (fields_in bytes).children
unfolding filled fields_in
children_filled bytes now k is all =
    let n : ℕ = child_count_in bytes in
    let count : n ≡ length (fields_in bytes).children = sym (child_count_told bytes) in
    is
    ∙ ap (λ (m : ℕ). filled (λ i. pair_of (child_in bytes i)) (0, false) 32 m) all
    ∙ ap (λ (xs : List (ℕ × Bool)). xs ++ replicate (32 - n) (0, false)) (pairs_of bytes (range_with_len 0 n))
    ∙ ap (λ (m : ℕ). map pair_of (fields_in bytes).children ++ replicate (32 - m) (0, false)) count
