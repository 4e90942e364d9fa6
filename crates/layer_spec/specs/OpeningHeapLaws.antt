-- The first layer process's cygheap keeps the layout, and tells where its modules are placed.
use Rattle.std.specs.Prelude.{◌≡◌, ℕ, zero, suc, ◌+◌, ◌-◌, ◌*◌, ◌/◌, ◌%◌, ◌≤◌, ◌<◌, true, List, [], ◌∷◌, ◌++◌, length}
use Rattle.std.specs.Prelude.{map, flat_map, replicate, Some, None}
use Rattle.std.specs.List.{list_all}
use Rattle.std.proofs.Common.{refl, sym, ◌∙◌, ap, subst, arith, get_or, append_assoc}
use Rattle.std.proofs.lemmas.Bool.{and_parts, and_from, eq-eqb, ne_eqb, le-leb}
use Rattle.std.proofs.lemmas.Bool.Decides.{nat_tests}
use Rattle.std.proofs.lemmas.Grind.{common_steps, flat_map-append}
use Rattle.std.proofs.lemmas.List.{replicate-append-replicate, length-map}
use Rattle.std.proofs.lemmas.List.Folds.{list_all-append}
use Rattle.std.proofs.Math.ListN.{length-append, length-replicate}
use Rattle.w32_base.specs.declared.instr.Action.TheVariants.{Default}
use Rattle.w32_base.specs.declared.setup.Module.{Module}
use Rattle.script_spec.specs.declared.script.Script.{Script}
use Rattle.script_spec.specs.Validity.{is_valid_module}
use Rattle.win32_spec.specs.State.{PlacedModule}
use Rattle.win32_spec.specs.Placing.{base_in, and_placed}
use Rattle.win32_spec.specs.Opening.{ArePlaced, base_bytes, opening_cygheap}
use Rattle.layer_spec.specs.Heap.{is_base, HeapFields, IsHeap, two_bytes, heap_bytes}

-- modules are placed in the script's order, from this one on, each at a page below 1024
abbrev pub AreNumbered : ℕ → List PlacedModule → Type 0
AreNumbered m [] = Unit {0}
AreNumbered m (x ∷ xs) = (x.module_no ≡ m) × (x.base ≤ 1023) × AreNumbered (m + 1) xs

pub numbered_more : (m k base : ℕ) (xs : List PlacedModule) → AreNumbered m xs → m + length xs ≡ k → base ≤ 1023
    → AreNumbered m (and_placed xs k base)
numbered_more m k base [] h e b = (omega arith, b, tt)
numbered_more m k base (x ∷ xs) h e b =
    let here : m + 1 + length xs ≡ k = omega arith in
    (h.0, h.1, numbered_more (m + 1) k base xs h.2 here b)

pub length-and_placed : (xs : List PlacedModule) (k base : ℕ) → length (and_placed xs k base) ≡ length xs + 1
length-and_placed xs k base = grind (arith, common_steps)

pub valid_size : (x : Module) → is_valid_module x ≡ true → 1 ≤ x.size
valid_size x v = grind (arith, nat_tests)

pub record Numbered (m : ℕ) (xs : List PlacedModule) : Type 0 where
  pub numbers : AreNumbered 0 xs
  pub count : length xs ≡ m

pub numbered_by : (script : Script) (creation m : ℕ) (modules : List Module) (before after : List PlacedModule)
    → Numbered m before → list_all is_valid_module modules ≡ true → ArePlaced script creation m modules before after
    → Numbered (m + length modules) after
numbered_by script creation m [] before after h v e =
    subst (λ (y : List PlacedModule). Numbered (m + 0) y) (sym e) (record { numbers = h.numbers; count = omega arith })
numbered_by script creation m (x ∷ xs) before after h v e =
    let valid = and_parts (is_valid_module x) (list_all is_valid_module xs) v in
    let size : 1 ≤ x.size = valid_size x valid.0 in
    let base : e.0 ≤ 1023 = omega (arith, e.1.0.within) in
    let counted : 0 + length before ≡ m = omega (arith, h.count) in
    let one_more : Numbered (m + 1) (and_placed before m e.0) = record {
      numbers = numbered_more 0 m e.0 before h.numbers counted base;
      count = length-and_placed before m e.0 ∙ ap (λ n. n + 1) h.count;
    } in
    let same : m + 1 + length xs ≡ m + length (x ∷ xs) = omega arith in
    subst (λ (n : ℕ). Numbered n after) same
    (numbered_by script creation (m + 1) xs (and_placed before m e.0) after one_more valid.1 e.2)

pub base_in-numbered : (m k : ℕ) (xs : List PlacedModule) → AreNumbered m xs → k < length xs
    → base_in xs (m + k) ≡ Some (get_or (map (λ (x : PlacedModule). x.base) xs) k 0)
base_in-numbered m k [] h e = absurd (omega arith)
base_in-numbered m zero (x ∷ xs) h e =
    let same : x.module_no ≡ m + 0 = h.0 ∙ omega arith in rw (eq-eqb x.module_no (m + 0) same) refl
base_in-numbered m (suc k) (x ∷ xs) h e =
    let other : x.module_no ≡ m + suc k → ⊥ = λ same. omega (arith, h.0, same) in
    let below : k < length xs = omega arith in
    let place : m + suc k ≡ m + 1 + k = omega arith in
    rw (ne_eqb x.module_no (m + suc k) other, place) (base_in-numbered (m + 1) k xs h.2 below)

pub bases_below : (m : ℕ) (xs : List PlacedModule) → AreNumbered m xs
    → list_all is_base (map (λ (x : PlacedModule). x.base) xs) ≡ true
bases_below m [] h = refl
bases_below m (x ∷ xs) h =
    and_from (is_base x.base) (list_all is_base (map (λ (y : PlacedModule). y.base) xs)) (le-leb x.base 1023 h.1)
    (bases_below (m + 1) xs h.2)

-- what the first cygheap keeps
abbrev pub opening_fields : List PlacedModule → HeapFields
opening_fields placed = record {
  mask = 0;
  saved = None;
  owed = 0;
  actions = replicate 31 Default;
  bases = map (λ (x : PlacedModule). x.base) placed ++ replicate (8 - length placed) 0;
  children = [];
}

-- bases in two bytes each
pub bases_in_bytes : (m : ℕ) (xs : List PlacedModule) → AreNumbered m xs
    → flat_map two_bytes (map (λ (x : PlacedModule). x.base) xs) ≡ base_bytes xs
bases_in_bytes m [] h = refl
bases_in_bytes m (x ∷ xs) h =
    let below = h.1 in
    let high : x.base / 256 % 256 ≡ x.base / 256 = omega arith in
    rw (high, bases_in_bytes (m + 1) xs h.2) refl

pub zeros_in_bytes : (n : ℕ) → flat_map two_bytes (replicate n 0) ≡ replicate (2 * n) 0
zeros_in_bytes zero = refl
zeros_in_bytes (suc n) =
    let two_more : 2 * suc n ≡ suc (suc (2 * n)) = omega arith in rw (two_more, zeros_in_bytes n) refl

pub length-base_bytes : (xs : List PlacedModule) → length (base_bytes xs) ≡ 2 * length xs
length-base_bytes [] = refl
length-base_bytes (x ∷ xs) = omega (arith, length-base_bytes xs)

-- bytes with zeros after them
pub zeros_after : (bytes : List ℕ) (a b c : ℕ)
    → bytes ++ replicate a 0 ++ replicate b 0 ++ [] ++ replicate c 0 ≡ bytes ++ replicate (a + b + c) 0
zeros_after bytes a b c = simp (append_assoc, replicate-append-replicate {A = ℕ})

pub opening_layout : (m : ℕ) (placed : List PlacedModule) → Numbered m placed → m ≤ 8
    → heap_bytes (opening_fields placed) ≡ opening_cygheap placed
unfolding heap_bytes opening_cygheap
opening_layout m placed h few =
    let bases = map (λ (x : PlacedModule). x.base) placed in
    let left : ℕ = 8 - length placed in
    let parts : flat_map two_bytes (bases ++ replicate left 0) ≡ base_bytes placed ++ replicate (2 * left) 0
    = flat_map-append two_bytes bases (replicate left 0)
    ∙ rw (bases_in_bytes 0 placed h.numbers, zeros_in_bytes left) refl in
    let count = length-base_bytes placed in
    let sum : 2 * left + 4 + 128 ≡ 148 - length (base_bytes placed) = omega (arith, h.count) in
    ap (λ bytes. (1 ∷ replicate 139 0) ++ (bytes ++ replicate 4 0 ++ [] ++ replicate 128 0)) parts
    ∙ ap (λ bytes. (1 ∷ replicate 139 0) ++ bytes) (zeros_after (base_bytes placed) (2 * left) 4 128)
    ∙ ap (λ n. (1 ∷ replicate 139 0) ++ (base_bytes placed ++ replicate n 0)) sum

zeros_are_bases : (n : ℕ) → list_all is_base (replicate n 0) ≡ true
zeros_are_bases zero = refl
zeros_are_bases (suc n) = zeros_are_bases n

pub opening_heap_legal : (m : ℕ) (placed : List PlacedModule) → Numbered m placed → m ≤ 8
    → IsHeap (opening_fields placed)
opening_heap_legal m placed h few = record {
  mask = refl;
  saved = refl;
  owed = refl;
  action_count = refl;
  actions = refl;
  base_count = simp (length-append, length-map, length-replicate) (omega (arith, h.count));
  bases = rw (list_all-append is_base (map (λ (x : PlacedModule). x.base) placed) (replicate (8 - length placed) 0))
      (and_from (list_all is_base (map (λ (x : PlacedModule). x.base) placed))
      (list_all is_base (replicate (8 - length placed) 0))
      (bases_below 0 placed h.numbers) (zeros_are_bases (8 - length placed)));
  child_count = refl;
  children = refl;
}
