-- 288 bytes that fit keep the layout of a cygheap: its pieces one by one.
use Rattle.std.specs.Prelude.{◌≡◌, ℕ, zero, suc, ◌+◌, ◌-◌, ◌*◌, ◌/◌, ◌%◌, ◌^◌, ◌≤◌, ◌<◌, Bool, true, nat_eq, nat_le}
use Rattle.std.specs.Prelude.{nat_lt, if◌then◌else◌, List, [], ◌∷◌, ◌++◌, length, take, drop}
use Rattle.std.specs.Int.{w16, from_le_bytes}
use Rattle.std.proofs.Common.{refl, sym, ◌∙◌, ap, subst, arith}
use Rattle.std.proofs.lemmas.Bool.{leb-true, eqb-true, le-leb, lt-ltb, and_parts, and_from}
use Rattle.std.proofs.lemmas.Bool.Decides.{nat_tests}
use Rattle.w32_base.specs.declared.instr.Action.TheVariants.{Ignore, Handler}
use Rattle.layer_spec.specs.Rows.{bit_of}
use Rattle.layer_spec.specs.Heap.{is_action, is_base, is_child, two_bytes, action_bytes, child_bytes}
use Rattle.layer_spec.specs.HeapReads.{byte_at, half_at, action_by, action_at, child_at}
use Rattle.layer_spec.specs.HeapBreaks.{is_byte, fits_action, fits_child}
use Rattle.layer_spec.specs.BreakParts.{fits_in_actions, fits_in_bases, fits_in_children}
use Rattle.layer_spec.specs.BreakFits.{FitBelow}
use Rattle.layer_spec.specs.BreakBytes.{fit_small, two_there, four_there, two_of, half_there}

pub record Whole (bytes : List ℕ) : Type 0 where
  pub size : length bytes ≡ 288
  pub fit : FitBelow bytes 288

pub small_at : (bytes : List ℕ) → Whole bytes → (k : ℕ) → k < 288 → byte_at bytes k < 256
small_at bytes whole k h = fit_small bytes k (byte_at bytes k) (whole.fit k h)

-- the number in two bytes
pub half_back : (bytes : List ℕ) (p : ℕ) → Whole bytes → p + 2 ≤ 288 → two_bytes (half_at bytes p)
    ≡ byte_at bytes p ∷ byte_at bytes (p + 1) ∷ []
unfolding half_at
half_back bytes p whole h =
    two_of (half_at bytes p) (byte_at bytes p) (byte_at bytes (p + 1)) (small_at bytes whole p (omega arith))
    (small_at bytes whole (p + 1) (omega arith))
    (ap (from_le_bytes w16) (two_there bytes p (omega (arith, whole.size))))

pub half_small : (bytes : List ℕ) (p : ℕ) → Whole bytes → p + 2 ≤ 288 → half_at bytes p < 2 ^ 16
half_small bytes p whole h =
    omega (
      arith,
      half_there bytes p (omega (arith, whole.size)),
      small_at bytes whole p (omega arith),
      small_at bytes whole (p + 1) (omega arith),
    )

-- an action by its four bytes
ignored_legal : (s : ℕ) → fits_action s 1 0 1 ≡ true → is_action s Ignore ≡ true
ignored_legal s h = grind (arith, nat_tests)

handled_legal : (s target : ℕ) (restart : Bool) → fits_action s 2 0 2 ≡ true → target < 2 ^ 16
    → is_action s (Handler target restart) ≡ true
handled_legal s target restart h small = grind (arith, nat_tests)

no_kind : (s n : ℕ) → fits_action s (suc (suc (suc n))) 0 (suc (suc (suc n))) ≡ true → ⊥
no_kind s n h = grind (arith, nat_tests)

bit_same : (r : ℕ) → r ≤ 1 → bit_of (nat_eq r 1) ≡ r
bit_same zero h = refl
bit_same (suc zero) h = refl
bit_same (suc (suc k)) h = absurd (omega arith)

pub record ActionBack (s kind restart low high half : ℕ) : Type 0 where
  pub bytes : action_bytes (action_by kind restart half) ≡ kind ∷ restart ∷ low ∷ high ∷ []
  pub legal : is_action s (action_by kind restart half) ≡ true

pub action_exact : (s kind restart low high half : ℕ) → fits_action s kind 0 kind ≡ true
    → fits_action s kind 1 restart ≡ true
    → fits_action s kind 2 low ≡ true → fits_action s kind 3 high ≡ true → two_bytes half ≡ low ∷ high ∷ []
    → half < 2 ^ 16
    → ActionBack s kind restart low high half
action_exact s zero r l h half a b c d e small =
    let rz : r ≡ 0 = eqb-true r 0 b in
    let lz : l ≡ 0 = eqb-true l 0 c in
    let hz : h ≡ 0 = eqb-true h 0 d in
    record { bytes = rw (rz, lz, hz) refl; legal = refl }
action_exact s (suc zero) r l h half a b c d e small =
    let rz : r ≡ 0 = eqb-true r 0 b in
    let lz : l ≡ 0 = eqb-true l 0 c in
    let hz : h ≡ 0 = eqb-true h 0 d in
    record { bytes = rw (rz, lz, hz) refl; legal = ignored_legal s a }
action_exact s (suc (suc zero)) r l h half a b c d e small = record {
  bytes = ap (λ x. 2 ∷ bit_of (nat_eq r 1) ∷ x) e ∙ ap (λ x. 2 ∷ x ∷ l ∷ h ∷ []) (bit_same r (leb-true r 1 b));
  legal = handled_legal s half (nat_eq r 1) a small;
}
action_exact s (suc (suc (suc n))) r l h half a b c d e small = absurd (no_kind s n a)

action_test : (bytes : List ℕ) (s j : ℕ) → Whole bytes → 1 ≤ s → s ≤ 31 → j < 4
    → fits_action s (byte_at bytes (12 + 4 * s)) j (byte_at bytes (12 + 4 * s + j)) ≡ true
action_test bytes s j whole from to h =
    let i : ℕ = 12 + 4 * s + j in
    let number : i / 4 - 3 ≡ s = omega arith in
    let start : i - i % 4 ≡ 12 + 4 * s = omega arith in
    let place : i % 4 ≡ j = omega arith in
    let there = sym (fits_in_actions bytes i (byte_at bytes i) (omega arith) (omega arith))
    ∙ whole.fit i (omega arith) in
    sym (ap (λ n. fits_action n (byte_at bytes (i - i % 4)) (i % 4) (byte_at bytes i)) number
    ∙ ap (λ n. fits_action s (byte_at bytes n) (i % 4) (byte_at bytes i)) start
    ∙ ap (λ n. fits_action s (byte_at bytes (12 + 4 * s)) n (byte_at bytes i)) place) ∙ there

pub action_back : (bytes : List ℕ) (s : ℕ) → Whole bytes → 1 ≤ s → s ≤ 31
    → (action_bytes (action_at bytes (12 + 4 * s)) ≡ take 4 (drop (12 + 4 * s) bytes))
    × (is_action s (action_at bytes (12 + 4 * s)) ≡ true)
action_back bytes s whole from to =
    let p : ℕ = 12 + 4 * s in
    let kind_place : p + 0 ≡ p = omega arith in
    let last : p + 2 + 1 ≡ p + 3 = omega arith in
    let first = subst (λ (n : ℕ). fits_action s (byte_at bytes p) 0 (byte_at bytes n) ≡ true) kind_place
    (action_test bytes s 0 whole from to (omega arith)) in
    let half = half_back bytes (p + 2) whole (omega arith)
    ∙ ap (λ n. byte_at bytes (p + 2) ∷ byte_at bytes n ∷ []) last in
    let exact = action_exact s (byte_at bytes p) (byte_at bytes (p + 1)) (byte_at bytes (p + 2)) (byte_at bytes (p + 3))
    (half_at bytes (p + 2)) first (action_test bytes s 1 whole from to (omega arith))
    (action_test bytes s 2 whole from to (omega arith)) (action_test bytes s 3 whole from to (omega arith)) half
    (half_small bytes (p + 2) whole (omega arith)) in
    (exact.bytes ∙ sym (four_there bytes p (omega (arith, whole.size))), exact.legal)

-- a base by its two bytes
base_high : (bytes : List ℕ) (m : ℕ) → Whole bytes → m ≤ 7 → byte_at bytes (140 + 2 * m + 1) ≤ 3
base_high bytes m whole to =
    let i : ℕ = 140 + 2 * m + 1 in
    let odd : i % 2 ≡ 1 = omega arith in
    let there = sym (fits_in_bases bytes i (byte_at bytes i) (omega arith) (omega arith)) ∙ whole.fit i (omega arith) in
    leb-true (byte_at bytes i) 3
    (sym (ap (λ n. (if nat_eq n 0 then is_byte (byte_at bytes i) else nat_le (byte_at bytes i) 3)) odd) ∙ there)

pub base_back : (bytes : List ℕ) (m : ℕ) → Whole bytes → m ≤ 7
    → (two_bytes (half_at bytes (140 + 2 * m)) ≡ take 2 (drop (140 + 2 * m) bytes))
    × (is_base (half_at bytes (140 + 2 * m)) ≡ true)
base_back bytes m whole to =
    let p : ℕ = 140 + 2 * m in
    let high = base_high bytes m whole to in
    let low = small_at bytes whole p (omega arith) in
    let value = half_there bytes p (omega (arith, whole.size)) in (
      half_back bytes p whole (omega arith) ∙ sym (two_there bytes p (omega (arith, whole.size))),
      le-leb (half_at bytes p) 1023 (omega (arith, high, low, value)),
    )

-- a child by its four bytes
child_test : (bytes : List ℕ) (c j : ℕ) → Whole bytes → c < byte_at bytes 156 → c < 32 → j < 4
    → fits_child (byte_at bytes (160 + 4 * c + j - 1)) j (byte_at bytes (160 + 4 * c + j)) ≡ true
child_test bytes c j whole within few h =
    let i : ℕ = 160 + 4 * c + j in
    let number : i / 4 - 40 ≡ c = omega arith in
    let place : i % 4 ≡ j = omega arith in
    let there = sym (fits_in_children bytes i (byte_at bytes i) (omega arith)) ∙ whole.fit i (omega arith) in
    sym (ap (λ n. (if nat_lt n (byte_at bytes 156) then fits_child (byte_at bytes (i - 1)) (i % 4) (byte_at bytes i)
    else nat_eq (byte_at bytes i) 0)) number
    ∙ ap (λ t. (if t then fits_child (byte_at bytes (i - 1)) (i % 4) (byte_at bytes i) else nat_eq (byte_at bytes i) 0))
    (lt-ltb c (byte_at bytes 156) within)
    ∙ ap (λ n. fits_child (byte_at bytes (i - 1)) n (byte_at bytes i)) place) ∙ there

pub child_back : (bytes : List ℕ) (c : ℕ) → Whole bytes → c < byte_at bytes 156 → c < 32
    → (child_bytes (child_at bytes (160 + 4 * c)) ≡ take 4 (drop (160 + 4 * c) bytes))
    × (is_child (child_at bytes (160 + 4 * c)) ≡ true)
child_back bytes c whole within few =
    let p : ℕ = 160 + 4 * c in
    let before : p + 1 - 1 ≡ p = omega arith in
    let last : p + 2 + 1 ≡ p + 3 = omega arith in
    let second = subst (λ (n : ℕ). fits_child (byte_at bytes n) 1 (byte_at bytes (p + 1)) ≡ true) before
    (child_test bytes c 1 whole within few (omega arith)) in
    let flag : byte_at bytes (p + 2) ≤ 1 = leb-true (byte_at bytes (p + 2)) 1
    (child_test bytes c 2 whole within few (omega arith)) in
    let end : byte_at bytes (p + 3) ≡ 0 = eqb-true (byte_at bytes (p + 3)) 0
    (child_test bytes c 3 whole within few (omega arith)) in
    let value = half_there bytes p (omega (arith, whole.size)) in
    let flags : half_at bytes (p + 2) ≡ byte_at bytes (p + 2)
    = half_there bytes (p + 2) (omega (arith, whole.size)) ∙ rw (last, end) (omega arith) in
    let noted : bit_of (nat_eq (half_at bytes (p + 2)) 1) ≡ half_at bytes (p + 2)
    = bit_same (half_at bytes (p + 2)) (omega (arith, flags, flag)) in
    let low = half_back bytes p whole (omega arith) in
    let high = half_back bytes (p + 2) whole (omega arith)
    ∙ ap (λ n. byte_at bytes (p + 2) ∷ byte_at bytes n ∷ []) last in
    let both = and_parts (nat_le 2 (byte_at bytes p + 256 * byte_at bytes (p + 1)))
    (nat_le (byte_at bytes p + 256 * byte_at bytes (p + 1)) 4001) second in (
      ap (λ n. two_bytes (half_at bytes p) ++ two_bytes n) noted
          ∙ ap (λ front. front ++ two_bytes (half_at bytes (p + 2))) low
          ∙ ap (λ back. byte_at bytes p ∷ byte_at bytes (p + 1) ∷ back) high
          ∙ sym (four_there bytes p (omega (arith, whole.size))),
      and_from (nat_le 2 (half_at bytes p)) (nat_le (half_at bytes p) 4001)
          (subst (λ (n : ℕ). nat_le 2 n ≡ true) (sym value) both.0)
          (subst (λ (n : ℕ). nat_le n 4001 ≡ true) (sym value) both.1),
    )
