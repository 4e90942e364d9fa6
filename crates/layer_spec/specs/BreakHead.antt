-- The first bytes of 288 that fit, and lists of pieces.
use Rattle.std.specs.Prelude.{◌≡◌, ℕ, zero, suc, ◌+◌, ◌*◌, ◌/◌, ◌%◌, ◌≤◌, ◌<◌, Bool, true, nat_eq, List, ◌++◌, map}
use Rattle.std.specs.Prelude.{flat_map, take, drop}
use Rattle.std.specs.Int.{w32, from_le_bytes}
use Rattle.std.specs.List.{range_with_len, list_all}
use Rattle.std.proofs.Common.{refl, sym, ◌∙◌, ap, arith}
use Rattle.std.proofs.Math.Seq.{take-add}
use Rattle.std.proofs.lemmas.List.{drop-drop}
use Rattle.std.proofs.lemmas.Bool.{ltb-true, eqb-true, and_parts, and_from}
use Rattle.w32_base.specs.declared.instr.Action.{Action}
use Rattle.vm_spec.specs.Image.{word_at}
use Rattle.layer_spec.specs.Heap.{is_mask, is_action, are_actions, four_bytes}
use Rattle.layer_spec.specs.HeapReads.{byte_at}
use Rattle.layer_spec.specs.HeapBreaks.{is_byte, fits_mask}
use Rattle.layer_spec.specs.BreakBytes.{four_there, four_of, word_there, mask_from_bits}
use Rattle.layer_spec.specs.BreakWhole.{Whole, small_at}

-- what was read one after another is written so
pub write_all : {X : Type 0} (size : ℕ) (encode : X → List ℕ) (read : List ℕ → ℕ → X) (bytes : List ℕ)
    (base start n : ℕ)
    → ((k : ℕ) → start ≤ k → k < start + n → encode (read bytes (base + size * k))
    ≡ take size (drop (base + size * k) bytes))
    → flat_map encode (map (λ k. read bytes (base + size * k)) (range_with_len start n))
    ≡ take (size * n) (drop (base + size * start) bytes)
write_all size encode read bytes base start zero each =
    let none : size * 0 ≡ 0 = omega arith in sym (ap (λ m. take m (drop (base + size * start) bytes)) none)
write_all size encode read bytes base start (suc n) each =
    let rest : List ℕ = drop (base + size * start) bytes in
    let sum : size * suc n ≡ size + size * n = omega arith in
    let place : base + size * start + size ≡ base + size * (start + 1) = omega arith in
    let here = each start (omega arith) (omega arith) in
    let others = write_all size encode read bytes base (start + 1) n (λ k l h. each k (omega arith) (omega arith)) in
    let behind : drop (base + size * (start + 1)) bytes ≡ drop size rest
    = sym (drop-drop size (base + size * start) bytes ∙ ap (λ m. drop m bytes) place) in
    ap (λ front. front ++ flat_map encode (map (λ k. read bytes (base + size * k)) (range_with_len (start + 1) n))) here
    ∙ ap (λ back. take size rest ++ back) (others ∙ ap (take (size * n)) behind)
    ∙ sym (ap (λ m. take m rest) sum ∙ take-add size (size * n) rest)

-- tests of all that was read
pub all_read : {X : Type 0} (test : X → Bool) (read : ℕ → X) (start n : ℕ)
    → ((k : ℕ) → start ≤ k → k < start + n → test (read k) ≡ true)
    → list_all test (map read (range_with_len start n)) ≡ true
all_read test read start zero each = refl
all_read test read start (suc n) each =
    and_from (test (read start)) (list_all test (map read (range_with_len (start + 1) n)))
    (each start (omega arith) (omega arith))
    (all_read test read (start + 1) n (λ k l h. each k (omega arith) (omega arith)))

pub actions_read_legal : (read : ℕ → Action) (start n : ℕ)
    → ((k : ℕ) → start ≤ k → k < start + n → is_action k (read k) ≡ true)
    → are_actions start (map read (range_with_len start n)) ≡ true
actions_read_legal read start zero each = refl
actions_read_legal read start (suc n) each =
    and_from (is_action start (read start)) (are_actions (start + 1) (map read (range_with_len (start + 1) n)))
    (each start (omega arith) (omega arith))
    (actions_read_legal read (start + 1) n (λ k l h. each k (omega arith) (omega arith)))

-- four bytes
pub four_back : (bytes : List ℕ) (p : ℕ) → Whole bytes → p + 4 ≤ 288 → four_bytes (word_at bytes p)
    ≡ take 4 (drop p bytes)
unfolding word_at
four_back bytes p whole h =
    four_of (word_at bytes p) (byte_at bytes p) (byte_at bytes (p + 1)) (byte_at bytes (p + 2)) (byte_at bytes (p + 3))
    (small_at bytes whole p (omega arith)) (small_at bytes whole (p + 1) (omega arith))
    (small_at bytes whole (p + 2) (omega arith)) (small_at bytes whole (p + 3) (omega arith))
    (ap (from_le_bytes w32) (four_there bytes p (omega (arith, whole.size))))
    ∙ sym (four_there bytes p (omega (arith, whole.size)))

-- a mask from its four bytes
second_of : (b : ℕ) → fits_mask 1 b ≡ true → b % 2 ≡ 0
second_of b t = eqb-true (b % 2) 0 (and_parts (is_byte b) (nat_eq (b % 2) 0) t).1

third_of : (b : ℕ) → fits_mask 2 b ≡ true → b / 4 % 2 ≡ 0
third_of b t = eqb-true (b / 4 % 2) 0 (and_parts (is_byte b) (nat_eq (b / 4 % 2) 0) t).1

fourth_of : (b : ℕ) → fits_mask 3 b ≡ true → b < 128
fourth_of b t = ltb-true b 128 t

pub mask_at : (bytes : List ℕ) (p : ℕ) → Whole bytes → p + 4 ≤ 288
    → ((j : ℕ) → j < 4 → fits_mask j (byte_at bytes (p + j)) ≡ true) → is_mask (word_at bytes p) ≡ true
mask_at bytes p whole h tests =
    let value = word_there bytes p (omega (arith, whole.size)) in
    let low = small_at bytes whole p (omega arith) in
    let one = small_at bytes whole (p + 1) (omega arith) in
    let two = small_at bytes whole (p + 2) (omega arith) in
    let even = second_of (byte_at bytes (p + 1)) (tests 1 (omega arith)) in
    let clear = third_of (byte_at bytes (p + 2)) (tests 2 (omega arith)) in
    let half = fourth_of (byte_at bytes (p + 3)) (tests 3 (omega arith)) in
    mask_from_bits (word_at bytes p) (omega (arith, value, low, one, two, half))
    (omega (arith, value, low, one, two, even))
    (omega (arith, value, low, one, two, clear))
