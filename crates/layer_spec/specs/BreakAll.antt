-- 288 bytes that fit keep the layout of a cygheap.
use Rattle.std.specs.Prelude.{◌≡◌, ℕ, zero, suc, ◌+◌, ◌-◌, ◌*◌, ◌/◌, ◌%◌, ◌≤◌, ◌<◌, Bool, true, false, nat_eq, nat_le}
use Rattle.std.specs.Prelude.{if◌then◌else◌, List, [], ◌∷◌, ◌++◌, length, flat_map, take, drop, replicate, Option, Some}
use Rattle.std.specs.Prelude.{None}
use Rattle.std.proofs.Common.{refl, sym, ◌∙◌, ap, arith, append_assoc}
use Rattle.std.proofs.Math.ListN.{drop_of_length-le}
use Rattle.std.proofs.lemmas.List.{drop-drop, take-append-drop}
use Rattle.std.proofs.lemmas.List.FromFn.{length-map-range_with_len}
use Rattle.std.proofs.lemmas.Bool.{leb-true, le-leb, eqb-true, eqb-false, le-ltb}
use Rattle.layer_spec.specs.Heap.{IsHeap, IsHeapBytes, is_saved_mask, is_base, is_child, two_bytes, four_bytes}
use Rattle.layer_spec.specs.Heap.{saved_flag, saved_mask, action_bytes, child_bytes, heap_bytes}
use Rattle.layer_spec.specs.HeapReads.{byte_at, half_at, action_at, child_at, saved_in, heap_in}
use Rattle.layer_spec.specs.HeapLaws.{head_of, tail_of, around_actions}
use Rattle.layer_spec.specs.HeapBreaks.{fits_head, fits_mask, fits_child}
use Rattle.vm_spec.specs.Image.{word_at}
use Rattle.layer_spec.specs.BreakParts.{fits_in_head, fits_in_mask, fits_in_saved, fits_past_owed, fits_in_count}
use Rattle.layer_spec.specs.BreakParts.{fits_in_children}
use Rattle.layer_spec.specs.BreakFits.{FitBelow}
use Rattle.layer_spec.specs.BreakBytes.{drop_next, four_there, half_there, word_there}
use Rattle.layer_spec.specs.BreakWhole.{Whole, small_at, action_back, base_back, child_back}
use Rattle.layer_spec.specs.BreakHead.{write_all, all_read, actions_read_legal, four_back, mask_at}

head_byte : (bytes : List ℕ) (i : ℕ) → Whole bytes → i < 4 → fits_head i (byte_at bytes i) ≡ true
head_byte bytes i whole h = sym (fits_in_head bytes i (byte_at bytes i) h) ∙ whole.fit i (omega arith)

-- the number of children
count_part : (bytes : List ℕ) (i : ℕ) → Whole bytes → 156 ≤ i → i < 160
    → (if nat_eq i 156 then nat_le (byte_at bytes i) 32 else nat_eq (byte_at bytes i) 0) ≡ true
count_part bytes i whole l h = sym (fits_in_count bytes i (byte_at bytes i) l h) ∙ whole.fit i (omega arith)

record Count (bytes : List ℕ) : Type 0 where
  few : byte_at bytes 156 ≤ 32
  same : word_at bytes 156 ≡ byte_at bytes 156

count_of : (bytes : List ℕ) → Whole bytes → Count bytes
count_of bytes whole =
    let a = leb-true (byte_at bytes 156) 32 (count_part bytes 156 whole (omega arith) (omega arith)) in
    let b = eqb-true (byte_at bytes 157) 0 (count_part bytes 157 whole (omega arith) (omega arith)) in
    let c = eqb-true (byte_at bytes 158) 0 (count_part bytes 158 whole (omega arith) (omega arith)) in
    let d = eqb-true (byte_at bytes 159) 0 (count_part bytes 159 whole (omega arith) (omega arith)) in
    record { few = a; same = word_there bytes 156 (omega (arith, whole.size)) ∙ omega (arith, b, c, d) }

-- the masks
mask_part : (bytes : List ℕ) (j : ℕ) → Whole bytes → j < 4 → fits_mask j (byte_at bytes (4 + j)) ≡ true
mask_part bytes j whole h =
    let place : 4 + j - 4 ≡ j = omega arith in
    sym (ap (λ n. fits_mask n (byte_at bytes (4 + j))) place)
    ∙ sym (fits_in_mask bytes (4 + j) (byte_at bytes (4 + j)) (omega arith) (omega arith))
    ∙ whole.fit (4 + j) (omega arith)

saved_part : (bytes : List ℕ) (j : ℕ) → Whole bytes → j < 4
    → (if nat_eq (byte_at bytes 2) 1 then fits_mask j (byte_at bytes (8 + j)) else nat_eq (byte_at bytes (8 + j)) 0)
    ≡ true
saved_part bytes j whole h =
    let place : 8 + j - 8 ≡ j = omega arith in
    sym (ap (λ n. (if nat_eq (byte_at bytes 2) 1 then fits_mask n (byte_at bytes (8 + j)) else nat_eq
    (byte_at bytes (8 + j)) 0)) place)
    ∙ sym (fits_in_saved bytes (8 + j) (byte_at bytes (8 + j)) (omega arith) (omega arith))
    ∙ whole.fit (8 + j) (omega arith)

flags_same : (bytes : List ℕ) → Whole bytes → half_at bytes 2 ≡ byte_at bytes 2
flags_same bytes whole =
    let high = eqb-true (byte_at bytes 3) 0 (head_byte bytes 3 whole (omega arith)) in
    half_there bytes 2 (omega (arith, whole.size)) ∙ omega (arith, high)

-- the saved mask and its flag, by whether the flag is set
record SavedBack (bytes : List ℕ) (saved : Option ℕ) : Type 0 where
  legal : is_saved_mask saved ≡ true
  flag : saved_flag saved ≡ byte_at bytes 2
  mask : four_bytes (saved_mask saved) ≡ take 4 (drop 8 bytes)

saved_set : (bytes : List ℕ) → Whole bytes → nat_eq (byte_at bytes 2) 1 ≡ true
    → SavedBack bytes (Some (word_at bytes 8))
saved_set bytes whole set = record {
  legal = mask_at bytes 8 whole (omega arith) (λ j h.
      sym (ap (λ t. (if t then fits_mask j (byte_at bytes (8 + j)) else nat_eq (byte_at bytes (8 + j)) 0)) set)
      ∙ saved_part bytes j whole h);
  flag = sym (eqb-true (byte_at bytes 2) 1 set);
  mask = four_back bytes 8 whole (omega arith);
}

saved_clear : (bytes : List ℕ) → Whole bytes → nat_eq (byte_at bytes 2) 1 ≡ false → SavedBack bytes None
saved_clear bytes whole clear =
    let zero_at : (j : ℕ) → j < 4 → byte_at bytes (8 + j) ≡ 0 = λ j h. eqb-true (byte_at bytes (8 + j)) 0
    (sym (ap (λ t. (if t then fits_mask j (byte_at bytes (8 + j)) else nat_eq (byte_at bytes (8 + j)) 0)) clear)
    ∙ saved_part bytes j whole h) in
    let most = leb-true (byte_at bytes 2) 1 (head_byte bytes 2 whole (omega arith)) in
    let other = eqb-false (byte_at bytes 2) 1 clear in
    let a = zero_at 0 (omega arith) in
    let b = zero_at 1 (omega arith) in
    let c = zero_at 2 (omega arith) in
    let d = zero_at 3 (omega arith) in
    record {
      legal = refl;
      flag = omega (arith, most, other);
      mask = sym (four_there bytes 8 (omega (arith, whole.size)) ∙ rw (a, b, c, d) refl);
    }

saved_back : (bytes : List ℕ) → Whole bytes → SavedBack bytes (saved_in bytes)
saved_back bytes whole = rw (flags_same bytes whole) (by_flag (nat_eq (byte_at bytes 2) 1) refl)
  where
    by_flag : (t : Bool) → nat_eq (byte_at bytes 2) 1 ≡ t → SavedBack bytes (if t then Some (word_at bytes 8) else None)
    by_flag true e = saved_set bytes whole e
    by_flag false e = saved_clear bytes whole e

-- the fields that the bytes tell are legal
owed_small : (bytes : List ℕ) → Whole bytes → word_at bytes 12 ≤ 65535
owed_small bytes whole =
    let a = eqb-true (byte_at bytes 14) 0
    (sym (fits_past_owed bytes 14 (byte_at bytes 14) (omega arith) (omega arith)) ∙ whole.fit 14 (omega arith)) in
    let b = eqb-true (byte_at bytes 15) 0
    (sym (fits_past_owed bytes 15 (byte_at bytes 15) (omega arith) (omega arith)) ∙ whole.fit 15 (omega arith)) in
    omega (
      arith,
      word_there bytes 12 (omega (arith, whole.size)),
      a,
      b,
      small_at bytes whole 12 (omega arith),
      small_at bytes whole 13 (omega arith),
    )

fields_legal : (bytes : List ℕ) → Whole bytes → IsHeap (heap_in bytes)
fields_legal bytes whole =
    let count = count_of bytes whole in
    let number : length (heap_in bytes).children ≡ byte_at bytes 156
    = length-map-range_with_len (λ i. child_at bytes (160 + 4 * i)) 0 (word_at bytes 156) ∙ count.same in
    record {
      mask = mask_at bytes 4 whole (omega arith) (λ j h. mask_part bytes j whole h);
      saved = (saved_back bytes whole).legal;
      owed = le-leb (word_at bytes 12) 65535 (owed_small bytes whole);
      action_count = refl;
      actions = actions_read_legal (λ s. action_at bytes (12 + 4 * s)) 1 31
          (λ k l h. (action_back bytes k whole l (omega arith)).1);
      base_count = refl;
      bases = all_read is_base (λ m. half_at bytes (140 + 2 * m)) 0 8
          (λ k l h. (base_back bytes k whole (omega arith)).1);
      child_count = le-leb (length (heap_in bytes).children) 32 (omega (arith, number, count.few));
      children = all_read is_child (λ i. child_at bytes (160 + 4 * i)) 0 (word_at bytes 156)
          (λ k l h. (child_back bytes k whole (omega (arith, count.same)) (omega (arith, count.same, count.few))).1);
    }

-- and their layout is the bytes
two_small : (b : ℕ) → b ≤ 1 → two_bytes b ≡ b ∷ 0 ∷ []
two_small zero h = refl
two_small (suc zero) h = refl
two_small (suc (suc k)) h = absurd (omega arith)

first_piece : (bytes : List ℕ) → Whole bytes → two_bytes 1 ++ two_bytes (saved_flag (saved_in bytes))
    ≡ take 4 (drop 0 bytes)
first_piece bytes whole =
    let a = eqb-true (byte_at bytes 0) 1 (head_byte bytes 0 whole (omega arith)) in
    let b = eqb-true (byte_at bytes 1) 0 (head_byte bytes 1 whole (omega arith)) in
    let flag = leb-true (byte_at bytes 2) 1 (head_byte bytes 2 whole (omega arith)) in
    let d = eqb-true (byte_at bytes 3) 0 (head_byte bytes 3 whole (omega arith)) in
    ap (λ f. two_bytes 1 ++ two_bytes f) (saved_back bytes whole).flag
    ∙ ap (λ rest. two_bytes 1 ++ rest) (two_small (byte_at bytes 2) flag)
    ∙ sym (four_there bytes 0 (omega (arith, whole.size)) ∙ rw (a, b, d) refl)

head_piece : (bytes : List ℕ) → Whole bytes
    → head_of (word_at bytes 4) (word_at bytes 12) (saved_in bytes)
    ≡ take 4 (drop 0 bytes) ++ take 4 (drop 4 bytes) ++ take 4 (drop 8 bytes) ++ take 4 (drop 12 bytes)
unfolding head_of
head_piece bytes whole =
    ap (λ x. x ++ four_bytes (word_at bytes 4) ++ four_bytes (saved_mask (saved_in bytes)) ++ four_bytes
    (word_at bytes 12))
    (first_piece bytes whole)
    ∙ ap (λ x. take 4 (drop 0 bytes) ++ x ++ four_bytes (saved_mask (saved_in bytes)) ++ four_bytes (word_at bytes 12))
    (four_back bytes 4 whole (omega arith))
    ∙ ap (λ x. take 4 (drop 0 bytes) ++ take 4 (drop 4 bytes) ++ x ++ four_bytes (word_at bytes 12))
    (saved_back bytes whole).mask
    ∙ ap (λ x. take 4 (drop 0 bytes) ++ take 4 (drop 4 bytes) ++ take 4 (drop 8 bytes) ++ x)
    (four_back bytes 12 whole (omega arith))

zeros_from : (m p : ℕ) (xs : List ℕ) → length xs ≡ p + m → ((k : ℕ) → p ≤ k → k < p + m → byte_at xs k ≡ 0)
    → replicate m 0 ≡ drop p xs
zeros_from zero p xs size none = sym (drop_of_length-le xs (omega arith))
zeros_from (suc m) p xs size none =
    let here = none p (omega arith) (omega arith) in
    let rest = zeros_from m (p + 1) xs (omega arith) (λ k l h. none k (omega arith) (omega arith)) in
    sym (drop_next xs p (omega arith) ∙ ap (λ b. b ∷ drop (p + 1) xs) here ∙ ap (λ others. 0 ∷ others) (sym rest))

zero_past : (bytes : List ℕ) (k : ℕ) → Whole bytes → 160 + 4 * byte_at bytes 156 ≤ k → k < 288 → byte_at bytes k ≡ 0
zero_past bytes k whole l h =
    let past : byte_at bytes 156 ≤ k / 4 - 40 = omega arith in
    let there = sym (fits_in_children bytes k (byte_at bytes k) (omega arith)) ∙ whole.fit k h in
    eqb-true (byte_at bytes k) 0
    (sym (ap (λ t. (if t then fits_child (byte_at bytes (k - 1)) (k % 4) (byte_at bytes k) else nat_eq
    (byte_at bytes k) 0))
    (le-ltb (k / 4 - 40) (byte_at bytes 156) past)) ∙ there)

join : (a p : ℕ) (bytes : List ℕ) → take a (drop p bytes) ++ drop (p + a) bytes ≡ drop p bytes
join a p bytes = ap (λ rest. take a (drop p bytes) ++ rest) (sym (drop-drop a p bytes))
    ∙ take-append-drop a (drop p bytes)

tail_piece : (bytes : List ℕ) → Whole bytes → tail_of (heap_in bytes) ≡ drop 160 bytes
unfolding tail_of
tail_piece bytes whole =
    let count = count_of bytes whole in
    let w : ℕ = word_at bytes 156 in
    let number : length (heap_in bytes).children ≡ w = length-map-range_with_len (λ i. child_at bytes (160 + 4 * i)) 0
    w in
    let left = zeros_from (4 * (32 - w)) (160 + 4 * w) bytes (omega (arith, count.same, count.few, whole.size))
    (λ k l h. zero_past bytes k whole (omega (arith, count.same)) (omega (arith, count.same, count.few))) in
    let written = write_all 4 child_bytes child_at bytes 160 0 w
    (λ k l h. (child_back bytes k whole (omega (arith, count.same)) (omega (arith, count.same, count.few))).0) in
    ap (λ n. flat_map child_bytes (heap_in bytes).children ++ replicate (4 * (32 - n)) 0) number
    ∙ ap (λ front. front ++ replicate (4 * (32 - w)) 0) written
    ∙ ap (λ back. take (4 * w) (drop 160 bytes) ++ back) left
    ∙ join (4 * w) 160 bytes

layout_back : (bytes : List ℕ) → Whole bytes → heap_bytes (heap_in bytes) ≡ bytes
layout_back bytes whole =
    let w : ℕ = word_at bytes 156 in
    let number : length (heap_in bytes).children ≡ w = length-map-range_with_len (λ i. child_at bytes (160 + 4 * i)) 0
    w in
    let actions = write_all 4 action_bytes action_at bytes 12 1 31
    (λ k l h. (action_back bytes k whole l (omega arith)).0) in
    let bases = write_all 2 two_bytes half_at bytes 140 0 8 (λ k l h. (base_back bytes k whole (omega arith)).0) in
    let from_156 : four_bytes (length (heap_in bytes).children) ++ tail_of (heap_in bytes) ≡ drop 156 bytes
    = ap (λ n. four_bytes n ++ tail_of (heap_in bytes)) number
    ∙ ap (λ back. four_bytes w ++ back) (tail_piece bytes whole)
    ∙ ap (λ front. front ++ drop 160 bytes) (four_back bytes 156 whole (omega arith)) ∙ join 4 156 bytes in
    let from_140 : flat_map two_bytes (heap_in bytes).bases
    ++ (four_bytes (length (heap_in bytes).children) ++ tail_of (heap_in bytes)) ≡ drop 140 bytes
    = ap (λ back. flat_map two_bytes (heap_in bytes).bases ++ back) from_156
    ∙ ap (λ front. front ++ drop 156 bytes) bases ∙ join 16 140 bytes in
    let from_16 : flat_map action_bytes (heap_in bytes).actions ++ (flat_map two_bytes (heap_in bytes).bases
    ++ (four_bytes (length (heap_in bytes).children) ++ tail_of (heap_in bytes))) ≡ drop 16 bytes
    = ap (λ back. flat_map action_bytes (heap_in bytes).actions ++ back) from_140
    ∙ ap (λ front. front ++ drop 140 bytes) actions ∙ join 124 16 bytes in
    around_actions (heap_in bytes)
    ∙ ap (λ back. head_of (word_at bytes 4) (word_at bytes 12) (saved_in bytes) ++ back) from_16
    ∙ ap (λ front. front ++ drop 16 bytes) (head_piece bytes whole)
    ∙ append_assoc (take 4 (drop 0 bytes) ++ take 4 (drop 4 bytes) ++ take 4 (drop 8 bytes)) (take 4 (drop 12 bytes))
    (drop 16 bytes)
    ∙ ap (λ back. (take 4 (drop 0 bytes) ++ take 4 (drop 4 bytes) ++ take 4 (drop 8 bytes)) ++ back) (join 4 12 bytes)
    ∙ append_assoc (take 4 (drop 0 bytes) ++ take 4 (drop 4 bytes)) (take 4 (drop 8 bytes)) (drop 12 bytes)
    ∙ ap (λ back. (take 4 (drop 0 bytes) ++ take 4 (drop 4 bytes)) ++ back) (join 4 8 bytes)
    ∙ append_assoc (take 4 (drop 0 bytes)) (take 4 (drop 4 bytes)) (drop 8 bytes)
    ∙ ap (λ back. take 4 (drop 0 bytes) ++ back) (join 4 4 bytes)
    ∙ join 4 0 bytes

-- 288 bytes that fit are those of the cygheap that they tell
pub fit_is_heap : (bytes : List ℕ) → length bytes ≡ 288 → FitBelow bytes 288 → IsHeapBytes bytes
fit_is_heap bytes size fit =
    let whole : Whole bytes = record { size = size; fit = fit } in
    record { fields = heap_in bytes; legal = fields_legal bytes whole; layout = sym (layout_back bytes whole) }
