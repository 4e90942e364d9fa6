-- What bytes that fit are, one by one.
use Rattle.std.specs.Prelude.{◌≡◌, ℕ, zero, suc, ◌+◌, ◌-◌, ◌*◌, ◌/◌, ◌%◌, ◌^◌, ◌≤◌, ◌<◌, Bool, true, false, nat_eq}
use Rattle.std.specs.Prelude.{nat_le, nat_lt, if◌then◌else◌, List, [], ◌∷◌, length, take, drop, bit_and}
use Rattle.std.specs.Int.{w16, w32, from_le_bytes}
use Rattle.std.proofs.Common.{inl, inr, refl, sym, ◌∙◌, ap, arith, get_or, drop-cons}
use Rattle.std.proofs.lemmas.Nat.{le_bytes_2, le_bytes_4, and-not, and_block, and_comm}
use Rattle.std.proofs.lemmas.Nat.Bits.{and_pow}
use Rattle.std.proofs.lemmas.Bool.{cases_lt, ltb-true, leb-true, eqb-true, eq-eqb}
use Rattle.std.proofs.lemmas.Bool.Decides.{nat_tests}
use Rattle.posix_spec.specs.Signals.{clean_mask}
use Rattle.vm_spec.specs.Image.{word_at}
use Rattle.layer_spec.specs.Heap.{is_mask, two_bytes, four_bytes}
use Rattle.layer_spec.specs.HeapReads.{byte_at, half_at}
use Rattle.layer_spec.specs.HeapBreaks.{is_byte, fits_head, fits_mask, fits_action, fits_child, fits_at}
use Rattle.layer_spec.specs.BreakParts.{fits_in_head, fits_in_mask, fits_in_saved, fits_in_owed, fits_past_owed}
use Rattle.layer_spec.specs.BreakParts.{fits_in_actions, fits_in_bases, fits_in_count, fits_in_children}

head_small : (i b : ℕ) → fits_head i b ≡ true → b < 256
head_small i b h = grind (arith, nat_tests)

mask_small : (j b : ℕ) → fits_mask j b ≡ true → b < 256
mask_small j b h = grind (arith, nat_tests)

saved_small : (c : Bool) (j b : ℕ) → (if c then fits_mask j b else nat_eq b 0) ≡ true → b < 256
saved_small true j b h = mask_small j b h
saved_small false j b h = let e : b ≡ 0 = eqb-true b 0 h in omega arith

action_small : (s kind j b : ℕ) → fits_action s kind j b ≡ true → b < 256
action_small s kind j b h = grind (arith, nat_tests)

base_small : (c : Bool) (b : ℕ) → (if c then is_byte b else nat_le b 3) ≡ true → b < 256
base_small true b h = ltb-true b 256 h
base_small false b h = let e : b ≤ 3 = leb-true b 3 h in omega arith

count_small : (c : Bool) (b : ℕ) → (if c then nat_le b 32 else nat_eq b 0) ≡ true → b ≤ 32
count_small true b h = leb-true b 32 h
count_small false b h = let e : b ≡ 0 = eqb-true b 0 h in omega arith

child_small : (low j b : ℕ) → fits_child low j b ≡ true → b < 256
child_small low j b h = grind (arith, nat_tests)

tail_small : (c : Bool) (low j b : ℕ) → (if c then fits_child low j b else nat_eq b 0) ≡ true → b < 256
tail_small true low j b h = child_small low j b h
tail_small false low j b h = let e : b ≡ 0 = eqb-true b 0 h in omega arith

-- the mask from what its bytes lack
pub mask_from_bits : (m : ℕ) → m < 2 ^ 31 → m / 256 % 2 ≡ 0 → m / 262144 % 2 ≡ 0 → is_mask m ≡ true
mask_from_bits m below kill stop =
    let low : ℕ = m % 512 in
    let high : ℕ = m / 512 in
    let parts : high * 2 ^ 9 + low ≡ m = omega arith in
    let blocks : bit_and (512 * 2 ^ 9 + 256) (high * 2 ^ 9 + low) ≡ bit_and 512 high * 2 ^ 9 + bit_and 256 low
    = and_block 9 512 high 256 low (omega arith) (omega arith) in
    let first : bit_and 512 high ≡ 0 = and_comm 512 high ∙ and_pow high 9 ∙ omega arith in
    let second : bit_and 256 low ≡ 0 = and_comm 256 low ∙ and_pow low 8 ∙ omega arith in
    let none : bit_and 262400 m ≡ 0 = ap (bit_and 262400) (sym parts) ∙ blocks ∙ omega (arith, first, second) in
    let same : bit_and 2147221247 m + bit_and 262400 m ≡ m = and-not 31 262400 m (omega arith) below in
    let whole : clean_mask m ≡ m = and_comm m 2147221247 ∙ omega arith in
    eq-eqb (clean_mask m) m whole

pub fit_small : (bytes : List ℕ) (i b : ℕ) → fits_at bytes i b ≡ true → b < 256
fit_small bytes i b h = elim (cases_lt i 8) [
  | inl to_8 ↦ elim (cases_lt i 4) [
    | inl head ↦ head_small i b (sym (fits_in_head bytes i b head) ∙ h)
    | inr mask ↦ mask_small (i - 4) b (sym (fits_in_mask bytes i b mask to_8) ∙ h)
  ]
  | inr from_8 ↦ elim (cases_lt i 12) [
    | inl saved ↦ saved_small (nat_eq (byte_at bytes 2) 1) (i - 8) b (sym (fits_in_saved bytes i b from_8 saved) ∙ h)
    | inr from_12 ↦ elim (cases_lt i 16) [
      | inl owed ↦ elim (cases_lt i 14) [
        | inl low ↦ ltb-true b 256 (sym (fits_in_owed bytes i b from_12 low) ∙ h)
        | inr high ↦ let e : b ≡ 0 = eqb-true b 0 (sym (fits_past_owed bytes i b high owed) ∙ h) in omega arith
      ]
      | inr from_16 ↦ elim (cases_lt i 140) [
        | inl actions ↦ action_small (i / 4 - 3) (byte_at bytes (i - i % 4)) (i % 4) b
            (sym (fits_in_actions bytes i b from_16 actions) ∙ h)
        | inr from_140 ↦ elim (cases_lt i 156) [
          | inl bases ↦ base_small (nat_eq (i % 2) 0) b (sym (fits_in_bases bytes i b from_140 bases) ∙ h)
          | inr from_156 ↦ elim (cases_lt i 160) [
            | inl count ↦
                let few : b ≤ 32 = count_small (nat_eq i 156) b (sym (fits_in_count bytes i b from_156 count) ∙ h) in
                omega arith
            | inr from_160 ↦ tail_small (nat_lt (i / 4 - 40) (byte_at bytes 156)) (byte_at bytes (i - 1)) (i % 4) b
                (sym (fits_in_children bytes i b from_160) ∙ h)
          ]
        ]
      ]
    ]
  ]
]

-- the bytes from a place on, one by one
pub drop_next : (xs : List ℕ) (p : ℕ) → p < length xs → drop p xs ≡ byte_at xs p ∷ drop (p + 1) xs
drop_next xs p h =
    let next : suc p ≡ p + 1 = omega arith in drop-cons xs p 0 h ∙ ap (λ n. byte_at xs p ∷ drop n xs) next

pub two_there : (xs : List ℕ) (p : ℕ) → p + 2 ≤ length xs → take 2 (drop p xs) ≡ byte_at xs p ∷ byte_at xs (p + 1) ∷ []
two_there xs p h =
    ap (take 2) (drop_next xs p (omega arith))
    ∙ ap (λ rest. byte_at xs p ∷ take 1 rest) (drop_next xs (p + 1) (omega arith))

pub four_there : (xs : List ℕ) (p : ℕ) → p + 4 ≤ length xs
    → take 4 (drop p xs) ≡ byte_at xs p ∷ byte_at xs (p + 1) ∷ byte_at xs (p + 2) ∷ byte_at xs (p + 3) ∷ []
four_there xs p h =
    let two : p + 1 + 1 ≡ p + 2 = omega arith in
    let three : p + 2 + 1 ≡ p + 3 = omega arith in
    ap (take 4) (drop_next xs p (omega arith))
    ∙ ap (λ rest. byte_at xs p ∷ take 3 rest) (drop_next xs (p + 1) (omega arith)
    ∙ ap (λ n. byte_at xs (p + 1) ∷ drop n xs) two)
    ∙ ap (λ rest. byte_at xs p ∷ byte_at xs (p + 1) ∷ take 2 rest) (drop_next xs (p + 2) (omega arith)
    ∙ ap (λ n. byte_at xs (p + 2) ∷ drop n xs) three)
    ∙ ap (λ rest. byte_at xs p ∷ byte_at xs (p + 1) ∷ byte_at xs (p + 2) ∷ take 1 rest)
    (drop_next xs (p + 3) (omega arith))

-- two and four bytes are those of the number that they are read as
pub two_of : (n a b : ℕ) → a < 256 → b < 256 → n ≡ from_le_bytes w16 (a ∷ b ∷ []) → two_bytes n ≡ a ∷ b ∷ []
two_of n a b ha hb e = le_bytes_2 (a ∷ b ∷ []) n refl small e
  where
    small : (i : ℕ) → get_or (a ∷ b ∷ []) i 0 < 256
    small zero = ha
    small (suc zero) = hb
    small (suc (suc k)) = omega arith

pub four_of : (n a b c d : ℕ) → a < 256 → b < 256 → c < 256 → d < 256 → n ≡ from_le_bytes w32 (a ∷ b ∷ c ∷ d ∷ [])
    → four_bytes n ≡ a ∷ b ∷ c ∷ d ∷ []
four_of n a b c d ha hb hc hd e = le_bytes_4 (a ∷ b ∷ c ∷ d ∷ []) n refl small e
  where
    small : (i : ℕ) → get_or (a ∷ b ∷ c ∷ d ∷ []) i 0 < 256
    small zero = ha
    small (suc zero) = hb
    small (suc (suc zero)) = hc
    small (suc (suc (suc zero))) = hd
    small (suc (suc (suc (suc k)))) = omega arith

pub half_there : (xs : List ℕ) (p : ℕ) → p + 2 ≤ length xs → half_at xs p ≡ byte_at xs p + 256 * byte_at xs (p + 1)
unfolding half_at
half_there xs p h = ap (from_le_bytes w16) (two_there xs p h) ∙ omega arith

pub word_there : (xs : List ℕ) (p : ℕ) → p + 4 ≤ length xs
    → word_at xs p ≡ byte_at xs p + 256 * byte_at xs (p + 1) + 65536 * byte_at xs (p + 2) + 16777216 * byte_at xs
    (p + 3)
unfolding word_at
word_there xs p h = ap (from_le_bytes w32) (four_there xs p h) ∙ omega arith
