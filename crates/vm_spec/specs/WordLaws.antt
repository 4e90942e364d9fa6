-- Numbers in four bytes of a list.
use Rattle.std.proofs.Common.{◌≡◌, ℕ, ◌+◌, ◌-◌, ◌/◌, ◌%◌, ◌^◌, ◌≤◌, ◌<◌, List, ◌++◌, length, take, drop, get_or, refl}
use Rattle.std.proofs.Common.{sym, ◌∙◌, ap, arith, length-append, length-take, length-drop}
use Rattle.std.proofs.lemmas.List.{length-take-le, drop-append-le, drop_at, get_or_append_left, get_or-append_right}
use Rattle.std.proofs.lemmas.List.{get_or-take, get_or-drop}
use Rattle.std.proofs.lemmas.Nat.{from_le_bytes-to_le_bytes_4}
use Rattle.std.specs.Int.{w32, to_le_bytes, from_le_bytes}
use Rattle.vm_spec.specs.Image.{word_at, with_word}

-- what is written is the low 32 bits
bytes_wrapped : (n : ℕ) → to_le_bytes w32 (n % 2 ^ 32) ≡ to_le_bytes w32 n
bytes_wrapped n =
    let e0 : n % 2 ^ 32 % 256 ≡ n % 256 = omega arith in
    let e1 : n % 2 ^ 32 / 256 % 256 ≡ n / 256 % 256 = omega arith in
    let e2 : n % 2 ^ 32 / 65536 % 256 ≡ n / 65536 % 256 = omega arith in
    let e3 : n % 2 ^ 32 / 16777216 % 256 ≡ n / 16777216 % 256 = omega arith in
    rw (e0, e1, e2, e3) refl

pub with_word-wrapped : (xs : List ℕ) (place n : ℕ) → with_word xs place (n % 2 ^ 32) ≡ with_word xs place n
unfolding with_word
with_word-wrapped xs place n = ap (λ bytes. take place xs ++ bytes ++ drop (place + 4) xs) (bytes_wrapped n)

pub length-with_word : (xs : List ℕ) (place n : ℕ) → place + 4 ≤ length xs → length (with_word xs place n) ≡ length xs
unfolding with_word
length-with_word xs place n h = simp (length-append, length-take, length-drop) (omega arith)

-- what is written is read there
pub word_at-with_word : (xs : List ℕ) (place n : ℕ) → place + 4 ≤ length xs → n < 2 ^ 32 →
    word_at (with_word xs place n) place ≡ n
unfolding word_at with_word
word_at-with_word xs place n h fits =
    let front : length (take place xs) ≡ place = length-take-le place xs (omega arith) in
    let room : place ≤ length (take place xs ++ to_le_bytes w32 n) = omega
    (arith, front, length-append (take place xs) (to_le_bytes w32 n)) in
    let rest : drop place (take place xs ++ to_le_bytes w32 n ++ drop (place + 4) xs) ≡ to_le_bytes w32 n ++ drop
    (place + 4) xs =
    drop-append-le place (take place xs ++ to_le_bytes w32 n) (drop (place + 4) xs) room
    ∙ ap (λ bytes. bytes ++ drop (place + 4) xs) (drop_at (take place xs) (to_le_bytes w32 n) place front)
    in
    ap (λ bytes. from_le_bytes w32 (take 4 bytes)) rest ∙ from_le_bytes-to_le_bytes_4 n fits

-- a byte before the four that are written, or after them
byte_before : (xs : List ℕ) (place n i : ℕ) → place + 4 ≤ length xs → i < place →
    get_or (with_word xs place n) i 0 ≡ get_or xs i 0
unfolding with_word
byte_before xs place n i h l =
    let front : length (take place xs) ≡ place = length-take-le place xs (omega arith) in
    let a : i < length (take place xs) = omega arith in
    let b : i < length (take place xs ++ to_le_bytes w32 n) = omega
    (arith, front, length-append (take place xs) (to_le_bytes w32 n)) in
    get_or_append_left (take place xs ++ to_le_bytes w32 n) (drop (place + 4) xs) 0 i b
    ∙ get_or_append_left (take place xs) (to_le_bytes w32 n) 0 i a
    ∙ get_or-take place xs i 0 l

byte_after : (xs : List ℕ) (place n i : ℕ) → place + 4 ≤ length xs → place + 4 ≤ i →
    get_or (with_word xs place n) i 0 ≡ get_or xs i 0
unfolding with_word
byte_after xs place n i h l =
    let front : length (take place xs) ≡ place = length-take-le place xs (omega arith) in
    let b : length (take place xs ++ to_le_bytes w32 n) ≡ place + 4 = omega
    (arith, front, length-append (take place xs) (to_le_bytes w32 n)) in
    let e : place + 4 + (i - (place + 4)) ≡ i = omega arith in
    get_or-append_right (take place xs ++ to_le_bytes w32 n) (drop (place + 4) xs) (place + 4) i 0 b l
    ∙ get_or-drop (place + 4) xs (i - (place + 4)) 0
    ∙ ap (λ k. get_or xs k 0) e

-- a number is told by its four bytes
word_at-bytes : (xs ys : List ℕ) (q : ℕ) → ((k : ℕ) → k < 4 → get_or xs (q + k) 0 ≡ get_or ys (q + k) 0) →
    word_at xs q ≡ word_at ys q
unfolding word_at
word_at-bytes xs ys q same =
    let at : (k : ℕ) → k < 4 → get_or (take 4 (drop q xs)) k 0 ≡ get_or (take 4 (drop q ys)) k 0 =
    λ k l. get_or-take 4 (drop q xs) k 0 l ∙ get_or-drop q xs k 0 ∙ same k l
    ∙ sym (get_or-drop q ys k 0) ∙ sym (get_or-take 4 (drop q ys) k 0 l)
    in
    omega (arith, at 0 (omega arith), at 1 (omega arith), at 2 (omega arith), at 3 (omega arith))

-- a number in four other bytes stays
pub word_at-with_word_below : (xs : List ℕ) (place n q : ℕ) → place + 4 ≤ length xs → q + 4 ≤ place →
    word_at (with_word xs place n) q ≡ word_at xs q
word_at-with_word_below xs place n q h l =
    word_at-bytes (with_word xs place n) xs q (λ k m. byte_before xs place n (q + k) h (omega arith))

pub word_at-with_word_above : (xs : List ℕ) (place n q : ℕ) → place + 4 ≤ length xs → place + 4 ≤ q →
    word_at (with_word xs place n) q ≡ word_at xs q
word_at-with_word_above xs place n q h l =
    word_at-bytes (with_word xs place n) xs q (λ k m. byte_after xs place n (q + k) h (omega arith))
