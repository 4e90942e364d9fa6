-- What was written one after another is read one after another.
use Rattle.std.specs.Prelude.{◌≡◌, ℕ, Bool, true, ◌+◌, ◌*◌, List, [], ◌∷◌, ◌++◌, length, map, flat_map, take}
use Rattle.std.specs.Int.{w16, w32, from_le_bytes}
use Rattle.std.specs.List.{range_with_len, list_all}
use Rattle.std.proofs.Common.{refl, sym, ◌∙◌, ap, subst, arith, append_assoc, length-append}
use Rattle.std.proofs.Math.Seq.{drop-append-add}
use Rattle.std.proofs.lemmas.Bool.{and_parts}
use Rattle.std.proofs.lemmas.List.{get_or-append-add}
use Rattle.vm_spec.specs.Image.{word_at}
use Rattle.layer_spec.specs.HeapReads.{byte_at, half_at}

-- reading behind other bytes
pub byte_at-behind : (before bytes : List ℕ) (n : ℕ) → byte_at (before ++ bytes) (length before + n) ≡ byte_at bytes n
byte_at-behind before bytes n = get_or-append-add before bytes n 0

pub half_at-behind : (before bytes : List ℕ) (n : ℕ) → half_at (before ++ bytes) (length before + n) ≡ half_at bytes n
unfolding half_at
half_at-behind before bytes n = ap (λ rest. from_le_bytes w16 (take 2 rest)) (drop-append-add before bytes n)

pub word_at-behind : (before bytes : List ℕ) (n : ℕ) → word_at (before ++ bytes) (length before + n) ≡ word_at bytes n
unfolding word_at
word_at-behind before bytes n = ap (λ rest. from_le_bytes w32 (take 4 rest)) (drop-append-add before bytes n)

-- and right behind them
pub byte_at-seam : (before bytes : List ℕ) → byte_at (before ++ bytes) (length before) ≡ byte_at bytes 0
byte_at-seam before bytes =
    subst (λ (n : ℕ). byte_at (before ++ bytes) n ≡ byte_at bytes 0) (omega arith) (byte_at-behind before bytes 0)

pub half_at-seam : (before bytes : List ℕ) → half_at (before ++ bytes) (length before) ≡ half_at bytes 0
half_at-seam before bytes =
    subst (λ (n : ℕ). half_at (before ++ bytes) n ≡ half_at bytes 0) (omega arith) (half_at-behind before bytes 0)

pub word_at-seam : (before bytes : List ℕ) → word_at (before ++ bytes) (length before) ≡ word_at bytes 0
word_at-seam before bytes =
    subst (λ (n : ℕ). word_at (before ++ bytes) n ≡ word_at bytes 0) (omega arith) (word_at-behind before bytes 0)

-- A way of reading an element at a place, which finds what was written there.
pub record ReadsBack {X : Type 0} (size : ℕ) (is_fit : X → Bool) (encode : X → List ℕ)
    (read : List ℕ → ℕ → X) : Type 0 where
  pub sized : (x : X) → length (encode x) ≡ size
  pub found : (before after : List ℕ) (x : X) → is_fit x ≡ true
      → read (before ++ (encode x ++ after)) (length before) ≡ x

pub read_all : {X : Type 0} (size : ℕ) (is_fit : X → Bool) (encode : X → List ℕ) (read : List ℕ → ℕ → X)
    → ReadsBack size is_fit encode read → (base start : ℕ) (xs : List X) (before after : List ℕ)
    → list_all is_fit xs ≡ true
    → length before ≡ base + size * start
    → map (λ k. read (before ++ (flat_map encode xs ++ after)) (base + size * k))
    (range_with_len start (length xs)) ≡ xs
read_all size is_fit encode read law base start [] before after fits e = refl
read_all {X} size is_fit encode read law base start (x ∷ xs) before after fits e =
    let rest : List ℕ = flat_map encode xs in
    let fits_now = and_parts (is_fit x) (list_all is_fit xs) fits in
    let inner : (encode x ++ rest) ++ after ≡ encode x ++ (rest ++ after) = append_assoc (encode x) rest after in
    let whole : before ++ ((encode x ++ rest) ++ after) ≡ (before ++ encode x) ++ (rest ++ after)
    = ap (λ bytes. before ++ bytes) inner ∙ sym (append_assoc before (encode x) (rest ++ after)) in
    let head : read (before ++ ((encode x ++ rest) ++ after)) (base + size * start) ≡ x
    = rw inner (subst (λ (n : ℕ). read (before ++ (encode x ++ (rest ++ after))) n ≡ x) e
    (law.found before (rest ++ after) x fits_now.0)) in
    let further : length (before ++ encode x) ≡ base + size * (start + 1)
    = omega (arith, length-append before (encode x), law.sized x, e) in
    let tail = ap (λ bytes. map (λ k. read bytes (base + size * k)) (range_with_len (start + 1) (length xs))) whole
    ∙ read_all size is_fit encode read law base (start + 1) xs (before ++ encode x) after fits_now.1 further in
    ap (λ (first : X). first ∷ map (λ k. read (before ++ ((encode x ++ rest) ++ after)) (base + size * k))
    (range_with_len (start + 1) (length xs))) head
    ∙ ap (λ (others : List X). x ∷ others) tail
