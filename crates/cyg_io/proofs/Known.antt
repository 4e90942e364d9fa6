-- Known bytes over several calls.
use Rattle.std.proofs.Common.{◌≡◌, ℕ, ◌+◌, ◌-◌, ◌^◌, ◌≤◌, min, max, List, [], ◌++◌, length, take, drop, Option, None}
use Rattle.std.proofs.Common.{Some, IfSome, sym, ◌∙◌, ap, arith, append_assoc, length-append, subst}
use Rattle.std.proofs.lemmas.List.{length-take-le, drop_at, nil_from_length}
use Rattle.std.proofs.Math.Seq.{take-add}
use Rattle.std.proofs.KnownBytes.{Consumes-kept}
use Rattle.std.specs.Io.KnownBytes.{Appends, Consumes, Keeps}
use Rattle.cyg_io.specs.Counts.{RoseBy}
use Rattle.cyg_io.specs.Source.{Draws}

-- what two writes append
Appends-append : (a b c : Option (List ℕ)) (xs ys : List ℕ) → Appends a b xs → Appends b c ys → Appends a c (xs ++ ys)
Appends-append None b c xs ys first second = tt
Appends-append (Some p) None c xs ys first second = absurd first
Appends-append (Some p) (Some q) None xs ys first second = absurd second
Appends-append (Some p) (Some q) (Some r) xs ys first second =
    second ∙ ap (λ (l : List ℕ). l ++ ys) first ∙ append_assoc p xs ys

-- the first i bytes, and then n more
pub Appends-more : (a b c : Option (List ℕ)) (i n : ℕ) (piece rest : List ℕ) → rest ≡ drop i piece
    → Appends a b (take i piece) → Appends b c (take n rest) → Appends a c (take (i + n) piece)
Appends-more a b c i n piece rest is first second =
    subst (λ (l : List ℕ). Appends a c l)
    (ap (λ (l : List ℕ). take i piece ++ take n l) is ∙ sym (take-add i n piece))
    (Appends-append a b c (take i piece) (take n rest) first second)

-- what two reads consume
pub Consumes-append : (a b c : Option (List ℕ)) (xs ys : List ℕ) → Consumes a b xs → Consumes b c ys
    → Consumes a c (xs ++ ys)
Consumes-append None b c xs ys first second = tt
Consumes-append (Some p) None c xs ys first second = absurd first
Consumes-append (Some p) (Some q) None xs ys first second = absurd second
Consumes-append (Some p) (Some q) (Some r) xs ys first second =
    first ∙ ap (λ (l : List ℕ). xs ++ l) second ∙ sym (append_assoc xs ys r)

-- bytes that are consumed are the first, and they are gone
gone : (a c : Option (List ℕ)) (xs : List ℕ) (n : ℕ) → length xs ≡ n → Consumes a c xs
    → IfSome a (λ left. (n ≤ length left) × (c ≡ Some (drop n left)))
gone None c xs n size consumed = tt
gone (Some p) None xs n size consumed = absurd consumed
gone (Some p) (Some r) xs n size consumed = (
  omega (arith, ap length consumed, length-append xs r),
  ap (λ (l : List ℕ). Some l) (sym (ap (λ (l : List ℕ). drop n l) consumed ∙ drop_at xs r n size)),
)

-- the bytes read so far, and then n more
pub Draws-more : (a b c : Option (List ℕ)) (xs buf : List ℕ) (had n all g0 g1 g2 : ℕ) → length xs ≡ had
    → Consumes a b xs → Consumes b c (take n buf) → n ≤ length buf
    → g1 ≡ min (g0 + had) (max g0 (2 ^ 64 - 1)) → RoseBy n g1 g2 → g0 ≤ 2 ^ 64 - 1 → all ≡ had + n → Draws all a c g0 g2
Draws-more a b c xs buf had n all g0 g1 g2 counted first second within so_far more in_range sum =
    let size : length (xs ++ take n buf) ≡ all =
    omega (arith, length-append xs (take n buf), length-take-le n buf within) in
    record {
      bytes = gone a c (xs ++ take n buf) all size (Consumes-append a b c xs (take n buf) first second);
      count = omega arith;
    }

-- the bytes read so far, and then a fault
pub Draws-kept : (a b c : Option (List ℕ)) (xs : List ℕ) (had g0 g1 g2 : ℕ) → length xs ≡ had → Consumes a b xs
    → Keeps b c → g1 ≡ min (g0 + had) (max g0 (2 ^ 64 - 1)) → g2 ≡ g1 → g0 ≤ 2 ^ 64 - 1 → Draws had a c g0 g2
Draws-kept a b c xs had g0 g1 g2 counted consumed kept so_far same in_range = record {
  bytes = gone a c xs had counted (Consumes-kept a b c xs consumed kept);
  count = omega (arith, so_far, same, in_range);
}

-- nothing is left behind the last bytes
pub none_left : (a b c : Option (List ℕ)) (xs ys : List ℕ) → Consumes a b xs → Consumes b c ys
    → IfSome b (λ left. left ≡ []) → IfSome a (λ _. c ≡ Some [])
none_left None b c xs ys first second end = tt
none_left (Some p) None c xs ys first second end = absurd first
none_left (Some p) (Some q) None xs ys first second end = absurd second
none_left (Some p) (Some q) (Some r) xs ys first second end =
    ap (λ (l : List ℕ). Some l) (nil_from_length r (omega (arith, ap length second, ap length end, length-append ys r)))
