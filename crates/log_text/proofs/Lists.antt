-- The text of a list of handles.
use Rattle.std.proofs.Common.{◌≡◌, ℕ, ◌-◌, ◌≤◌, List, [], ◌∷◌, ◌++◌, length, map, take, drop, get_or, flat_map}
use Rattle.std.proofs.Common.{sym, ap, ◌∙◌, arith, append_assoc, append-nil}
use Rattle.std.proofs.Math.Seq.{take-length}
use Rattle.std.specs.Fmt.{decimal}
use Rattle.std.specs.List.{join_with_byte}
use Rattle.log_spec.specs.Texts.{list_text}

-- a number behind a comma
abbrev pub next : ℕ → List ℕ
next n = 44 ∷ decimal n

join_rest : (first : List ℕ) (ns : List ℕ)
    → join_with_byte 44 (first ∷ map decimal ns) ≡ first ++ flat_map next ns
join_rest first [] = sym (append-nil first)
join_rest first (n ∷ ns) = ap (λ (l : List ℕ). first ++ 44 ∷ l) (join_rest (decimal n) ns)

-- the first number, and then the others, each behind a comma
pub listed : (start given numbers a b c : List ℕ) → 1 ≤ length numbers → numbers ≡ given → a ≡ start ++ 32 ∷ []
    → b ≡ a ++ decimal (get_or numbers 0 0)
    → c ≡ b ++ flat_map next (take (length numbers - 1) (drop 1 numbers)) → c ≡ start ++ 32 ∷ list_text given
listed start given [] a b c some is ha hb hc = absurd (omega arith)
listed start given (n ∷ ns) a b c some is ha hb hc =
    let size : length (n ∷ ns) - 1 ≡ length ns = omega arith in
    let tail = ap (λ (k : ℕ). take k ns) size ∙ take-length ns in
    hc
    ∙ ap (λ (l : List ℕ). l ++ flat_map next (take (length (n ∷ ns) - 1) ns))
    (hb ∙ ap (λ (l : List ℕ). l ++ decimal n) ha)
    ∙ ap (λ (l : List ℕ). ((start ++ 32 ∷ []) ++ decimal n) ++ flat_map next l) tail
    ∙ append_assoc (start ++ 32 ∷ []) (decimal n) (flat_map next ns)
    ∙ append_assoc start (32 ∷ []) (decimal n ++ flat_map next ns)
    ∙ ap (λ (l : List ℕ). start ++ 32 ∷ l) (sym (join_rest (decimal n) ns))
    ∙ ap (λ (l : List ℕ). start ++ 32 ∷ list_text l) is
