-- How many keys the first lines of a schedule give.
use Rattle.std.proofs.Common.{◌≡◌, ℕ, ◌+◌, ◌<◌, List, [], ◌∷◌, ◌++◌, get_or, take, length, refl, sym, ap, ◌∙◌, arith}
use Rattle.std.proofs.lemmas.List.{take_more}
use Rattle.script_spec.specs.declared.script.ScheduleLine.{ScheduleLine}
use Rattle.w32_machine.specs.Contract.{keys_of_line, key_lines}

pub key_lines-append : (xs : List ScheduleLine) (line : ScheduleLine)
    → key_lines (xs ++ line ∷ []) ≡ key_lines xs + keys_of_line line
key_lines-append [] line = omega arith
key_lines-append (x ∷ xs) line = omega (arith, key_lines-append xs line)

-- with one line more
pub key_lines-more : (xs : List ScheduleLine) (i : ℕ) (line : ScheduleLine) → i < length xs → line ≡ get_or xs i line
    → key_lines (take (i + 1) xs) ≡ key_lines (take i xs) + keys_of_line line
key_lines-more xs i line within is =
    ap key_lines (take_more xs i line within ∙ ap (λ x. take i xs ++ x ∷ []) (sym is))
    ∙ key_lines-append (take i xs) line
