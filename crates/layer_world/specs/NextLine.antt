-- The line of a schedule that is next, as the run of a script goes through the lines.
use Rattle.std.proofs.Common.{◌≡◌, ℕ, ◌+◌, ◌≤◌, ◌<◌, List, ◌∷◌, drop, get_or, length, IsTrue}
use Rattle.std.proofs.Common.{sym, ap, ◌∙◌, subst, arith}
use Rattle.std.specs.List.{list_all, AllPass}
use Rattle.std.proofs.lemmas.List.{drop_more}
use Rattle.std.proofs.lemmas.List.Sums.{AllPass-from_list_all}
use Rattle.script_spec.specs.Ranges.{is_line_within}
use Rattle.script_spec.specs.declared.script.ScheduleLine.{ScheduleLine}
use Rattle.w32_machine.specs.Contract.{keys_of_line, key_lines}

pub next-line : (lines : List ScheduleLine) (i : ℕ) (line : ScheduleLine) → i < length lines
    → line ≡ get_or lines i line
    → drop i lines ≡ line ∷ drop (i + 1) lines
next-line lines i line within is =
    drop_more lines i line within ∙ ap (λ x. x ∷ drop (i + 1) lines) (sym is)

pub line-within : (slots : ℕ) (lines : List ScheduleLine) (i : ℕ) (line : ScheduleLine)
    → IsTrue (list_all (is_line_within slots) lines) → i < length lines → line ≡ get_or lines i line
    → IsTrue (is_line_within slots line)
line-within slots lines i line all within is =
    subst (λ x. IsTrue (is_line_within slots x)) (sym is)
    (AllPass-from_list_all (is_line_within slots) lines all i line within)
