-- A print has at most 127 bytes a line.
use Rattle.std.proofs.Common.{◌≡◌, ℕ, ◌+◌, ◌*◌, ◌≤◌, true, List, [], ◌∷◌, length, arith, length-append}
use Rattle.std.specs.List.{list_all}
use Rattle.std.proofs.lemmas.Bool.{and_parts}
use Rattle.script_spec.specs.declared.script.Script.{Script}
use Rattle.script_spec.specs.Lines.{spaced}
use Rattle.script_spec.specs.Print.{line_text, words_text, script_words, print_of}
use Rattle.script_spec.specs.Validity.{IsValid}
use Rattle.script_spec.specs.InstrLaws.{are_words, is_headed}
use Rattle.script_spec.specs.LineLaws.{is_good, length-spaced, headed_length}
use Rattle.script_spec.specs.PrintLaws.{script_good}

line_size : (ws : List (List ℕ)) → is_good ws ≡ true → length (line_text ws) ≤ 127
line_size ws h =
    let p = and_parts (are_words ws) (is_headed ws) h in
    let few : length ws ≤ 6 = headed_length ws p.1 in
    let long : length (spaced ws) ≤ 21 * length ws = length-spaced ws p.0 in
    let whole : length (line_text ws) ≡ length (spaced ws) + 1 = length-append (spaced ws) (10 ∷ []) in
    omega (arith, few, long, whole)

lines_size : (lines : List (List (List ℕ))) → list_all is_good lines ≡ true
    → length (words_text lines) ≤ 127 * length lines
lines_size [] h = omega arith
lines_size (ws ∷ lines) h =
    let p = and_parts (is_good ws) (list_all is_good lines) h in
    let one : length (line_text ws) ≤ 127 = line_size ws p.0 in
    let others : length (words_text lines) ≤ 127 * length lines = lines_size lines p.1 in
    let whole : length (words_text (ws ∷ lines)) ≡ length (line_text ws) + length (words_text lines) =
    length-append (line_text ws) (words_text lines) in
    let all : length (ws ∷ lines) ≡ length lines + 1 = omega arith in
    omega (arith, one, others, whole, all)

pub print_size : (s : Script) → IsValid s → length (print_of s) ≤ 127 * length (script_words s)
print_size s v = lines_size (script_words s) (script_good s v)
