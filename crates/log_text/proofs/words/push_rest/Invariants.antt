use Rattle.std.proofs.Common.{◌≡◌, ◌+◌, ◌*◌, ◌≤◌, ◌∷◌, ◌++◌, length, take, flat_map}
use Rattle.std.specs.Fmt.{decimal}
use Rattle.log_text.proofs.words.push_rest.Given as goal

abbrev pub invariant-loop-number : goal.invariant-loop-number
invariant-loop-number l = record {
  text : l.line ≡ l.initial.line ++ flat_map (λ n. 44 ∷ decimal n) (take l.number-index l.numbers);
  size : length l.line ≤ length l.initial.line + 4 * l.number-index;
}
