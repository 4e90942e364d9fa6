-- The words after a line's first one.
use Rattle.std.specs.Prelude.{ℕ, List, [], ◌∷◌, Option, Some, None, option_map}
use Rattle.script_spec.specs.Lines.{pieces}

-- the pieces of what stands after a separator, if there is one
abbrev pub pieces_after : ℕ → Option (List ℕ) → List (List ℕ)
pieces_after separator None = []
pieces_after separator (Some rest) = pieces separator rest

-- the words of what stands after a space, if there is one
abbrev pub words_after : Option (List ℕ) → List (List ℕ)
words_after rest = pieces_after 32 rest

-- words, where there are just so many
abbrev pub one_of : List (List ℕ) → Option (List ℕ)
one_of [] = None
one_of (a ∷ []) = Some a
one_of (a ∷ b ∷ ws) = None

abbrev pub with_two : List ℕ → Option (List ℕ) → Option (List ℕ × List ℕ)
with_two a = option_map (λ (b : List ℕ). (a, b))

abbrev pub two_of : List (List ℕ) → Option (List ℕ × List ℕ)
two_of [] = None
two_of (a ∷ ws) = with_two a (one_of ws)

abbrev pub with_three : List ℕ → Option (List ℕ × List ℕ) → Option (List ℕ × List ℕ × List ℕ)
with_three a = option_map (λ (r : List ℕ × List ℕ). (a, r.0, r.1))

abbrev pub three_of : List (List ℕ) → Option (List ℕ × List ℕ × List ℕ)
three_of [] = None
three_of (a ∷ ws) = with_three a (two_of ws)

abbrev pub with_four : List ℕ → Option (List ℕ × List ℕ × List ℕ) → Option (List ℕ × List ℕ × List ℕ × List ℕ)
with_four a = option_map (λ (r : List ℕ × List ℕ × List ℕ). (a, r.0, r.1, r.2))

abbrev pub four_of : List (List ℕ) → Option (List ℕ × List ℕ × List ℕ × List ℕ)
four_of [] = None
four_of (a ∷ ws) = with_four a (three_of ws)

abbrev pub with_five : List ℕ → Option (List ℕ × List ℕ × List ℕ × List ℕ)
    → Option (List ℕ × List ℕ × List ℕ × List ℕ × List ℕ)
with_five a = option_map (λ (r : List ℕ × List ℕ × List ℕ × List ℕ). (a, r.0, r.1, r.2, r.3))

abbrev pub five_of : List (List ℕ) → Option (List ℕ × List ℕ × List ℕ × List ℕ × List ℕ)
five_of [] = None
five_of (a ∷ ws) = with_five a (four_of ws)
