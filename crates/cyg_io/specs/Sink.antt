-- What reaches a sink over several writes.
use Rattle.std.specs.Prelude.{◌≡◌, ◌≢◌, ℕ, ◌<◌, List, [], ◌∷◌, ◌++◌, length, take, drop, All}
use Rattle.std.specs.Prelude.{Option, None, Some, IfSome}
use Rattle.std.specs.Io.KnownBytes.{Appends}

-- the bytes held, where they are told, grew by the first bytes of the piece, and not by all
abbrev pub AppendsPart : Option (List ℕ) → Option (List ℕ) → List ℕ → Type 0
AppendsPart before now piece = (n : ℕ) × (n < length piece) × Appends before now (take n piece)

-- the pieces, where they are told, and then this one
abbrev pub with_piece : Option (List (List ℕ)) → List ℕ → Option (List (List ℕ))
with_piece None piece = None
with_piece (Some pieces) piece = Some (pieces ++ piece ∷ [])

-- the pieces, where they are told, grew by some that each have this property, and by no others
abbrev pub TakesOnly : (List ℕ → Type 0) → Option (List (List ℕ)) → Option (List (List ℕ)) → Type 0
TakesOnly Q before now = IfSome before (λ pieces. (more : List (List ℕ)) × (now ≡ Some (pieces ++ more)) × All Q more)

-- the piece is the text from some place in it up to its end, and has at least one byte
abbrev pub IsRestOf : List ℕ → List ℕ → Type 0
IsRestOf text piece = (n : ℕ) × (n < length text) × (piece ≡ drop n text)

-- The piece goes up to a line's end and not past it: its last byte is LF, and no other byte is. So it is a whole line,
-- or the rest of one.
abbrev pub EndsOneLine : List ℕ → Type 0
EndsOneLine piece = (body : List ℕ) × (piece ≡ body ++ 10 ∷ []) × All (λ b. b ≢ 10) body
