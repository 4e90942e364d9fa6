-- A text as lines, and a line as words.
use Rattle.std.specs.Prelude.{ℕ, Bool, true, false, nat_eq, List, [], ◌∷◌, ◌++◌, if◌then◌else◌}

-- a byte at the front of the first piece
abbrev pub with_byte : ℕ → List (List ℕ) → List (List ℕ)
with_byte b [] = (b ∷ []) ∷ []
with_byte b (p ∷ ps) = (b ∷ p) ∷ ps

-- the pieces between the bytes that equal a separator, which is in none of them; there is one piece at least
abbrev pub pieces : ℕ → List ℕ → List (List ℕ)
pieces separator [] = [] ∷ []
pieces separator (b ∷ bs) =
    if nat_eq b separator then [] ∷ pieces separator bs else with_byte b (pieces separator bs)

-- a line: its bytes, and whether LF ends it
pub record Line : Type 0 where
  pub bytes : List ℕ
  pub is_ended : Bool

-- LF ends each piece but the last one, which is a line only where it has a byte
abbrev pub as_lines : List (List ℕ) → List Line
as_lines [] = []
as_lines ([] ∷ []) = []
as_lines ((b ∷ bs) ∷ []) = (record { bytes = b ∷ bs; is_ended = false }) ∷ []
as_lines (p ∷ q ∷ ps) = (record { bytes = p; is_ended = true }) ∷ as_lines (q ∷ ps)

-- the lines of a text
abbrev pub lines_of : List ℕ → List Line
lines_of text = as_lines (pieces 10 text)

-- the words of a line are the pieces between its spaces
abbrev pub words_of : List ℕ → List (List ℕ)
words_of bytes = pieces 32 bytes

-- words parted by a space
abbrev pub spaced : List (List ℕ) → List ℕ
spaced [] = []
spaced (w ∷ []) = w
spaced (w ∷ v ∷ ws) = w ++ (32 ∷ spaced (v ∷ ws))

-- a line that is empty or begins with # is skipped, but counted
abbrev pub is_skipped : List ℕ → Bool
is_skipped [] = true
is_skipped (b ∷ bs) = nat_eq b 35

-- the lines that aren't skipped
abbrev pub not_skipped : List Line → List (List ℕ)
not_skipped [] = []
not_skipped (l ∷ ls) = if is_skipped l.bytes then not_skipped ls else l.bytes ∷ not_skipped ls
