-- Bytes with some of them written anew.
use Rattle.std.specs.Prelude.{ℕ, ◌+◌, List, ◌++◌, length, replicate, take, drop}

-- these bytes with a piece from a place on
unfoldable pub with_piece : List ℕ → ℕ → List ℕ → List ℕ
with_piece bytes place piece = take place bytes ++ (piece ++ drop (place + length piece) bytes)

-- without the four bytes from a place on: those behind them stand four places lower, and zeros come last
unfoldable pub without_four : List ℕ → ℕ → List ℕ
without_four bytes place = take place bytes ++ (drop (place + 4) bytes ++ replicate 4 0)
