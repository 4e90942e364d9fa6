-- A short list kept in an array of fixed length: its first bytes, and zeros after them.
use Rattle.std.specs.Prelude.{◌≡◌, ℕ, ◌-◌, ◌≤◌, ◌<◌, List, ◌++◌, length, take, drop, replicate, slice_index}

-- the bytes that count
abbrev pub shown : ℕ → List ℕ → List ℕ
shown len bytes = take len bytes

-- an array of n bytes with zeros behind the first ones
pub record IsShort (n len : ℕ) (bytes : List ℕ) : Type 0 where
  pub room : length bytes ≡ n
  pub within : len ≤ n
  pub zeros : drop len bytes ≡ replicate (n - len) 0

-- the array that shows these bytes
abbrev pub filled : ℕ → List ℕ → List ℕ
filled n xs = xs ++ replicate (n - length xs) 0

-- each is the number of a handle
abbrev pub AreHandles : List ℕ → Type 0
AreHandles xs = (k : ℕ) → k < length xs → (1 ≤ slice_index xs k) × (slice_index xs k ≤ 64)
