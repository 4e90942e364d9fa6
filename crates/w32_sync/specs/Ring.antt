-- The part of a ring of bytes that holds what is in a pipe.
use Rattle.std.specs.Prelude.{ℕ, ◌≤◌, ◌<◌, List, ◌++◌, take, drop}
use Rattle.win32_spec.specs.Objects.{PipeState}
use Rattle.w32_sync.specs.declared.pipe.Pipe.TheInside.{Inside}

-- the n places from k on, round the end
abbrev pub window : ℕ → ℕ → List ℕ → List ℕ
window k n xs = take n (drop k xs ++ take k xs)

abbrev pub pipe_shown : Inside → PipeState
pipe_shown p = record { bytes = window p.oldest p.len p.ring; readers = p.readers; writers = p.writers }

pub record IsPipe (p : Inside) : Type 0 where
  pub oldest : p.oldest < 64
  pub len : p.len ≤ 64
  pub readers : p.readers ≤ 4160
  pub writers : p.writers ≤ 4160
