-- What contracts see of the sources and sinks of this crate.
use Rattle.std.specs.Prelude.{◌≡◌, ◌⊎◌, ℕ, ◌+◌, ◌-◌, ◌^◌, ◌<◌, min, List, length, Contains}

-- a source in memory: the bytes left, the numbers of the calls that are to fail, how many calls there were, and the
-- counts of faults, of bytes given and of ends
pub record MemorySource : Type 0 where
  pub left : List ℕ
  pub fails : List ℕ
  pub calls : ℕ
  pub faults : ℕ
  pub given : ℕ
  pub ends : ℕ

-- a sink in memory: the bytes held, how many it has room for, the numbers of the calls that are to fail, how many calls
-- there were, and the count of faults
pub record MemorySink : Type 0 where
  pub held : List ℕ
  pub room : ℕ
  pub fails : List ℕ
  pub calls : ℕ
  pub faults : ℕ

-- a source that has no faults: the bytes left, and the counts of bytes given and of ends
pub record FaultlessSource : Type 0 where
  pub left : List ℕ
  pub given : ℕ
  pub ends : ℕ

-- a source over a reader: the reader, and the counts of faults, of bytes given and of ends
pub record CountingReader (R : Type 0) : Type 0 where
  pub reader : R
  pub faults : ℕ
  pub given : ℕ
  pub ends : ℕ

-- a sink over a writer: the writer, and the count of faults
pub record CountingWriter (W : Type 0) : Type 0 where
  pub writer : W
  pub faults : ℕ

-- the number of the next call after so many, from 1
abbrev pub next_call : ℕ → ℕ
next_call calls = min (calls + 1) (2 ^ 64 - 1)

-- the next call of a sink in memory, with a piece of so many bytes, has a fault: it is to fail, or there is no room for
-- a byte of a piece that has one
abbrev pub IsRefused : MemorySink → ℕ → Type 0
IsRefused sink size = Contains sink.fails (next_call sink.calls) ⊎ ((0 < size) × (length sink.held ≡ sink.room))
