-- The state of a pipe: its bytes, and how many handles of the live processes there are on each end of it.
use Rattle.std.specs.Prelude.{ℕ, ◌+◌, if◌then◌else◌, List, [], ◌∷◌}
use Rattle.win32_spec.specs.Handles.{holders_of}
use Rattle.win32_spec.specs.Objects.{PipeState}
use Rattle.win32_spec.specs.State.{Process, Win32State}
use Rattle.win32_spec.specs.Lookup.{is_alive}

-- how many handles of the live processes name this object, by this end or face
abbrev pub all_holders_of : List Process → ℕ → ℕ
all_holders_of [] names = 0
all_holders_of (p ∷ ps) names = (if is_alive p.life then holders_of p.handles names else 0) + all_holders_of ps names

-- the pipe whose object has this number and these bytes: the number names its read end, and the next one its write end
abbrev pub pipe_state : Win32State → ℕ → List ℕ → PipeState
pipe_state s o bytes = record {
  bytes = bytes;
  readers = all_holders_of s.processes o;
  writers = all_holders_of s.processes (o + 1);
}
