-- What the terminal keeps.
use Rattle.std.specs.Prelude.{ℕ, List, []}

-- The terminal: the foreground process group, the flags (1 ISIG, 2 ECHO, 4 NOFLSH, 8 TOSTOP), the current line, and the
-- done lines, the oldest first, each with the byte that ended it. A line that EOF ended has no such byte.
pub record Terminal : Type 0 where
  pub foreground : ℕ
  pub flags : ℕ
  pub line : List ℕ
  pub done_lines : List (List ℕ)

-- the session that has the terminal, from the opening on
abbrev pub terminal_session : ℕ
terminal_session = 2

-- the terminal in which a run begins: group 2 is in the foreground, with ISIG and ECHO
abbrev pub opening_terminal : Terminal
opening_terminal = record { foreground = 2; flags = 3; line = []; done_lines = [] }
