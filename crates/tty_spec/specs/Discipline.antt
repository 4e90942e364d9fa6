-- The line discipline: what a key does to the terminal, and what a read takes from it.
use Rattle.std.specs.Prelude.{ℕ, Bool, not, nat_eq, nat_lt, if◌then◌else◌, List, [], ◌∷◌, ◌++◌, length, take, drop}
use Rattle.std.specs.Prelude.{Option, Some, None, bit_and}
use Rattle.tty_spec.specs.Terminal.{Terminal}

-- The flags, each a bit of the terminal's flags. ISIG: signal keys give signals. ECHO: keys are echoed. NOFLSH: a
-- signal key drops no lines. TOSTOP: a background group may not write.
abbrev pub isig_flag : ℕ
isig_flag = 1

abbrev pub echo_flag : ℕ
echo_flag = 2

abbrev pub noflsh_flag : ℕ
noflsh_flag = 4

abbrev pub tostop_flag : ℕ
tostop_flag = 8

-- whether a flag is set
abbrev pub has_flag : Terminal → ℕ → Bool
has_flag terminal flag = not (nat_eq (bit_and terminal.flags flag) 0)

-- the signal that a key gives where ISIG is set: INTR (3) gives INT, QUIT (28) gives QUIT, SUSP (26) gives TSTP
abbrev pub signal_of_key : ℕ → Option ℕ
signal_of_key byte =
    if nat_eq byte 3 then Some 2 else if nat_eq byte 28 then Some 3 else if nat_eq byte 26 then Some 20 else None

-- how many lines may be done, and how many bytes the current line may have
abbrev pub most_done_lines : ℕ
most_done_lines = 16

abbrev pub most_line_bytes : ℕ
most_line_bytes = 254

-- what a key does: the terminal after it, the bytes that are echoed, and the signal for the foreground group, if any
pub record KeyTaken : Type 0 where
  pub terminal : Terminal
  pub echo : List ℕ
  pub signal : Option ℕ

-- the bytes are echoed where ECHO is set
abbrev pub echoed : Terminal → List ℕ → List ℕ
echoed terminal bytes = if has_flag terminal echo_flag then bytes else []

-- a key with this echo that gives no signal
abbrev pub echoing : Terminal → List ℕ → Terminal → KeyTaken
echoing old bytes new = record { terminal = new; echo = echoed old bytes; signal = None }

-- without the current line and all done lines
abbrev pub without_lines : Terminal → Terminal
without_lines terminal = record terminal { line = []; done_lines = [] }

-- a signal key: the lines are dropped unless NOFLSH is set, and nothing is echoed
abbrev pub signalling : Terminal → ℕ → KeyTaken
signalling terminal signal = record {
  terminal = if has_flag terminal noflsh_flag then terminal else without_lines terminal;
  echo = [];
  signal = Some signal;
}

-- ERASE drops the last byte of the current line and echoes 08 20 08; on an empty line nothing happens
abbrev pub erasing : Terminal → List ℕ → KeyTaken
erasing terminal [] = echoing terminal [] terminal
erasing terminal (first ∷ rest) =
    echoing terminal (8 ∷ 32 ∷ 8 ∷ []) (record terminal { line = take (length rest) (first ∷ rest) })

-- KILL drops the current line and echoes 0a
abbrev pub killing : Terminal → KeyTaken
killing terminal = echoing terminal (10 ∷ []) (record terminal { line = [] })

-- the line is done, and the current line is empty
abbrev pub with_done_line : Terminal → List ℕ → Terminal
with_done_line terminal bytes = record terminal { line = []; done_lines = terminal.done_lines ++ bytes ∷ [] }

-- EOF ends the current line without a byte; NL ends it with its byte, which is echoed. With 16 done lines both keys are
-- dropped.
abbrev pub ending : Terminal → List ℕ → KeyTaken
ending terminal bytes =
    if nat_lt (length terminal.done_lines) most_done_lines
    then echoing terminal bytes (with_done_line terminal (terminal.line ++ bytes))
    else echoing terminal [] terminal

-- another byte is added and echoed where the current line has fewer than 254 bytes; else it is dropped
abbrev pub adding : Terminal → ℕ → KeyTaken
adding terminal byte =
    if nat_lt (length terminal.line) most_line_bytes
    then echoing terminal (byte ∷ []) (record terminal { line = terminal.line ++ byte ∷ [] })
    else echoing terminal [] terminal

-- a key that gives no signal: ERASE (127), KILL (21), EOF (4), NL (10) or another byte
abbrev pub editing : Terminal → ℕ → KeyTaken
editing terminal byte =
    if nat_eq byte 127 then erasing terminal terminal.line
    else if nat_eq byte 21 then killing terminal
    else if nat_eq byte 4 then ending terminal []
    else if nat_eq byte 10 then ending terminal (10 ∷ [])
    else adding terminal byte

-- a key that gives this signal, if any
abbrev pub keying : Option ℕ → Terminal → ℕ → KeyTaken
keying (Some signal) terminal byte = signalling terminal signal
keying None terminal byte = editing terminal byte

-- what the key of this byte does
abbrev pub after_key : Terminal → ℕ → KeyTaken
after_key terminal byte = keying (if has_flag terminal isig_flag then signal_of_key byte else None) terminal byte

-- what a read takes: the terminal after it, and the bytes
pub record Taken : Type 0 where
  pub terminal : Terminal
  pub bytes : List ℕ

-- what is left of a line stays the first line; a line that is wholly taken goes, and so does an empty one
abbrev pub left_before : List ℕ → List (List ℕ) → List (List ℕ)
left_before [] lines = lines
left_before (byte ∷ rest) lines = (byte ∷ rest) ∷ lines

-- at most n bytes of the first done line, or none where no line is done
abbrev pub taking : Terminal → List (List ℕ) → ℕ → Option Taken
taking terminal [] n = None
taking terminal (first ∷ rest) n =
    Some (record { terminal = record terminal { done_lines = left_before (drop n first) rest }; bytes = take n first })

-- a read of at most n bytes
abbrev pub after_take : Terminal → ℕ → Option Taken
after_take terminal n = taking terminal terminal.done_lines n

-- whether a line is done
abbrev pub has_line : Terminal → Bool
has_line terminal = nat_lt 0 (length terminal.done_lines)
