-- The line discipline at its edges, computed.
use Rattle.std.specs.Prelude.{◌≡◌, ℕ, List, [], ◌∷◌, ◌++◌, replicate, Some, None}
use Rattle.std.proofs.Common.{refl}
use Rattle.tty_spec.specs.Terminal.{Terminal, opening_terminal}
use Rattle.tty_spec.specs.Discipline.{after_key, after_take}

-- the bytes of `abc`
abbrev abc : List ℕ
abc = 97 ∷ 98 ∷ 99 ∷ []

-- with these flags, this current line and these done lines
abbrev terminal_with : ℕ → List ℕ → List (List ℕ) → Terminal
terminal_with flags line done = record { foreground = 2; flags = flags; line = line; done_lines = done }

abbrev lines_16 : List (List ℕ)
lines_16 = replicate 16 (10 ∷ [])

-- A byte is added and echoed, up to 254 bytes; without ECHO it is added alone.
byte_is_added : after_key (terminal_with 3 abc []) 120 ≡
    record { terminal = terminal_with 3 (97 ∷ 98 ∷ 99 ∷ 120 ∷ []) []; echo = 120 ∷ []; signal = None }
byte_is_added = refl

no_echo_without_flag : after_key (terminal_with 1 abc []) 120 ≡
    record { terminal = terminal_with 1 (97 ∷ 98 ∷ 99 ∷ 120 ∷ []) []; echo = []; signal = None }
no_echo_without_flag = refl

byte_254_is_added : after_key (terminal_with 3 (replicate 253 120) []) 120 ≡
    record { terminal = terminal_with 3 (replicate 254 120) []; echo = 120 ∷ []; signal = None }
byte_254_is_added = refl

byte_255_is_dropped : after_key (terminal_with 3 (replicate 254 120) []) 120 ≡
    record { terminal = terminal_with 3 (replicate 254 120) []; echo = []; signal = None }
byte_255_is_dropped = refl

full_line_ends : after_key (terminal_with 3 (replicate 254 120) []) 10 ≡
    record { terminal = terminal_with 3 [] ((replicate 254 120 ++ 10 ∷ []) ∷ []); echo = 10 ∷ []; signal = None }
full_line_ends = refl

-- With 16 done lines EOF and NL are dropped; with 15 they aren't.
newline_is_dropped : after_key (terminal_with 3 abc lines_16) 10 ≡
    record { terminal = terminal_with 3 abc lines_16; echo = []; signal = None }
newline_is_dropped = refl

eof_is_dropped : after_key (terminal_with 3 abc lines_16) 4 ≡
    record { terminal = terminal_with 3 abc lines_16; echo = []; signal = None }
eof_is_dropped = refl

newline_16_ends : after_key (terminal_with 3 [] (replicate 15 (10 ∷ []))) 10 ≡
    record { terminal = terminal_with 3 [] lines_16; echo = 10 ∷ []; signal = None }
newline_16_ends = refl

-- EOF ends a line without a byte, an empty one too, and echoes nothing.
eof_ends : after_key (terminal_with 3 abc []) 4
    ≡ record { terminal = terminal_with 3 [] (abc ∷ []); echo = []; signal = None }
eof_ends = refl

eof_on_empty_line : after_key opening_terminal 4
    ≡ record { terminal = terminal_with 3 [] ([] ∷ []); echo = []; signal = None }
eof_on_empty_line = refl

-- ERASE drops the last byte; on an empty line nothing happens, even with a done line before it.
erase_drops : after_key (terminal_with 3 abc []) 127 ≡
    record { terminal = terminal_with 3 (97 ∷ 98 ∷ []) []; echo = 8 ∷ 32 ∷ 8 ∷ []; signal = None }
erase_drops = refl

erase_on_empty_line : after_key (terminal_with 3 [] (abc ∷ [])) 127 ≡
    record { terminal = terminal_with 3 [] (abc ∷ []); echo = []; signal = None }
erase_on_empty_line = refl

-- KILL drops the line and echoes a newline, on an empty line too.
kill_drops : after_key (terminal_with 3 abc []) 21
    ≡ record { terminal = terminal_with 3 [] []; echo = 10 ∷ []; signal = None }
kill_drops = refl

kill_on_empty_line : after_key opening_terminal 21
    ≡ record { terminal = opening_terminal; echo = 10 ∷ []; signal = None }
kill_on_empty_line = refl

-- INTR, QUIT and SUSP give signals where ISIG is set; NOFLSH keeps the lines; without ISIG they are bytes.
intr_flushes : after_key (terminal_with 3 abc (abc ∷ [])) 3 ≡
    record { terminal = terminal_with 3 [] []; echo = []; signal = Some 2 }
intr_flushes = refl

quit_keeps_with_noflsh : after_key (terminal_with 7 abc (abc ∷ [])) 28 ≡
    record { terminal = terminal_with 7 abc (abc ∷ []); echo = []; signal = Some 3 }
quit_keeps_with_noflsh = refl

susp_flushes : after_key (terminal_with 1 abc []) 26
    ≡ record { terminal = terminal_with 1 [] []; echo = []; signal = Some 20 }
susp_flushes = refl

intr_without_isig : after_key (terminal_with 2 [] []) 3 ≡
    record { terminal = terminal_with 2 (3 ∷ []) []; echo = 3 ∷ []; signal = None }
intr_without_isig = refl

-- A line is taken in parts, and goes with its last byte. A line that EOF ended empty gives no byte and goes.
take_a_part : after_take (terminal_with 3 [] (abc ∷ [] ∷ [])) 2 ≡
    Some (record { terminal = terminal_with 3 [] ((99 ∷ []) ∷ [] ∷ []); bytes = 97 ∷ 98 ∷ [] })
take_a_part = refl

take_the_rest : after_take (terminal_with 3 [] ((99 ∷ []) ∷ [] ∷ [])) 64 ≡
    Some (record { terminal = terminal_with 3 [] ([] ∷ []); bytes = 99 ∷ [] })
take_the_rest = refl

take_exactly : after_take (terminal_with 3 [] (abc ∷ [])) 3
    ≡ Some (record { terminal = terminal_with 3 [] []; bytes = abc })
take_exactly = refl

take_end_of_file : after_take (terminal_with 3 abc ([] ∷ [])) 64 ≡
    Some (record { terminal = terminal_with 3 abc []; bytes = [] })
take_end_of_file = refl

take_nothing : after_take (terminal_with 3 [] (abc ∷ [])) 0 ≡
    Some (record { terminal = terminal_with 3 [] (abc ∷ []); bytes = [] })
take_nothing = refl

take_nothing_of_empty : after_take (terminal_with 3 [] ([] ∷ abc ∷ [])) 0 ≡
    Some (record { terminal = terminal_with 3 [] (abc ∷ []); bytes = [] })
take_nothing_of_empty = refl

take_without_line : after_take (terminal_with 3 abc []) 64 ≡ None
take_without_line = refl
