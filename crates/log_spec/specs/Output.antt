-- What the terminal shows in a run, as a function of the journal's entries.
use Rattle.std.specs.Prelude.{ℕ, nat_le, if◌then◌else◌, List, [], ◌++◌, ◌∷◌, Option, Some, None}
use Rattle.w32_base.specs.declared.call.TtyOp.TheVariants as tty
use Rattle.w32_base.specs.declared.call.Call.{Call}
use Rattle.w32_base.specs.declared.call.Call.TheVariants as call
use Rattle.w32_base.specs.declared.call.Reply.TheVariants as reply
use Rattle.w32_base.specs.declared.event.Event.{Event}
use Rattle.w32_base.specs.declared.event.Event.TheVariants as event
use Rattle.w32_base.specs.declared.entry.Outcome.{Outcome}
use Rattle.w32_base.specs.declared.entry.Outcome.TheVariants as outcome
use Rattle.w32_base.specs.declared.entry.Entry.{Entry}
use Rattle.tty_spec.specs.Terminal.{Terminal}
use Rattle.tty_spec.specs.Discipline.{Taken, after_key, after_take}

abbrev pub terminal_taken : Terminal → Option Taken → Terminal
terminal_taken terminal None = terminal
terminal_taken terminal (Some taken) = taken.terminal

-- The terminal after an entry with this call and this outcome: it takes the byte of a reply `key`, a take of at most 64
-- bytes that was answered `line`, and new flags that were answered `done`. No other entry counts for what is echoed.
abbrev pub terminal_after : Terminal → Option Call → Outcome → Terminal
terminal_after terminal c (outcome.Step (reply.Key byte signal group)) = (after_key terminal byte).terminal
terminal_after terminal (Some (call.Tty h (tty.Take g n place))) (outcome.Step (reply.Line taken)) =
    if nat_le n 64 then terminal_taken terminal (after_take terminal n) else terminal
terminal_after terminal (Some (call.Tty h (tty.Flags g new force))) (outcome.Step reply.Done) =
    record terminal { flags = new }
terminal_after terminal _ _ = terminal

-- the echo of the key that the outcome names, and none where it names none
abbrev pub echo_of : Terminal → Outcome → List ℕ
echo_of terminal (outcome.Step (reply.Key byte signal group)) = (after_key terminal byte).echo
echo_of terminal _ = []

-- what an entry shows: the echo of a `key` event, and the bytes of a `write` event; other events show nothing
abbrev pub shown_by : Terminal → Outcome → Option Event → List ℕ
shown_by terminal o (Some (event.Key p byte)) = echo_of terminal o
shown_by terminal o (Some (event.Write p n bytes)) = bytes
shown_by terminal o _ = []

-- what the entries show, from this terminal on
abbrev pub output_from : Terminal → List Entry → List ℕ
output_from terminal [] = []
output_from terminal (entry ∷ entries) =
    shown_by terminal entry.outcome entry.event ++
    output_from (terminal_after terminal entry.call entry.outcome) entries
