-- The calls on the terminal, by either of its faces.
use Rattle.std.specs.Prelude.{ℕ, Bool, ◌&&◌, not, nat_eq, nat_le, List, [], ◌∷◌, length, Option, Some, None, MatchBool}
use Rattle.std.specs.Prelude.{MatchOption}
use Rattle.tty_spec.specs.Terminal.{Terminal, terminal_session}
use Rattle.tty_spec.specs.Discipline.{has_flag, tostop_flag, after_key, after_take}
use Rattle.w32_base.specs.declared.call.Region.TheVariants.{Heap}
use Rattle.w32_base.specs.declared.call.Reply.{Reply}
use Rattle.w32_base.specs.declared.call.Reply.TheVariants as reply
use Rattle.w32_base.specs.declared.call.TtyOp.{TtyOp}
use Rattle.w32_base.specs.declared.call.TtyOp.TheVariants as tty
use Rattle.w32_base.specs.declared.own.Own.{Own}
use Rattle.win32_spec.specs.Regions.{written}
use Rattle.win32_spec.specs.State.{TerminalObject, Win32State}
use Rattle.win32_spec.specs.Lookup.{memory_by, with_own, with_object}
use Rattle.win32_spec.specs.Named.{object_number_by, object_by, terminal_named, Gives}
use Rattle.win32_spec.specs.MemoryCalls.{has_range}

-- the state with another terminal behind a handle of process w
abbrev pub with_terminal : Win32State → ℕ → ℕ → Terminal → Win32State
with_terminal s w h terminal = with_object s (object_number_by s w h) (TerminalObject terminal)

-- a signal's number, and 0 for none
abbrev pub signal_number : Option ℕ → ℕ
signal_number None = 0
signal_number (Some signal) = signal

-- `key`: the console's next key, what it gives, and for which group. Refusals: nokey.
abbrev pub KeyStep : Win32State → ℕ → ℕ → Terminal → List ℕ → Reply → Win32State → Type 0
KeyStep s w h terminal [] r new = Gives reply.NoKey s r new
KeyStep s w h terminal (b ∷ keys) r new =
    let taken = after_key terminal b in
    Gives (reply.Key b (signal_number taken.signal) terminal.foreground)
    (record (with_terminal s w h taken.terminal) { keys = keys }) r new

-- whether so many bytes from a place of the caller's heap may be moved: at most 64, and each lies in the heap
abbrev pub is_buffer : Own → ℕ → ℕ → Bool
is_buffer own place count = nat_le count 64 && has_range own Heap place count

-- whether a group isn't in the foreground
abbrev pub is_background : Terminal → ℕ → Bool
is_background terminal group = not (nat_eq group terminal.foreground)

-- `take G N PLACE`: at most N bytes of the first done line. Refusals: badrange, background, noline.
abbrev pub TakeStep : Win32State → ℕ → ℕ → Terminal → ℕ → ℕ → ℕ → Reply → Win32State → Type 0
TakeStep s w h terminal group count place r new =
    let own = memory_by s w in
    MatchBool (not (is_buffer own place count)) (Gives reply.BadRange s r new)
    (MatchBool (is_background terminal group) (Gives reply.Background s r new)
    (MatchOption (after_take terminal count) (Gives reply.NoLine s r new) (λ taken.
    Gives (reply.Line (length taken.bytes))
    (with_own (with_terminal s w h taken.terminal) w (record own { heap = written own.heap place taken.bytes }))
    r new)))

-- `put G N PLACE FORCE`: N bytes of the heap are written, which changes nothing here. Refusals: badrange, background.
abbrev pub WriteStep : Win32State → ℕ → Terminal → ℕ → ℕ → ℕ → Bool → Reply → Win32State → Type 0
WriteStep s w terminal group count place force r new =
    MatchBool (not (is_buffer (memory_by s w) place count)) (Gives reply.BadRange s r new)
    (MatchBool (is_background terminal group && (has_flag terminal tostop_flag && not force))
    (Gives reply.Background s r new)
    (Gives (reply.Written count) s r new))

-- a change of the terminal, which a background group may make by force alone. Refusals: background.
abbrev pub ChangeStep : Win32State → ℕ → ℕ → Terminal → ℕ → Bool → Terminal → Reply → Win32State → Type 0
ChangeStep s w h terminal group force changed r new =
    MatchBool (is_background terminal group && not force) (Gives reply.Background s r new)
    (Gives reply.Done (with_terminal s w h changed) r new)

-- what is asked of the terminal, by its kind
abbrev pub OpStep : Win32State → ℕ → ℕ → Terminal → TtyOp → Reply → Win32State → Type 0
OpStep s w h terminal tty.Key r new = KeyStep s w h terminal s.keys r new
OpStep s w h terminal (tty.Take group count place) r new = TakeStep s w h terminal group count place r new
OpStep s w h terminal (tty.Put group count place force) r new = WriteStep s w terminal group count place force r new
OpStep s w h terminal (tty.SetForeground group next force) r new =
    ChangeStep s w h terminal group force (record terminal { foreground = next }) r new
OpStep s w h terminal (tty.Flags group flags force) r new =
    ChangeStep s w h terminal group force (record terminal { flags = flags }) r new
OpStep s w h terminal tty.State r new = Gives (reply.State terminal.foreground terminal_session terminal.flags) s r new

-- `tty H OP`. Refusals: badhandle, and then those of the operation.
abbrev pub TtyStep : Win32State → ℕ → ℕ → TtyOp → Reply → Win32State → Type 0
TtyStep s w h op r new =
    MatchOption (terminal_named (object_by s w h)) (Gives reply.BadHandle s r new)
    (λ terminal. OpStep s w h terminal op r new)
