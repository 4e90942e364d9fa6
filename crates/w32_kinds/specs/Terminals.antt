-- What each call on the terminal does to an object.
use Rattle.std.specs.Prelude.{◌≡◌, ℕ, Bool, ◌&&◌, not, List, Option, Some, None, Result, Ok, Err, MatchBool}
use Rattle.std.specs.Prelude.{MatchOption}
use Rattle.tty_spec.specs.Terminal.{Terminal, terminal_session}
use Rattle.tty_spec.specs.Discipline.{after_key, after_take}
use Rattle.w32_base.specs.declared.call.Reply.{Reply}
use Rattle.w32_base.specs.declared.call.Reply.TheVariants as reply
use Rattle.win32_spec.specs.TerminalCalls.{with_terminal, signal_number, is_background}
use Rattle.win32_spec.specs.Named.{object_by, terminal_named}
use Rattle.win32_spec.specs.State.{Win32State}
use Rattle.w32_kinds.specs.declared.kind.Kind.{Kind}
use Rattle.w32_kinds.specs.declared.kind.Kind.TheVariants as kind
use Rattle.w32_kinds.specs.Kinds.{Refuses}

-- the terminal that an object is, or none
abbrev pub terminal_of : Kind → Option Terminal
terminal_of (kind.Terminal terminal) = Some terminal.value
terminal_of (kind.Section words) = None
terminal_of (kind.Event e) = None
terminal_of (kind.Mutex owner) = None
terminal_of (kind.Pipe p) = None
terminal_of (kind.Process w slot) = None

-- what holds of the terminal; an object of another kind stays as it is
abbrev pub OfTerminal : Option Terminal → (Terminal → Type 0) → Kind → Reply → Kind → Type 0
OfTerminal None P old r new = Refuses old r new
OfTerminal (Some terminal) P old r new = P terminal

abbrev pub AtTerminal : (Terminal → Type 0) → Kind → Reply → Kind → Type 0
AtTerminal P old r new = OfTerminal (terminal_of old) P old r new

-- another terminal
abbrev pub Becomes : Reply → Terminal → Reply → Kind → Type 0
Becomes answer terminal r new = (r ≡ answer) × (terminal_of new ≡ Some terminal)

-- it is left as it is
abbrev pub Stays : Reply → Kind → Reply → Kind → Type 0
Stays answer old r new = (r ≡ answer) × (new ≡ old)

-- a key
abbrev pub Presses : ℕ → Kind → Reply → Kind → Type 0
Presses b old r new =
    AtTerminal (λ t. Becomes (reply.Key b (signal_number (after_key t b).signal) t.foreground) (after_key t b).terminal
    r new) old r new

-- a change that a background group may make by force alone
abbrev pub ChangesBy : ℕ → Bool → (Terminal → Terminal) → Kind → Reply → Kind → Type 0
ChangesBy group force change old r new =
    AtTerminal (λ t. MatchBool (is_background t group && not force) (Stays reply.Background old r new)
    (Becomes reply.Done (change t) r new)) old r new

-- what the terminal tells of itself
abbrev pub Tells : Kind → Reply → Type 0
Tells old r = OfTerminal (terminal_of old)
    (λ t. r ≡ reply.State t.foreground terminal_session t.flags) old r old

-- the bytes that a read takes from it, or why it takes none
abbrev pub TakesLine : ℕ → ℕ → Kind → Result (List ℕ) Reply → Kind → Type 0
TakesLine group count old found new =
    MatchOption (terminal_of old) ((found ≡ Err reply.BadHandle) × (new ≡ old)) (λ t.
    MatchBool (is_background t group) ((found ≡ Err reply.Background) × (new ≡ old))
    (MatchOption (after_take t count) ((found ≡ Err reply.NoLine) × (new ≡ old)) (λ taken.
    (found ≡ Ok taken.bytes) × (terminal_of new ≡ Some taken.terminal))))

-- the same of the terminal that a handle of process w names
abbrev pub LineStep : Win32State → ℕ → ℕ → ℕ → ℕ → Result (List ℕ) Reply → Win32State → Type 0
LineStep s w h group count found new =
    MatchOption (terminal_named (object_by s w h)) ((found ≡ Err reply.BadHandle) × (new ≡ s)) (λ t.
    MatchBool (is_background t group) ((found ≡ Err reply.Background) × (new ≡ s))
    (MatchOption (after_take t count) ((found ≡ Err reply.NoLine) × (new ≡ s)) (λ taken.
    (found ≡ Ok taken.bytes) × (new ≡ with_terminal s w h taken.terminal))))
