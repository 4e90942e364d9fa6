-- What the handles of a caller name, and the shapes of an answer.
use Rattle.std.specs.Prelude.{◌≡◌, ℕ, ◌+◌, Bool, false, ◌||◌, nat_lt, List, [], ◌∷◌, length, Option, Some, None}
use Rattle.std.specs.Prelude.{is_none, MatchBool}
use Rattle.tty_spec.specs.Terminal.{Terminal}
use Rattle.w32_base.specs.declared.call.Reply.{Reply}
use Rattle.w32_base.specs.declared.call.Reply.TheVariants as reply
use Rattle.win32_spec.specs.Handles.{Handle, handle_of, with_handle, IsLowestFree}
use Rattle.win32_spec.specs.Objects.{EventState, Ownership}
use Rattle.win32_spec.specs.State.{Object, Section, Event, Mutex, Pipe, ProcessObject, TerminalObject, Process}
use Rattle.win32_spec.specs.State.{Win32State}
use Rattle.win32_spec.specs.Lookup.{process_of, object_number, object_of, with_handles, with_new_object, IsFresh}

-- the handles of a process, and of none
abbrev pub handles_of : Option Process → List Handle
handles_of None = []
handles_of (Some p) = p.handles

abbrev pub handles_by : Win32State → ℕ → List Handle
handles_by s w = handles_of (process_of s.processes w)

-- what a handle of process w names, with the end or the face
abbrev pub named_by : Win32State → ℕ → ℕ → Option ℕ
named_by s w h = handle_of (handles_by s w) h

-- the number of the object that a handle names; 0 where the handle is absent
abbrev pub number_or_zero : Option ℕ → ℕ
number_or_zero None = 0
number_or_zero (Some names) = object_number names

abbrev pub object_number_by : Win32State → ℕ → ℕ → ℕ
object_number_by s w h = number_or_zero (named_by s w h)

abbrev pub object_at : Win32State → Option ℕ → Option Object
object_at s None = None
object_at s (Some names) = object_of s.objects (object_number names)

-- the object that a handle of process w names
abbrev pub object_by : Win32State → ℕ → ℕ → Option Object
object_by s w h = object_at s (named_by s w h)

-- Of an object what it is by its kind, and none where it is of another kind.
abbrev pub section_named : Option Object → Option (List ℕ)
section_named (Some (Section words)) = Some words
section_named (Some (Event e)) = None
section_named (Some (Mutex owner)) = None
section_named (Some (Pipe bytes)) = None
section_named (Some (ProcessObject v)) = None
section_named (Some (TerminalObject terminal)) = None
section_named None = None

abbrev pub event_named : Option Object → Option EventState
event_named (Some (Section words)) = None
event_named (Some (Event e)) = Some e
event_named (Some (Mutex owner)) = None
event_named (Some (Pipe bytes)) = None
event_named (Some (ProcessObject v)) = None
event_named (Some (TerminalObject terminal)) = None
event_named None = None

abbrev pub mutex_named : Option Object → Option Ownership
mutex_named (Some (Section words)) = None
mutex_named (Some (Event e)) = None
mutex_named (Some (Mutex owner)) = Some owner
mutex_named (Some (Pipe bytes)) = None
mutex_named (Some (ProcessObject v)) = None
mutex_named (Some (TerminalObject terminal)) = None
mutex_named None = None

abbrev pub pipe_named : Option Object → Option (List ℕ)
pipe_named (Some (Section words)) = None
pipe_named (Some (Event e)) = None
pipe_named (Some (Mutex owner)) = None
pipe_named (Some (Pipe bytes)) = Some bytes
pipe_named (Some (ProcessObject v)) = None
pipe_named (Some (TerminalObject terminal)) = None
pipe_named None = None

abbrev pub process_named : Option Object → Option ℕ
process_named (Some (Section words)) = None
process_named (Some (Event e)) = None
process_named (Some (Mutex owner)) = None
process_named (Some (Pipe bytes)) = None
process_named (Some (ProcessObject v)) = Some v
process_named (Some (TerminalObject terminal)) = None
process_named None = None

abbrev pub terminal_named : Option Object → Option Terminal
terminal_named (Some (Section words)) = None
terminal_named (Some (Event e)) = None
terminal_named (Some (Mutex owner)) = None
terminal_named (Some (Pipe bytes)) = None
terminal_named (Some (ProcessObject v)) = None
terminal_named (Some (TerminalObject terminal)) = Some terminal
terminal_named None = None

-- whether a list of handles names an absent one
abbrev pub has_absent : List Handle → List ℕ → Bool
has_absent handles [] = false
has_absent handles (h ∷ hs) = is_none (handle_of handles h) || has_absent handles hs

-- whether so many handles more don't fit: a process has at most 64
abbrev pub is_full : List Handle → ℕ → Bool
is_full handles more = nat_lt 64 (length handles + more)

-- the reply is this one, and the state after the call is that one
abbrev pub Gives : Reply → Win32State → Reply → Win32State → Type 0
Gives answer after reply new = (reply ≡ answer) × (new ≡ after)

-- Process w gets a handle, with its lowest free number, on what `names` is, in the state `before` in which all else
-- is done. The reply tells the handle's number.
pub record IsHandled (s before : Win32State) (w names : ℕ) (answer : ℕ → Reply) (r : Reply)
    (new : Win32State) : Type 0 where
  pub handle : ℕ
  pub lowest : IsLowestFree (handles_by s w) handle
  pub answered : r ≡ answer handle
  pub after : new ≡ with_handles before w (with_handle (handles_by s w) handle names)

-- the same where the handle fits; where it doesn't, nothing is changed
abbrev pub GetsHandle : Win32State → ℕ → ℕ → Reply → Win32State → Type 0
GetsHandle s w names r new =
    MatchBool (is_full (handles_by s w) 1) (Gives reply.TableFull s r new) (IsHandled s s w names reply.Handle r new)

-- a new object, with a fresh number, and a handle on it
pub record IsNewObject (s : Win32State) (w : ℕ) (object : Object) (r : Reply) (new : Win32State) : Type 0 where
  pub number : ℕ
  pub fresh : IsFresh s number
  pub handled : IsHandled s (with_new_object s number object) w number reply.Handle r new

-- the same where the handle fits
abbrev pub MakesObject : Win32State → ℕ → Object → Reply → Win32State → Type 0
MakesObject s w object r new =
    MatchBool (is_full (handles_by s w) 1) (Gives reply.TableFull s r new) (IsNewObject s w object r new)
