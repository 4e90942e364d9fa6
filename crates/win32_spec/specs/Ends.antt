-- What nobody holds any more, and the end of a process.
use Rattle.std.specs.Prelude.{ℕ, Bool, false, ◌&&◌, ◌||◌, nat_eq, if◌then◌else◌, List, [], ◌∷◌}
use Rattle.win32_spec.specs.Handles.{Handle}
use Rattle.win32_spec.specs.Objects.{left_by}
use Rattle.win32_spec.specs.State.{Object, Section, Event, Mutex, Pipe, ProcessObject, TerminalObject, NumberedObject}
use Rattle.win32_spec.specs.State.{Ended, Process, Win32State}
use Rattle.win32_spec.specs.Lookup.{is_alive, no_memory, object_number, change_process}

-- whether a handle of a list names the object
abbrev pub names_object : List Handle → ℕ → Bool
names_object [] o = false
names_object (h ∷ hs) o = nat_eq (object_number h.names) o || names_object hs o

-- whether a handle of some live process names the object
abbrev pub is_object_held : List Process → ℕ → Bool
is_object_held [] o = false
is_object_held (p ∷ ps) o = (is_alive p.life && names_object p.handles o) || is_object_held ps o

-- the objects that some handle names
abbrev pub held_objects : List Process → List NumberedObject → List NumberedObject
held_objects ps [] = []
held_objects ps (x ∷ xs) = if is_object_held ps x.number then x ∷ held_objects ps xs else held_objects ps xs

-- whether it is the object of process w
abbrev pub is_object_of : Object → ℕ → Bool
is_object_of (ProcessObject v) w = nat_eq v w
is_object_of (Section words) w = false
is_object_of (Event e) w = false
is_object_of (Mutex owner) w = false
is_object_of (Pipe bytes) w = false
is_object_of (TerminalObject terminal) w = false

-- whether one of the objects is that of process w
abbrev pub is_process_held : List NumberedObject → ℕ → Bool
is_process_held [] w = false
is_process_held (x ∷ xs) w = is_object_of x.object w || is_process_held xs w

-- the processes that live or whose object is among these
abbrev pub kept_processes : List NumberedObject → List Process → List Process
kept_processes os [] = []
kept_processes os (p ∷ ps) = if is_alive p.life || is_process_held os p.number then p ∷ kept_processes os ps
    else kept_processes os ps

-- the state without what nobody names: such objects, and then such ended processes
abbrev pub swept : Win32State → Win32State
swept s = let os = held_objects s.processes s.objects in
    record s { processes = kept_processes os s.processes; objects = os }

-- what the end of process w leaves of an object: a mutex that it owns is abandoned
abbrev pub object_left_by : ℕ → Object → Object
object_left_by w (Mutex owner) = Mutex (left_by owner w)
object_left_by w (Section words) = Section words
object_left_by w (Event e) = Event e
object_left_by w (Pipe bytes) = Pipe bytes
object_left_by w (ProcessObject v) = ProcessObject v
object_left_by w (TerminalObject terminal) = TerminalObject terminal

abbrev pub objects_left_by : ℕ → List NumberedObject → List NumberedObject
objects_left_by w [] = []
objects_left_by w (x ∷ xs) = record x { object = object_left_by w x.object } ∷ objects_left_by w xs

-- a process after its end: its number, its slot, its program and its code are all that is left
abbrev pub ended_process : ℕ → Process → Process
ended_process code p = record p { life = Ended code; threads = []; handles = []; own = no_memory; placed = [] }

-- the state in which process w has ended with a code, its handles are closed and its mutexes abandoned
abbrev pub with_ended : Win32State → ℕ → ℕ → Win32State
with_ended s w code =
    record s { processes = change_process w (ended_process code) s.processes; objects = objects_left_by w s.objects }

-- the state after that end: what nobody names any more goes with it
abbrev pub with_end : Win32State → ℕ → ℕ → Win32State
with_end s w code = swept (with_ended s w code)
