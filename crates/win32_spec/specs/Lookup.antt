-- Finding and changing processes, threads and objects in a state.
use Rattle.std.specs.Prelude.{◌≡◌, ℕ, ◌*◌, ◌/◌, ◌<◌, ◌≤◌, Bool, true, false, ◌&&◌, nat_eq, nat_lt, if◌then◌else◌, List}
use Rattle.std.specs.Prelude.{[], ◌∷◌, Option, Some, None, IsSome, slice_index_or}
use Rattle.tty_spec.specs.Terminal.{Terminal}
use Rattle.w32_base.specs.declared.call.Call.{Call}
use Rattle.w32_base.specs.declared.own.Own.{Own}
use Rattle.win32_spec.specs.Handles.{Handle}
use Rattle.win32_spec.specs.State.{Object, Section, Event, Mutex, Pipe, ProcessObject, TerminalObject, NumberedObject}
use Rattle.win32_spec.specs.State.{Thread, Life, Alive, Ended, Process, Win32State}

abbrev pub is_alive : Life → Bool
is_alive Alive = true
is_alive (Ended code) = false

-- memory without bytes, as the host and an ended process have it
abbrev pub no_memory : Own
no_memory = record { dat = []; heap = []; stack = []; cyg = []; scratch = [] }

-- the process with this Win32 number
abbrev pub process_of : List Process → ℕ → Option Process
process_of [] w = None
process_of (p ∷ ps) w = if nat_eq p.number w then Some p else process_of ps w

-- whether there is a process and it is alive; a number that no process has is that of one that has ended
abbrev pub is_live : Option Process → Bool
is_live None = false
is_live (Some p) = is_alive p.life

-- the live process in this slot
abbrev pub process_in : List Process → ℕ → Option Process
process_in [] slot = None
process_in (p ∷ ps) slot = if is_alive p.life && nat_eq p.slot slot then Some p else process_in ps slot

-- a live process stands in the slot
abbrev pub IsOccupied : List Process → ℕ → Type 0
IsOccupied ps slot = IsSome (process_in ps slot)

-- the slot is free, and each lower one from 1 up to it is occupied
pub record IsLowestFreeSlot (slots : ℕ) (ps : List Process) (slot : ℕ) : Type 0 where
  pub from_one : 1 ≤ slot
  pub most : slot ≤ slots
  pub free : process_in ps slot ≡ None
  pub lower : (k : ℕ) → 1 ≤ k → k < slot → IsOccupied ps k

-- each slot for layer processes is occupied
abbrev pub AreAllOccupied : ℕ → List Process → Type 0
AreAllOccupied slots ps = (k : ℕ) → 1 ≤ k → k ≤ slots → IsOccupied ps k

-- the thread with this number
abbrev pub thread_in : List Thread → ℕ → Option Thread
thread_in [] t = None
thread_in (x ∷ xs) t = if nat_eq x.number t then Some x else thread_in xs t

-- the thread of this number of the live process in this slot
abbrev pub thread_of : Option Process → ℕ → Option Thread
thread_of None t = None
thread_of (Some p) t = thread_in p.threads t

abbrev pub thread_at : Win32State → ℕ → ℕ → Option Thread
thread_at s slot t = thread_of (process_in s.processes slot) t

-- the Win32 number of the live process in this slot
abbrev pub number_of : Option Process → Option ℕ
number_of None = None
number_of (Some p) = Some p.number

abbrev pub number_in : Win32State → ℕ → Option ℕ
number_in s slot = number_of (process_in s.processes slot)

-- the memory of a process, and of none
abbrev pub memory_of : Option Process → Own
memory_of None = no_memory
memory_of (Some p) = p.own

abbrev pub memory_by : Win32State → ℕ → Own
memory_by s w = memory_of (process_of s.processes w)

-- the number of the object that a handle names, without the end of a pipe or the face of the terminal
abbrev pub object_number : ℕ → ℕ
object_number names = 2 * (names / 2)

-- the object with this number
abbrev pub object_of : List NumberedObject → ℕ → Option Object
object_of [] o = None
object_of (x ∷ xs) o = if nat_eq x.number o then Some x.object else object_of xs o

-- each process but that with this number stays
abbrev pub change_process : ℕ → (Process → Process) → List Process → List Process
change_process w f [] = []
change_process w f (p ∷ ps) = (if nat_eq p.number w then f p else p) ∷ change_process w f ps

-- each object but that with this number stays
abbrev pub change_object : ℕ → Object → List NumberedObject → List NumberedObject
change_object o new [] = []
change_object o new (x ∷ xs) = (if nat_eq x.number o then record x { object = new } else x) ∷ change_object o new xs

-- each thread but that with this number stays
abbrev pub change_thread : ℕ → (Thread → Thread) → List Thread → List Thread
change_thread t f [] = []
change_thread t f (x ∷ xs) = (if nat_eq x.number t then f x else x) ∷ change_thread t f xs

-- one more object, in its place by its number
abbrev pub add_object : ℕ → Object → List NumberedObject → List NumberedObject
add_object o new [] = record { number = o; object = new } ∷ []
add_object o new (x ∷ xs) =
    if nat_lt o x.number then record { number = o; object = new } ∷ x ∷ xs else x ∷ add_object o new xs

-- one more process, behind the others
abbrev pub add_process : Process → List Process → List Process
add_process new [] = new ∷ []
add_process new (p ∷ ps) = p ∷ add_process new ps

-- The state with one process, thread or object changed.
abbrev pub with_process : Win32State → ℕ → (Process → Process) → Win32State
with_process s w f = record s { processes = change_process w f s.processes }

abbrev pub with_thread : Win32State → ℕ → ℕ → (Thread → Thread) → Win32State
with_thread s w t f = with_process s w (λ p. record p { threads = change_thread t f p.threads })

abbrev pub with_posted : Win32State → ℕ → ℕ → Call → Win32State
with_posted s w t call = with_thread s w t (λ x. record x { posted = call })

abbrev pub with_own : Win32State → ℕ → Own → Win32State
with_own s w own = with_process s w (λ p. record p { own = own })

abbrev pub with_handles : Win32State → ℕ → List Handle → Win32State
with_handles s w handles = with_process s w (λ p. record p { handles = handles })

abbrev pub with_object : Win32State → ℕ → Object → Win32State
with_object s o object = record s { objects = change_object o object s.objects }

abbrev pub with_new_object : Win32State → ℕ → Object → Win32State
with_new_object s o object = record s { objects = add_object o object s.objects }

-- no object has the number, and it is even: the lowest bit is for an end or a face
pub record IsFresh (s : Win32State) (o : ℕ) : Type 0 where
  pub even : object_number o ≡ o
  pub free : object_of s.objects o ≡ None

-- the words of the section, where there is one; an absent word counts as 0
abbrev pub words_or : Object → Option (List ℕ) → Option (List ℕ)
words_or (Section words) rest = Some words
words_or (Event e) rest = rest
words_or (Mutex owner) rest = rest
words_or (Pipe bytes) rest = rest
words_or (ProcessObject v) rest = rest
words_or (TerminalObject terminal) rest = rest

abbrev pub section_words : List NumberedObject → Option (List ℕ)
section_words [] = None
section_words (x ∷ xs) = words_or x.object (section_words xs)

abbrev pub word_in : Option (List ℕ) → ℕ → ℕ
word_in None i = 0
word_in (Some words) i = slice_index_or words i 0

abbrev pub section_word : Win32State → ℕ → ℕ
section_word s i = word_in (section_words s.objects) i

-- the terminal, where there is one
abbrev pub terminal_or : Object → Option Terminal → Option Terminal
terminal_or (TerminalObject terminal) rest = Some terminal
terminal_or (Section words) rest = rest
terminal_or (Event e) rest = rest
terminal_or (Mutex owner) rest = rest
terminal_or (Pipe bytes) rest = rest
terminal_or (ProcessObject v) rest = rest

abbrev pub terminal_in : List NumberedObject → Option Terminal
terminal_in [] = None
terminal_in (x ∷ xs) = terminal_or x.object (terminal_in xs)
