-- What a state keeps to, from the opening on: well-formed states.
use Rattle.std.specs.Prelude.{◌≡◌, ℕ, ◌+◌, ◌≤◌, ◌<◌, Bool, true, false, List, [], ◌∷◌, length, Option, Some, None}
use Rattle.std.specs.Prelude.{slice_get, MatchOption}
use Rattle.w32_base.specs.declared.own.Own.{Own}
use Rattle.w32_base.specs.declared.setup.Module.{Module}
use Rattle.w32_base.specs.declared.setup.Program.{Program}
use Rattle.script_spec.specs.declared.script.Script.{Script}
use Rattle.win32_spec.specs.Handles.{handle_of, AreRisingFrom}
use Rattle.win32_spec.specs.Objects.{Ownership, Free, Owned, Abandoned}
use Rattle.win32_spec.specs.State.{Object, Section, Event, Mutex, Pipe, ProcessObject, TerminalObject, NumberedObject}
use Rattle.win32_spec.specs.State.{Thread, PlacedModule, Life, Alive, Ended, Process, Win32State}
use Rattle.win32_spec.specs.Lookup.{is_alive, no_memory, process_of, is_live, object_number, object_of}
use Rattle.win32_spec.specs.Ends.{is_object_held, is_process_held}
use Rattle.win32_spec.specs.Making.{threads_of}
use Rattle.win32_spec.specs.Placing.{base_in}

-- processes by rising numbers, from `low` on and below `next`
abbrev pub AreRisingProcesses : ℕ → ℕ → List Process → Type 0
AreRisingProcesses low next [] = Unit {0}
AreRisingProcesses low next (p ∷ ps) = (low ≤ p.number) × (p.number < next) × AreRisingProcesses (p.number + 1) next ps

-- objects by rising even numbers, from `low` on
abbrev pub AreRisingObjects : ℕ → List NumberedObject → Type 0
AreRisingObjects low [] = Unit {0}
AreRisingObjects low (x ∷ xs) = (low ≤ x.number) × (object_number x.number ≡ x.number)
    × AreRisingObjects (x.number + 1) xs

-- threads with these numbers, each suspended at most 100 times
abbrev pub AreThreads : List ℕ → List Thread → Type 0
AreThreads [] [] = Unit {0}
AreThreads [] (x ∷ xs) = ⊥
AreThreads (t ∷ ts) [] = ⊥
AreThreads (t ∷ ts) (x ∷ xs) = (x.number ≡ t) × (x.suspended ≤ 100) × AreThreads ts xs

-- the sizes of the regions
pub record HasSizes (own : Own) (dat heap stack cyg scratch : ℕ) : Type 0 where
  pub dat_size : length own.dat ≡ dat
  pub heap_size : length own.heap ≡ heap
  pub stack_size : length own.stack ≡ stack
  pub cyg_size : length own.cyg ≡ cyg
  pub scratch_size : length own.scratch ≡ scratch

-- placed modules: each is one of the script's, lies in the 1024 pages, and is placed once
pub record IsPlaced (modules : List Module) (m : PlacedModule) : Type 0 where
  pub wanted : Module
  pub listed : slice_get modules m.module_no ≡ Some wanted
  pub within : m.base + wanted.size ≤ 1024

abbrev pub AreModules : List Module → List PlacedModule → Type 0
AreModules modules [] = Unit {0}
AreModules modules (m ∷ ms) = IsPlaced modules m × (base_in ms m.module_no ≡ None) × AreModules modules ms

-- the host: it has no program, no memory and no modules
pub record IsHost (p : Process) : Type 0 where
  pub number : p.number ≡ 1
  pub slot : p.slot ≡ 0
  pub sizes : HasSizes p.own 0 0 0 0 0
  pub placed : p.placed ≡ []

-- a layer process: it runs a program of the script, has its memory, and stands in a slot of its own
pub record IsLayerProcess (script : Script) (p : Process) (program_no : ℕ) : Type 0 where
  pub number : 2 ≤ p.number
  pub from_one : 1 ≤ p.slot
  pub most : p.slot ≤ script.setup.limits.slots
  pub program : Program
  pub listed : slice_get script.setup.programs program_no ≡ Some program
  pub sizes : HasSizes p.own 64 program.heap program.stack 288 512
  pub placed : AreModules script.setup.modules p.placed

-- whether a handle's lowest bit tells an end of the object, or a face
abbrev pub has_ends : Object → Bool
has_ends (Section words) = false
has_ends (Event e) = false
has_ends (Mutex owner) = false
has_ends (Pipe bytes) = true
has_ends (ProcessObject v) = false
has_ends (TerminalObject terminal) = true

-- it is 0 on every other object
abbrev pub FitsEnd : ℕ → Object → Type 0
FitsEnd names x = has_ends x ≡ false → object_number names ≡ names

-- what a handle names is a listed object, by an end or a face that it has
abbrev pub IsListed : List NumberedObject → ℕ → Type 0
IsListed objects names = MatchOption (object_of objects (object_number names)) ⊥ (FitsEnd names)

-- a live process: its threads are those of its slot, and its handles have rising numbers from 1 to 64 and name listed
-- objects
pub record IsLiveProcess (script : Script) (objects : List NumberedObject) (p : Process) : Type 0 where
  pub kind : MatchOption p.program (IsHost p) (IsLayerProcess script p)
  pub threads : AreThreads (threads_of p.slot) p.threads
  pub rising : AreRisingFrom 1 p.handles
  pub naming : (h names : ℕ) → handle_of p.handles h ≡ Some names → IsListed objects names

-- a process that has ended: its code is all that is left
pub record IsEndedProcess (p : Process) : Type 0 where
  pub threads : p.threads ≡ []
  pub handles : p.handles ≡ []
  pub own : p.own ≡ no_memory
  pub placed : p.placed ≡ []

abbrev pub IsProcessBy : Script → List NumberedObject → Process → Life → Type 0
IsProcessBy script objects p Alive = IsLiveProcess script objects p
IsProcessBy script objects p (Ended code) = IsEndedProcess p

-- an owner is a thread of a live process
abbrev pub IsOwnership : List Process → Ownership → Type 0
IsOwnership processes Free = Unit {0}
IsOwnership processes (Owned v t) = (is_live (process_of processes v) ≡ true) × (t ≤ 2)
IsOwnership processes Abandoned = Unit {0}

-- an object by its kind: the section has its words, a pipe at most 64 bytes, and the object of a process its process
abbrev pub IsObject : List Process → Object → Type 0
IsObject processes (Section words) = length words ≡ 12001
IsObject processes (Event e) = Unit {0}
IsObject processes (Mutex owner) = IsOwnership processes owner
IsObject processes (Pipe bytes) = length bytes ≤ 64
IsObject processes (ProcessObject v) = (p : Process) × (process_of processes v ≡ Some p)
IsObject processes (TerminalObject terminal) = Unit {0}

-- Objects of which there is one at most have a number: the section, the terminal, and the object of each process.
abbrev pub only_number : Object → Option ℕ
only_number (Section words) = Some 0
only_number (Event e) = None
only_number (Mutex owner) = None
only_number (Pipe bytes) = None
only_number (ProcessObject v) = Some (v + 2)
only_number (TerminalObject terminal) = Some 1

-- All of a well-formed state, but that nothing is listed which nobody holds.
pub record IsFormed (script : Script) (s : Win32State) : Type 0 where
  pub next : 3 ≤ s.next
  pub processes : AreRisingProcesses 1 s.next s.processes
  pub objects : AreRisingObjects 0 s.objects
  pub process : (w : ℕ) (p : Process) → process_of s.processes w ≡ Some p → IsProcessBy script s.objects p p.life
  pub one_a_slot : (v w : ℕ) (p q : Process) → process_of s.processes v ≡ Some p → process_of s.processes w ≡ Some q
      → is_alive p.life ≡ true → is_alive q.life ≡ true → p.slot ≡ q.slot → v ≡ w
  pub object : (o : ℕ) (x : Object) → object_of s.objects o ≡ Some x → IsObject s.processes x
  pub only : (a b : ℕ) (x y : Object) (k : ℕ) → object_of s.objects a ≡ Some x → object_of s.objects b ≡ Some y
      → only_number x ≡ Some k → only_number y ≡ Some k → a ≡ b

-- A well-formed state: some handle names each object, and some object is that of each process that has ended.
pub record IsWellFormed (script : Script) (s : Win32State) : Type 0 where
  pub formed : IsFormed script s
  pub object_held : (o : ℕ) (x : Object) → object_of s.objects o ≡ Some x → is_object_held s.processes o ≡ true
  pub process_held : (w : ℕ) (p : Process) → process_of s.processes w ≡ Some p → is_alive p.life ≡ false
      → is_process_held s.objects w ≡ true
