-- The state of the modelled Win32.
use Rattle.std.specs.Prelude.{ℕ, List, Option}
use Rattle.w32_base.specs.declared.call.Call.{Call}
use Rattle.w32_base.specs.declared.own.Own.{Own}
use Rattle.tty_spec.specs.Terminal.{Terminal}
use Rattle.win32_spec.specs.Handles.{Handle}
use Rattle.win32_spec.specs.Objects.{EventState, Ownership}

-- an object
pub data Object : Type 0 where
  Section : (words : List ℕ) → Object
  Event : (event : EventState) → Object
  Mutex : (owner : Ownership) → Object
  Pipe : (bytes : List ℕ) → Object
  ProcessObject : (number : ℕ) → Object
  TerminalObject : (terminal : Terminal) → Object

-- an object with its number, whose lowest bit is 0
pub record NumberedObject : Type 0 where
  pub number : ℕ
  pub object : Object

-- a thread: its number, how often it is suspended, and its posted call
pub record Thread : Type 0 where
  pub number : ℕ
  pub suspended : ℕ
  pub posted : Call

-- a module that is placed: its place in the script and its first page
pub record PlacedModule : Type 0 where
  pub module_no : ℕ
  pub base : ℕ

-- alive, or ended with a code
pub data Life : Type 0 where
  Alive : Life
  Ended : (code : ℕ) → Life

-- a process: its Win32 number, its slot, the place of its program in the script or none for the host
pub record Process : Type 0 where
  pub number : ℕ
  pub slot : ℕ
  pub program : Option ℕ
  pub life : Life
  pub threads : List Thread
  pub handles : List Handle
  pub own : Own
  pub placed : List PlacedModule

-- The whole state: the processes by rising Win32 number, the objects by rising number, the number of the next
-- process, and the keys that the console hasn't taken. A process that has ended, and an object, is in its list
-- only while a handle of a live process names it.
pub record Win32State : Type 0 where
  pub processes : List Process
  pub objects : List NumberedObject
  pub next : ℕ
  pub keys : List ℕ
