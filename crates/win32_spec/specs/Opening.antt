-- The state in which a run of a script begins.
use Rattle.std.specs.Prelude.{◌≡◌, ℕ, ◌+◌, ◌-◌, ◌*◌, ◌/◌, ◌%◌, ◌^◌, ◌<◌, List, [], ◌∷◌, ◌++◌, length, replicate, Some}
use Rattle.std.specs.Prelude.{None, slice_get}
use Rattle.tty_spec.specs.Terminal.{opening_terminal}
use Rattle.w32_base.specs.declared.own.Own.{Own}
use Rattle.w32_base.specs.declared.setup.Module.{Module}
use Rattle.w32_base.specs.declared.setup.Program.{Program}
use Rattle.script_spec.specs.declared.script.Script.{Script}
use Rattle.win32_spec.specs.Handles.{Handle}
use Rattle.win32_spec.specs.Objects.{Free}
use Rattle.win32_spec.specs.Regions.{IsPlaceFor}
use Rattle.win32_spec.specs.State.{Section, Mutex, ProcessObject, TerminalObject, NumberedObject, PlacedModule, Alive}
use Rattle.win32_spec.specs.State.{Process, Win32State}
use Rattle.win32_spec.specs.Lookup.{no_memory, object_number}
use Rattle.win32_spec.specs.Making.{new_thread, new_memory, new_process}
use Rattle.win32_spec.specs.Placing.{taken_pages, and_placed}

-- row 1's main word: Running (kind 2, from bit 50 on), image 2 (from bit 31 on)
abbrev pub first_main_word : ℕ
first_main_word = 2 * 2 ^ 50 + 2 * 2 ^ 31

-- row 1's group word: parent 1, group 2 (from bit 12 on), session 2 (from bit 24 on), the terminal (bit 36)
abbrev pub first_group_word : ℕ
first_group_word = 1 + 2 * 2 ^ 12 + 2 * 2 ^ 24 + 2 ^ 36

-- the section's 12,001 words: one row is claimed, and it has its main word and its group word
unfoldable pub opening_words : List ℕ
opening_words = 1 ∷ first_main_word ∷ first_group_word ∷ replicate 11998 0

-- These modules, of which the first is the script's module m, are placed one after another in the process of this
-- creation, in which some are placed already.
abbrev pub ArePlaced : Script → ℕ → ℕ → List Module → (before after : List PlacedModule) → Type 0
ArePlaced script creation m [] before after = after ≡ before
ArePlaced script creation m (wanted ∷ others) before after =
    (base : ℕ) × IsPlaceFor (taken_pages script creation before) wanted.base wanted.size base
    × ArePlaced script creation (m + 1) others (and_placed before m base) after

-- the first pages of placed modules, each in two bytes, the low one first
abbrev pub base_bytes : List PlacedModule → List ℕ
base_bytes [] = []
base_bytes (m ∷ ms) = m.base % 256 ∷ m.base / 256 ∷ base_bytes ms

-- the cygheap of the first layer process: version 1 at 0, the first pages of its modules from 140 on, and zeros
unfoldable pub opening_cygheap : List PlacedModule → List ℕ
opening_cygheap placed = 1 ∷ replicate 139 0 ++ base_bytes placed ++ replicate (148 - length (base_bytes placed)) 0

-- its memory: as that of every new process, but for the cygheap
abbrev pub opening_memory : Program → List PlacedModule → Own
opening_memory program placed = record (new_memory 0 program) { cyg = opening_cygheap placed }

-- the numbers of the objects: any even ones, in this order
pub record OpeningNumbers : Type 0 where
  pub section : ℕ
  pub mutex : ℕ
  pub terminal : ℕ
  pub process : ℕ
  pub section_even : object_number section ≡ section
  pub mutex_even : object_number mutex ≡ mutex
  pub terminal_even : object_number terminal ≡ terminal
  pub process_even : object_number process ≡ process
  pub mutex_above : section < mutex
  pub terminal_above : mutex < terminal
  pub process_above : terminal < process

-- the host: its handles are on the section, the roster mutex, the terminal's `keys` face and the first layer process
abbrev pub opening_host : OpeningNumbers → Process
opening_host numbers = record {
  number = 1;
  slot = 0;
  program = None;
  life = Alive;
  threads = new_thread 0 0 ∷ new_thread 1 0 ∷ [];
  handles = record { number = 1; names = numbers.section } ∷ record { number = 2; names = numbers.mutex }
      ∷ record { number = 3; names = numbers.terminal } ∷ record { number = 4; names = numbers.process } ∷ [];
  own = no_memory;
  placed = [];
}

-- the handles of the first layer process: on the section, the roster mutex and the terminal's `lines` face
abbrev pub opening_handles : OpeningNumbers → List Handle
opening_handles numbers = record { number = 1; names = numbers.section } ∷ record { number = 2; names = numbers.mutex }
    ∷ record { number = 3; names = numbers.terminal + 1 } ∷ []

-- The first layer process runs the script's first program. Its main thread isn't suspended, and its modules are placed.
abbrev pub opening_process : OpeningNumbers → Program → List PlacedModule → Process
opening_process numbers program placed =
    record (new_process 2 1 0 program 0 (opening_handles numbers))
    { own = opening_memory program placed; placed = placed }

abbrev pub opening_objects : OpeningNumbers → List NumberedObject
opening_objects numbers = record { number = numbers.section; object = Section opening_words }
    ∷ record { number = numbers.mutex; object = Mutex Free }
    ∷ record { number = numbers.terminal; object = TerminalObject opening_terminal }
    ∷ record { number = numbers.process; object = ProcessObject 2 } ∷ []

abbrev pub opening : OpeningNumbers → Program → List PlacedModule → Win32State
opening numbers program placed = record {
  processes = opening_host numbers ∷ opening_process numbers program placed ∷ [];
  objects = opening_objects numbers;
  next = 3;
  keys = [];
}

-- the state in which a run of this script begins
pub record IsOpening (script : Script) (s : Win32State) : Type 0 where
  pub program : Program
  pub first : slice_get script.setup.programs 0 ≡ Some program
  pub placed : List PlacedModule
  pub in_order : ArePlaced script 1 0 script.setup.modules [] placed
  pub numbers : OpeningNumbers
  pub state : s ≡ opening numbers program placed
