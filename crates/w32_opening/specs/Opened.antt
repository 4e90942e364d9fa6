-- The machine's tables as a run of a script begins.
use Rattle.std.proofs.Common.{◌≡◌, ℕ, ◌-◌, ◌/◌, nat_eq, if◌then◌else◌, List, [], ◌∷◌, replicate, Option, Some, None}
use Rattle.std.proofs.Common.{slice_get, arith}
use Rattle.tty_spec.specs.Terminal.{opening_terminal}
use Rattle.w32_base.specs.declared.setup.Program.{Program}
use Rattle.script_spec.specs.declared.script.Script.{Script}
use Rattle.win32_spec.specs.Objects.{Free}
use Rattle.win32_spec.specs.Opening.{opening_words, opening_memory, OpeningNumbers, opening_host, opening_handles}
use Rattle.win32_spec.specs.State.{Object, Section, Mutex, ProcessObject, TerminalObject, PlacedModule}
use Rattle.w32_handles.specs.Table.{HeldObject}
use Rattle.w32_process.specs.Places.{Place, empty_place, host_place, made_place}
use Rattle.w32_process.specs.Table as processes
use Rattle.w32_kinds.specs.declared.kind.Kind.{Kind}
use Rattle.w32_kinds.specs.declared.kind.Kind.TheVariants as kind
use Rattle.w32_kinds.specs.Shown.{shown}
use Rattle.w32_opening.specs.declared.numbers.Numbers.{Numbers}

-- the numbers of the four objects
abbrev pub opening_numbers : Numbers → OpeningNumbers
opening_numbers n = record {
  section = n.section;
  mutex = n.mutex;
  terminal = n.terminal;
  process = n.process;
  section_even = omega (arith, n.section_even);
  mutex_even = omega (arith, n.mutex_even);
  terminal_even = omega (arith, n.terminal_even);
  process_even = omega (arith, n.process_even);
  mutex_above = n.mutex_above;
  terminal_above = n.terminal_above;
  process_above = n.process_above;
}

-- the host with its handles
abbrev pub opened_host : OpeningNumbers → Place
opened_host numbers = record host_place { handles = (opening_host numbers).handles }

-- the first layer process: its main thread isn't suspended, and its modules are placed
abbrev pub opened_place : OpeningNumbers → Program → List PlacedModule → Place
opened_place numbers program placed =
    record (made_place 2 0 program (opening_handles numbers))
    { suspended = 0 ∷ 1 ∷ 1 ∷ []; own = opening_memory program placed }

-- both processes, and the other slots are empty
abbrev pub opened_table : ℕ → OpeningNumbers → Program → List PlacedModule → processes.Table
opened_table slots numbers program placed = record {
  next = 3;
  slots = opened_host numbers ∷ opened_place numbers program placed ∷ replicate (slots - 1) empty_place;
  kept = [];
}

pub record IsOpenedTable (script : Script) (numbers : OpeningNumbers) (placed : List PlacedModule)
    (t : processes.Table) : Type 0 where
  pub program : Program
  pub first : slice_get script.setup.programs 0 ≡ Some program
  pub table : t ≡ opened_table script.setup.limits.slots numbers program placed

-- the slot of the process that an object is of, and 0 of another one
abbrev pub slot_of : Kind → ℕ
slot_of (kind.Section words) = 0
slot_of (kind.Event e) = 0
slot_of (kind.Mutex owner) = 0
slot_of (kind.Pipe p) = 0
slot_of (kind.Process w slot) = slot
slot_of (kind.Terminal terminal) = 0

-- what an object is, with that slot and its holders
abbrev pub kept_shown : Option (HeldObject Kind) → Option (Object × ℕ × ℕ)
kept_shown None = None
kept_shown (Some kept) = Some (shown kept.object, slot_of kept.object, kept.holders)

-- the four objects: the host and the first layer process both have handles on all but the last one
abbrev pub opening_at : Numbers → ℕ → Option (Object × ℕ × ℕ)
opening_at n o =
    if nat_eq (o / 2) (n.section / 2) then Some (Section opening_words, 0, 2)
    else if nat_eq (o / 2) (n.mutex / 2) then Some (Mutex Free, 0, 2)
    else if nat_eq (o / 2) (n.terminal / 2) then Some (TerminalObject opening_terminal, 0, 2)
    else if nat_eq (o / 2) (n.process / 2) then Some (ProcessObject 2, 1, 1)
    else None
