-- The processes of the modelled Win32 that a table holds.
use Rattle.std.specs.Prelude.{ℕ, ◌+◌, nat_lt, if◌then◌else◌, List, [], ◌∷◌, Option, Some, None}
use Rattle.w32_base.specs.declared.call.Call.{Call}
use Rattle.win32_spec.specs.Lookup.{no_memory}
use Rattle.win32_spec.specs.State.{Thread, PlacedModule, Alive, Ended, Process}
use Rattle.w32_process.specs.declared.kept.Kept.{Kept}
use Rattle.w32_process.specs.Places.{Place}
use Rattle.w32_process.specs.Table.{Table}

-- one more process, in its place by its Win32 number
abbrev pub insert_process : Process → List Process → List Process
insert_process new [] = new ∷ []
insert_process new (p ∷ ps) = if nat_lt new.number p.number then new ∷ p ∷ ps else p ∷ insert_process new ps

-- the threads with these suspend counts, by their numbers from one on, each with its posted call
abbrev pub threads_from : (ℕ → Call) → ℕ → List ℕ → List Thread
threads_from posted t [] = []
threads_from posted t (count ∷ counts) =
    record { number = t; suspended = count; posted = posted t } ∷ threads_from posted (t + 1) counts

-- a process that is kept after its end
abbrev pub kept_process : Kept → Process
kept_process e = record {
  number = e.number;
  slot = e.slot;
  program = e.program;
  life = Ended e.code;
  threads = [];
  handles = [];
  own = no_memory;
  placed = [];
}

-- those that are kept
abbrev pub kept_processes : List Kept → List Process
kept_processes [] = []
kept_processes (e ∷ es) = insert_process (kept_process e) (kept_processes es)

-- What is known of a slot beside the table: each thread's posted call, and the modules that are placed.
module _ (posted : ℕ → ℕ → Call) (placed : ℕ → List PlacedModule) where
  -- the live process with this number in a slot
  abbrev pub live_process : (slot w : ℕ) → Place → Process
  live_process slot w place = record {
    number = w;
    slot = slot;
    program = place.program;
    life = Alive;
    threads = threads_from (posted slot) 0 place.suspended;
    handles = place.handles;
    own = place.own;
    placed = placed slot;
  }

  -- with the process of a slot, where it has one
  abbrev pub with_process_in : ℕ → Place → Option ℕ → List Process → List Process
  with_process_in slot place None ps = ps
  with_process_in slot place (Some w) ps = insert_process (live_process slot w place) ps

  -- with the processes of the slots from one on
  abbrev pub with_processes_from : ℕ → List Place → List Process → List Process
  with_processes_from slot [] ps = ps
  with_processes_from slot (place ∷ places) ps =
      with_process_in slot place place.number (with_processes_from (slot + 1) places ps)

  -- all processes, by rising Win32 number
  abbrev pub processes_of : Table → List Process
  processes_of t = with_processes_from 0 t.slots (kept_processes t.kept)
