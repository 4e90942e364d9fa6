-- The Win32 state that the machine's tables stand for.
use Rattle.std.specs.Prelude.{ℕ, ◌+◌, ◌*◌, nat_lt, if◌then◌else◌, List, [], slice_index_or}
use Rattle.w32_base.specs.declared.call.Call.{Call}
use Rattle.win32_spec.specs.State.{PlacedModule}
use Rattle.win32_spec.specs.Making.{opening_call}
use Rattle.w32_handles.specs.Shown.{objects_of}
use Rattle.w32_process.specs.Processes.{processes_of}
use Rattle.w32_kinds.specs.Shown.{shown}
use Rattle.w32_machine.specs.declared.machine.Machine.TheInside.{Inside}
use Rattle.w32_machine.specs.Running.{Running}

-- the call that a thread has posted: three calls a slot
abbrev pub posted_in : List Call → ℕ → ℕ → Call
posted_in calls slot t = if nat_lt t 3 then slice_index_or calls (3 * slot + t) opening_call else opening_call

-- the modules that are placed in the process of a slot
abbrev pub placed_in : List (List PlacedModule) → ℕ → List PlacedModule
placed_in placed slot = slice_index_or placed slot []

abbrev pub view_of : Inside → Running
view_of m = record {
  script = m.script;
  win32 = record {
    processes = processes_of (posted_in m.posted.items) (placed_in m.placed.items) m.processes;
    objects = objects_of shown m.objects.places;
    next = m.processes.next;
    keys = m.keys.items;
  };
}
