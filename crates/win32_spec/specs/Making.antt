-- What a process has when it is made: its threads and its memory.
use Rattle.std.specs.Prelude.{ℕ, zero, suc, List, [], ◌∷◌, Some}
use Rattle.w32_base.specs.declared.call.Call.{Call}
use Rattle.w32_base.specs.declared.call.Call.TheVariants as call
use Rattle.w32_base.specs.declared.own.Own.{Own}
use Rattle.w32_base.specs.declared.setup.Program.{Program}
use Rattle.vm_spec.specs.Image.{with_image}
use Rattle.vm_spec.specs.NewImage.{new_image}
use Rattle.win32_spec.specs.Handles.{Handle}
use Rattle.win32_spec.specs.Regions.{zeroed_own}
use Rattle.win32_spec.specs.State.{Thread, Alive, Process}

-- The numbers of the threads of the process in a slot: the host in slot 0 has its console and its starter, and a layer
-- process its main thread, its signal thread and its child watcher.
abbrev pub threads_of : ℕ → List ℕ
threads_of zero = 0 ∷ 1 ∷ []
threads_of (suc slot) = 0 ∷ 1 ∷ 2 ∷ []

-- the first call of each thread: the number of claimed rows
abbrev pub opening_call : Call
opening_call = call.Load 1 0

-- a thread that was just made
abbrev pub new_thread : ℕ → ℕ → Thread
new_thread t suspended = record { number = t; suspended = suspended; posted = opening_call }

-- the threads of a layer process that was just made: the helpers are suspended once
abbrev pub new_threads : ℕ → List Thread
new_threads main_suspended = new_thread 0 main_suspended ∷ new_thread 1 1 ∷ new_thread 2 1 ∷ []

-- the memory of a process that was just made, for the program with this number: the program's new image, and zeros
unfoldable pub new_memory : ℕ → Program → Own
new_memory number program = with_image (zeroed_own program.heap program.stack) (new_image number program)

-- a layer process that was just made, with its main thread suspended so often
abbrev pub new_process : (number slot program_no : ℕ) → Program → (main_suspended : ℕ) → List Handle → Process
new_process number slot program_no program main_suspended handles = record {
  number = number;
  slot = slot;
  program = Some program_no;
  life = Alive;
  threads = new_threads main_suspended;
  handles = handles;
  own = new_memory program_no program;
  placed = [];
}
