-- When a state of the modelled Win32 shows the processes of the POSIX machine: by the words of the rows, by the memory
-- of the live processes that the rows name, and by the terminal.
use Rattle.std.specs.Prelude.{◌≡◌, ℕ, ◌+◌, ◌≤◌, ◌<◌, Bool, true, false, ◌&&◌, not, nat_eq, List, [], ◌∷◌, length, map}
use Rattle.std.specs.Prelude.{slice_index, Option, Some, None, IsSome, MatchOption}
use Rattle.w32_base.specs.declared.own.Own.{Own}
use Rattle.script_spec.specs.declared.script.Script.{Script}
use Rattle.vm_spec.specs.Image.{image_of}
use Rattle.win32_spec.specs.Handles.{is_listed}
use Rattle.win32_spec.specs.Lookup.{is_alive, process_of, terminal_in}
use Rattle.win32_spec.specs.Placing.{base_in}
use Rattle.win32_spec.specs.State.{PlacedModule, Process, Win32State}
use Rattle.posix_spec.specs.State as posix
use Rattle.posix_spec.specs.State.{Record, PosixState, record_of}
use Rattle.layer_spec.specs.Rows.{Free, Held, Running, Stopped, Zombie, Gone, RowKind, is_process_kind, is_live_kind}
use Rattle.layer_spec.specs.Rows.{MainWord, GroupWord}
use Rattle.layer_spec.specs.Decoding.{main_of, group_of}
use Rattle.layer_spec.specs.Words.{main_at, group_at}
use Rattle.layer_spec.specs.Heap.{HeapChild, HeapFields, IsHeap, heap_bytes}

-- the life that a main word tells, where its row is a process
abbrev pub life_by : RowKind → (stop status : ℕ) → Option posix.Life
life_by Free stop status = None
life_by Held stop status = None
life_by Running stop status = Some posix.Running
life_by Stopped stop status = Some (posix.Stopped stop)
life_by Zombie stop status = Some (posix.Zombie status)
life_by Gone stop status = None

abbrev pub life_of : MainWord → Option posix.Life
life_of m = life_by m.kind m.stop m.status

-- each of so many modules is placed at the base with its number, and past them the bases are 0
pub record AreBases (count : ℕ) (placed : List PlacedModule) (bases : List ℕ) : Type 0 where
  pub of_modules : (m : ℕ) → m < count → base_in placed m ≡ Some (slice_index bases m)
  pub past_modules : (m : ℕ) → count ≤ m → slice_index bases m ≡ 0

abbrev pub child_numbers : List HeapChild → List ℕ
child_numbers children = map (λ (c : HeapChild). c.number) children

-- no number stands twice
abbrev pub are_different : List ℕ → Bool
are_different [] = true
are_different (n ∷ ns) = not (is_listed ns n) && are_different ns

-- whether a process has this raw parent
abbrev pub is_child_of : ℕ → Option Record → Bool
is_child_of parent None = false
is_child_of parent (Some r) = nat_eq r.parent parent

-- Memory holds the image of the record with this number. Its cygheap keeps the layout: it tells the masks and the
-- actions, at which bases the process's modules are placed, and, each once, who its children are.
pub record HoldsRecord (script : Script) (own : Own) (placed : List PlacedModule) (p : PosixState)
    (number : ℕ) (r : Record) : Type 0 where
  pub image : r.image ≡ image_of own
  pub heap : HeapFields
  pub legal : IsHeap heap
  pub layout : own.cyg ≡ heap_bytes heap
  pub mask : r.mask ≡ heap.mask
  pub saved : r.saved ≡ heap.saved
  pub actions : r.actions ≡ heap.actions
  pub bases : AreBases (length script.setup.modules) placed heap.bases
  pub children : (n : ℕ) → is_listed (child_numbers heap.children) n ≡ is_child_of number (record_of p n)
  pub once : are_different (child_numbers heap.children) ≡ true

-- The words of a row are those of the record. Where the process that the main word names is alive and the record isn't
-- a zombie, that process's memory holds the rest. `memory` tells the memory of a process.
pub record ShowsRecord (script : Script) (memory : Process → Own) (s : Win32State) (p : PosixState)
    (row : ℕ) (main : MainWord) (r : Record) : Type 0 where
  pub life : life_of main ≡ Some r.life
  pub report : r.report ≡ main.report
  pub execd : r.execd ≡ main.execd
  pub pending : is_live_kind main.kind ≡ true → r.pending ≡ main.pending
  pub group_word : GroupWord
  pub group_decodes : group_of (group_at s row) ≡ Some group_word
  pub parent : r.parent ≡ group_word.parent
  pub group : r.group ≡ group_word.group
  pub session : r.session ≡ group_word.session
  pub terminal : r.terminal ≡ group_word.terminal
  pub held : is_live_kind main.kind ≡ true → (q : Process) → process_of s.processes main.image ≡ Some q
      → is_alive q.life ≡ true → HoldsRecord script (memory q) q.placed p (row + 1) r

-- The main word of a row decodes. The row is a running, a stopped or a zombie one exactly where there is the process
-- with its number, and shows that process.
pub record ShowsRow (script : Script) (memory : Process → Own) (s : Win32State) (p : PosixState)
    (row : ℕ) : Type 0 where
  pub main : MainWord
  pub decodes : main_of (main_at s row) ≡ Some main
  pub shown : MatchOption (record_of p (row + 1)) (is_process_kind main.kind ≡ false)
      (λ r. ShowsRecord script memory s p row main r)

-- Row r, from 1 on, shows process number r + 1, and there are no other processes. The terminal is that of the machine.
pub record DecodesBy (script : Script) (memory : Process → Own) (s : Win32State) (p : PosixState) : Type 0 where
  pub numbers : (n : ℕ) → IsSome (record_of p n) → 2 ≤ n
  pub rows : (row : ℕ) → 1 ≤ row → ShowsRow script memory s p row
  pub terminal : terminal_in s.objects ≡ Some p.terminal

-- the same by the memory that the processes have in this state
abbrev pub Decodes : Script → Win32State → PosixState → Type 0
Decodes script s p = DecodesBy script (λ q. q.own) s p
