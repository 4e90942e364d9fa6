-- What a contract sees of the processes.
use Rattle.std.specs.Prelude.{◌≡◌, ℕ, ◌+◌, ◌≤◌, ◌<◌, List, [], ◌∷◌, ◌++◌, length, replicate, Option, Some, None, IsSome}
use Rattle.std.specs.Prelude.{nat_eq, if◌then◌else◌, slice_index_or, slice_set}
use Rattle.w32_base.specs.declared.own.Own.{Own}
use Rattle.w32_base.specs.declared.setup.Program.{Program}
use Rattle.win32_spec.specs.Handles.{Handle}
use Rattle.w32_process.specs.declared.kept.Kept.{Kept}
use Rattle.w32_process.specs.Places.{Place, empty_place, host_place, made_place, count_of}

-- the Win32 number of the next process, the slots from the host's on, and the ended processes that are kept
pub record Table : Type 0 where
  pub next : ℕ
  pub slots : List Place
  pub kept : List Kept

-- the slot with this number; past the last one it is empty
abbrev pub place_at : List Place → ℕ → Place
place_at slots slot = slice_index_or slots slot empty_place

-- the Win32 number of the live process in a slot, or none
abbrev pub number_at : List Place → ℕ → Option ℕ
number_at slots slot = (place_at slots slot).number

-- how often a thread of the process in a slot is suspended
abbrev pub count_at : List Place → ℕ → ℕ → Option ℕ
count_at slots slot thread = count_of (place_at slots slot) thread

-- the code of an ended process that is kept, or none
abbrev pub code_of : List Kept → ℕ → Option ℕ
code_of [] w = None
code_of (e ∷ es) w = if nat_eq e.number w then Some e.code else code_of es w

-- without the ended process of this number
abbrev pub without_kept : List Kept → ℕ → List Kept
without_kept [] w = []
without_kept (e ∷ es) w = if nat_eq e.number w then es else e ∷ without_kept es w

-- the host alone, with so many slots for layer processes
abbrev pub opening_table : ℕ → Table
opening_table slots = record { next = 2; slots = host_place ∷ replicate slots empty_place; kept = [] }

-- the table with another process in a slot
abbrev pub with_place : Table → ℕ → Place → Table
with_place t slot place = record t { slots = slice_set t.slots slot place }

-- with other handles, memory, or another count of a thread
abbrev pub with_handles : Table → ℕ → List Handle → Table
with_handles t slot handles = with_place t slot (record (place_at t.slots slot) { handles = handles })

abbrev pub with_own : Table → ℕ → Own → Table
with_own t slot own = with_place t slot (record (place_at t.slots slot) { own = own })

abbrev pub with_count : Table → ℕ → ℕ → ℕ → Table
with_count t slot thread count = let place = place_at t.slots slot in
    with_place t slot (record place { suspended = slice_set place.suspended thread count })

-- with a process more, which has the next number
abbrev pub with_made : Table → ℕ → (number : ℕ) → Program → List Handle → Table
with_made t slot number program handles =
    record (with_place t slot (made_place t.next number program handles)) { next = t.next + 1 }

-- a process that is kept after its end
abbrev pub kept_of : (w slot : ℕ) → Option ℕ → (code : ℕ) → Kept
kept_of w slot program code = record { number = w; slot = slot; program = program; code = code }

-- the slot is empty, and the process that was in it is kept with its code behind the others
abbrev pub with_end : Table → ℕ → (w code : ℕ) → Table
with_end t slot w code = record (with_place t slot empty_place) {
  kept = t.kept ++ kept_of w slot (place_at t.slots slot).program code ∷ [];
}

-- a live process has the number
abbrev pub IsLive : Table → ℕ → Type 0
IsLive t w = (slot : ℕ) × (number_at t.slots slot ≡ Some w)

-- the slot is empty, and each lower one from 1 up has a process
pub record IsLowestEmpty (slots : List Place) (slot : ℕ) : Type 0 where
  pub from_one : 1 ≤ slot
  pub within : slot < length slots
  pub empty : number_at slots slot ≡ None
  pub lower : (k : ℕ) → 1 ≤ k → k < slot → IsSome (number_at slots k)

-- each slot from 1 up has a process
abbrev pub AreAllOccupied : List Place → Type 0
AreAllOccupied slots = (k : ℕ) → 1 ≤ k → k < length slots → IsSome (number_at slots k)
