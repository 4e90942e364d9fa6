-- What a contract sees of a slot.
use Rattle.std.specs.Prelude.{ℕ, List, [], ◌∷◌, Option, Some, None, slice_get}
use Rattle.w32_base.specs.declared.own.Own.{Own}
use Rattle.w32_base.specs.declared.setup.Program.{Program}
use Rattle.win32_spec.specs.Handles.{Handle}
use Rattle.win32_spec.specs.Lookup.{no_memory}
use Rattle.win32_spec.specs.Making.{new_memory}

-- a slot: the Win32 number of the live process in it or none where it is empty, the place of its program in the script
-- or none for the host, how often each thread is suspended, its handles and its memory
pub record Place : Type 0 where
  pub number : Option ℕ
  pub program : Option ℕ
  pub suspended : List ℕ
  pub handles : List Handle
  pub own : Own

-- a slot without a process
abbrev pub empty_place : Place
empty_place = record { number = None; program = None; suspended = []; handles = []; own = no_memory }

-- the host, whose Win32 number is 1: two threads that nobody has suspended, and no memory
abbrev pub host_place : Place
host_place = record { number = Some 1; program = None; suspended = 0 ∷ 0 ∷ []; handles = []; own = no_memory }

-- a process that was just made: its three threads are suspended once
abbrev pub made_place : (w number : ℕ) → Program → List Handle → Place
made_place w number program handles = record {
  number = Some w;
  program = Some number;
  suspended = 1 ∷ 1 ∷ 1 ∷ [];
  handles = handles;
  own = new_memory number program;
}

-- how often a thread is suspended: nothing where there is no process, or no such thread
abbrev pub count_in : Option ℕ → List ℕ → ℕ → Option ℕ
count_in None counts thread = None
count_in (Some w) counts thread = slice_get counts thread

abbrev pub count_of : Place → ℕ → Option ℕ
count_of place thread = count_in place.number place.suspended thread
