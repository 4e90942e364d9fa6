-- The processes of a state by their numbers.
use Rattle.std.specs.Prelude.{ℕ, Bool, false, ◌&&◌, nat_eq, if◌then◌else◌, List, [], ◌∷◌, Option, Some, None}
use Rattle.std.specs.List.{list_any, list_all}
use Rattle.std.specs.FinMap as map
use Rattle.posix_spec.specs.State.{Record, PosixState}
pub use Rattle.posix_spec.specs.State.{record_of}
use Rattle.posix_spec.specs.Pending.{has_deliverable, is_live}

-- Signals go first only where one is deliverable. Each record is written so; one that isn't written stays so.
abbrev pub settled : Record → Record
settled r = record r { due = r.due && has_deliverable r }

-- with this process
abbrev pub with_record : PosixState → ℕ → Record → PosixState
with_record s p r = record s { records = map.insert s.records p (settled r) }

-- without this process
abbrev pub without_record : PosixState → ℕ → PosixState
without_record s p = record s { records = map.remove s.records p }

abbrev pub changed_at : PosixState → ℕ → (Record → Record) → Option Record → PosixState
changed_at s p change None = s
changed_at s p change (Some r) = with_record s p (change r)

-- with this process changed, where there is one
abbrev pub change_record : PosixState → ℕ → (Record → Record) → PosixState
change_record s p change = changed_at s p change (record_of s p)

-- whether there is a live process of this number
abbrev pub is_live_at : Option Record → Bool
is_live_at None = false
is_live_at (Some r) = is_live r.life

-- whether some process, or each one, passes a test on its number and record
abbrev pub some_record : PosixState → (ℕ → Record → Bool) → Bool
some_record s test = list_any (λ e. test e.0 e.1) (map.entries s.records)

abbrev pub every_record : PosixState → (ℕ → Record → Bool) → Bool
every_record s test = list_all (λ e. test e.0 e.1) (map.entries s.records)

abbrev pub numbers_where : (ℕ → Record → Bool) → List (ℕ × Record) → List ℕ
numbers_where test [] = []
numbers_where test (e ∷ es) = if test e.0 e.1 then e.0 ∷ numbers_where test es else numbers_where test es

-- the numbers of the processes that pass a test, rising
abbrev pub numbers_of : PosixState → (ℕ → Record → Bool) → List ℕ
numbers_of s test = numbers_where test (map.entries s.records)

-- the members of a group and the children of a process; zombies count
abbrev pub members : PosixState → ℕ → List ℕ
members s g = numbers_of s (λ q r. nat_eq r.group g)

abbrev pub children : PosixState → ℕ → List ℕ
children s p = numbers_of s (λ c r. nat_eq r.parent p)
