-- What holds of the machine's tables at all times.
use Rattle.std.specs.Prelude.{◌≡◌, ℕ, ◌+◌, ◌*◌, ◌≤◌, List, length, Some}
use Rattle.std.specs.VecDeque.{deque_capacity}
use Rattle.win32_spec.specs.State.{Process}
use Rattle.win32_spec.specs.Lookup.{object_number}
use Rattle.win32_spec.specs.Pipes.{all_holders_of}
use Rattle.win32_spec.specs.WellFormed.{IsWellFormed}
use Rattle.w32_handles.specs.Table.{HeldObject, object_at}
use Rattle.w32_process.specs.Places.{Place}
use Rattle.w32_process.specs.Table.{number_at}
use Rattle.w32_process.specs.Sound as processes
use Rattle.w32_kinds.specs.declared.kind.Kind.{Kind}
use Rattle.w32_kinds.specs.declared.kind.Kind.TheVariants as kind
use Rattle.w32_machine.specs.declared.machine.Machine.TheInside.{Inside}
use Rattle.w32_machine.specs.Contract.{key_lines}
use Rattle.w32_machine.specs.View.{view_of}

-- What the code keeps of an object beside its state: the one section has the number that is kept for it, a pipe counts
-- the handles on each of its ends, and while a process lives it stands in the slot that its object has.
abbrev pub IsKind : List Place → List Process → (section o : ℕ) → Kind → Type 0
IsKind slots ps section o (kind.Section words) = o ≡ section
IsKind slots ps section o (kind.Event e) = Unit {0}
IsKind slots ps section o (kind.Mutex owner) = Unit {0}
IsKind slots ps section o (kind.Pipe p) =
    (p.readers ≡ all_holders_of ps o) × (p.writers ≡ all_holders_of ps (o + 1))
IsKind slots ps section o (kind.Process w slot) = (k : ℕ) → number_at slots k ≡ Some w → k ≡ slot
IsKind slots ps section o (kind.Terminal terminal) = Unit {0}

-- an object has as many holders as there are handles of live processes that name it, by either end or face
pub record IsHeld (slots : List Place) (ps : List Process) (section o : ℕ) (kept : HeldObject Kind) : Type 0 where
  pub holders : kept.holders ≡ all_holders_of ps o + all_holders_of ps (o + 1)
  pub kind : IsKind slots ps section o kept.object

-- The state is well formed, each slot has its posted calls and its modules, each object its holders, and there is room
-- for as many objects as there may be handles, and for each key of the script.
pub record IsSound (m : Inside) : Type 0 where
  pub state : IsWellFormed m.script (view_of m).win32
  pub table : processes.IsSound m.processes
  pub slots : length m.processes.slots ≡ m.script.setup.limits.slots + 1
  pub posted : length m.posted.items ≡ 3 * length m.processes.slots
  pub placed : length m.placed.items ≡ length m.processes.slots
  pub held : (o : ℕ) (kept : HeldObject Kind) → object_at m.objects o ≡ Some kept
      → IsHeld m.processes.slots (view_of m).win32.processes m.section (object_number o) kept
  pub room : 4160 ≤ length (view_of m).win32.objects + m.objects.spare
  pub keys : key_lines m.script.directives ≤ deque_capacity m.keys
