-- What a handle more does to the object that it names, and which objects may be new ones.
use Rattle.std.specs.Prelude.{◌≡◌, ℕ, ◌+◌, ◌<◌, Bool, false, [], Option, Some, None, if◌then◌else◌}
use Rattle.std.specs.Option.{IsSomeAnd}
use Rattle.win32_spec.specs.Objects.{Free, Owned}
use Rattle.win32_spec.specs.State.{Object, Win32State}
use Rattle.win32_spec.specs.Lookup.{number_in}
use Rattle.win32_spec.specs.Ends.{is_object_of}
use Rattle.win32_spec.specs.ProcessCalls.{process_object}
use Rattle.w32_handles.specs.Table.{HeldObject}
use Rattle.w32_machine.specs.declared.caller.Caller.{Caller}
use Rattle.w32_kinds.specs.declared.kind.Kind.{Kind}
use Rattle.w32_kinds.specs.declared.kind.Kind.TheVariants as kind
use Rattle.w32_machine.specs.Ending.{end_by}
use Rattle.w32_kinds.specs.Kinds.{ends_on, with_ends}

-- an object with a holder more, by the end that the number names
abbrev pub held_more : ℕ → HeldObject Kind → HeldObject Kind
held_more o kept = record {
  object = with_ends kept.object (end_by o) (ends_on kept.object (end_by o) + 1);
  holders = kept.holders + 1;
}

abbrev pub held_by : ℕ → Option (HeldObject Kind) → Option (HeldObject Kind)
held_by o None = None
held_by o (Some kept) = Some (held_more o kept)

-- there is room for a holder more of an object
abbrev pub MayBeHeld : ℕ → Option (HeldObject Kind) → Type 0
MayBeHeld o found = IsSomeAnd found (λ kept. (kept.holders < 4160) × (ends_on kept.object (end_by o) < 4160))

-- A new object of a caller that fits the state: a mutex is the caller's or free, a pipe has one handle on its read end,
-- and the object of a process is the first one of a process that lives in its slot.
abbrev pub IsNewKind : Win32State → Caller → Kind → Type 0
IsNewKind s by (kind.Section words) = ⊥
IsNewKind s by (kind.Event e) = Unit {0}
IsNewKind s by (kind.Mutex owner) = (owned : Bool) × (owner ≡ (if owned then Owned by.process by.thread else Free))
IsNewKind s by (kind.Pipe p) = p ≡ record { bytes = []; readers = 1; writers = 0 }
IsNewKind s by (kind.Process w slot) = (number_in s slot ≡ Some w) × (process_object s.objects w ≡ None)
IsNewKind s by (kind.Terminal terminal) = ⊥

-- whether it is the object of process w
abbrev pub is_its_object : Option Object → ℕ → Bool
is_its_object None w = false
is_its_object (Some x) w = is_object_of x w
