-- What a process that is made does to the objects that its handles name.
use Rattle.std.specs.Prelude.{◌≡◌, ℕ, ◌+◌, ◌*◌, ◌≤◌, List, Option, Some, None, IsSome, slice_set}
use Rattle.w32_base.specs.declared.call.Call.{Call}
use Rattle.win32_spec.specs.Handles.{Handle, handle_of, holders_of, AreRisingFrom}
use Rattle.win32_spec.specs.Lookup.{object_number}
use Rattle.win32_spec.specs.Making.{opening_call}
use Rattle.w32_handles.specs.Table.{HeldObject, Table, object_at}
use Rattle.w32_sync.specs.declared.PipeEnd.TheVariants.{Read, Write}
use Rattle.w32_kinds.specs.declared.kind.Kind.{Kind}
use Rattle.w32_kinds.specs.declared.kind.Kind.TheVariants as kind
use Rattle.w32_kinds.specs.Kinds.{ends_on}

-- an object that so many handles more name by its first end, and so many by its second
abbrev pub kind_with : ℕ → ℕ → Kind → Kind
kind_with first second (kind.Pipe p) =
    kind.Pipe (record p { readers = p.readers + first; writers = p.writers + second })
kind_with first second (kind.Section words) = kind.Section words
kind_with first second (kind.Event e) = kind.Event e
kind_with first second (kind.Mutex owner) = kind.Mutex owner
kind_with first second (kind.Process w slot) = kind.Process w slot
kind_with first second (kind.Terminal terminal) = kind.Terminal terminal

abbrev pub kept_with : ℕ → ℕ → Option (HeldObject Kind) → Option (HeldObject Kind)
kept_with first second None = None
kept_with first second (Some kept) =
    Some (record { object = kind_with first second kept.object; holders = kept.holders + (first + second) })

-- each of these handles more names its object
abbrev pub HoldsEach : List Handle → Table Kind → Table Kind → Type 0
HoldsEach hs old new = (o : ℕ) → object_at new o ≡
    kept_with (holders_of hs (object_number o)) (holders_of hs (object_number o + 1)) (object_at old o)

-- the handles are those of a process, the object of each is there, and there is room for them
pub record HaveRoom (hs : List Handle) (t : Table Kind) : Type 0 where
  pub rising : AreRisingFrom 1 hs
  pub there : (h names : ℕ) → handle_of hs h ≡ Some names → IsSome (object_at t names)
  pub holders : (o : ℕ) (kept : HeldObject Kind) → object_at t o ≡ Some kept
      → kept.holders + (holders_of hs (object_number o) + holders_of hs (object_number o + 1)) ≤ 4160
  pub first : (o : ℕ) (kept : HeldObject Kind) → object_at t o ≡ Some kept
      → ends_on kept.object Read + holders_of hs (object_number o) ≤ 4160
  pub second : (o : ℕ) (kept : HeldObject Kind) → object_at t o ≡ Some kept
      → ends_on kept.object Write + holders_of hs (object_number o + 1) ≤ 4160

-- the threads of a slot have posted their first call
abbrev pub opened : ℕ → List Call → List Call
opened slot calls = slice_set (slice_set (slice_set calls (3 * slot) opening_call) (3 * slot + 1) opening_call)
    (3 * slot + 2) opening_call
