-- What goes with a handle that is closed, and with a process that ends.
use Rattle.std.specs.Prelude.{◌≡◌, ◌≢◌, ◌⊎◌, ℕ, ◌-◌, ◌<◌, nat_lt, if◌then◌else◌, Option, Some, None, IsSome, IfSome}
use Rattle.std.specs.Prelude.{MatchBool, MatchOption}
use Rattle.std.specs.Option.{IsSomeAnd}
use Rattle.w32_base.specs.declared.entry.Outcome.{Outcome}
use Rattle.w32_base.specs.declared.entry.Outcome.TheVariants as outcome
use Rattle.win32_spec.specs.Ready.{is_first_end}
use Rattle.w32_handles.specs.Table.{HeldObject, Table, object_at, Changes}
use Rattle.w32_process.specs.Table as processes
use Rattle.w32_process.specs.Table.{number_at, code_of, without_kept}
use Rattle.w32_sync.specs.declared.PipeEnd.{PipeEnd}
use Rattle.w32_sync.specs.declared.PipeEnd.TheVariants.{Read, Write}
use Rattle.w32_kinds.specs.declared.kind.Kind.{Kind}
use Rattle.w32_kinds.specs.Kinds.{IsProcess, ends_on, with_ends, kind_left_by}

-- the end that a number names
abbrev pub end_by : ℕ → PipeEnd
end_by o = if is_first_end o then Read else Write

-- an object with a handle less on an end
abbrev pub kind_without : PipeEnd → Kind → Kind
kind_without end x = with_ends x end (ends_on x end - 1)

-- the object, which a handle less names by the end of its number, or nothing where that was the last one
abbrev pub kept_without : ℕ → HeldObject Kind → Option (HeldObject Kind)
kept_without o kept =
    if nat_lt 1 kept.holders then Some (record {
      object = kind_without (end_by o) kept.object;
      holders = kept.holders - 1;
    }) else None

-- the object is there, and some handle names this end of it
abbrev pub HasHolder : Table Kind → ℕ → Type 0
HasHolder t o = IsSomeAnd (object_at t o) (λ kept. 0 < ends_on kept.object (end_by o))

-- a handle less names it
abbrev pub LeavesOne : Table Kind → Table Kind → ℕ → Type 0
LeavesOne old new o = IfSome (object_at old o) (λ kept. Changes old new o (kept_without o kept))

-- the process that an object was of which goes with a handle on it
abbrev pub WentWith : Option (HeldObject Kind) → Option (ℕ × ℕ) → Type 0
WentWith None went = Unit {0}
WentWith (Some kept) went = MatchBool (nat_lt 1 kept.holders) (went ≡ None) (IsProcess kept.object went)

-- a process that doesn't stand in its slot is kept
abbrev pub MayForget : processes.Table → Option (ℕ × ℕ) → Type 0
MayForget t went = IfSome went (λ p. number_at t.slots p.1 ≢ Some p.0 → IsSome (code_of t.kept p.0))

-- it is kept no more
abbrev pub Forgets : processes.Table → Option (ℕ × ℕ) → processes.Table → Type 0
Forgets old went new =
    MatchOption went (new ≡ old) (λ p.
    ((number_at old.slots p.1 ≡ Some p.0) × (new ≡ old))
    ⊎ ((number_at old.slots p.1 ≢ Some p.0) × (new ≡ (record old { kept = without_kept old.kept p.0 }))))

-- what the end of a process leaves of an object
abbrev pub left_kept : ℕ → Option (HeldObject Kind) → Option (HeldObject Kind)
left_kept w None = None
left_kept w (Some kept) = Some (record kept { object = kind_left_by w kept.object })

-- how the end of the process in a slot came out
abbrev pub outcome_of_end : Option ℕ → Outcome
outcome_of_end None = outcome.Idle
outcome_of_end (Some w) = outcome.Ended w
