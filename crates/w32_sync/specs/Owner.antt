-- Who owns a mutex, as the code keeps it.
use Rattle.std.specs.Prelude.{ℕ, Option, Some, None}
use Rattle.win32_spec.specs.Objects.{Ownership}
use Rattle.win32_spec.specs.Objects as objects
use Rattle.w32_sync.specs.declared.mutex.Owner.{Owner}
use Rattle.w32_sync.specs.declared.mutex.Owner.TheVariants as owner

-- the owner that the code keeps
abbrev pub ownership_of : Owner → Ownership
ownership_of owner.Free = objects.Free
ownership_of (owner.Owned process thread) = objects.Owned process thread
ownership_of owner.Abandoned = objects.Abandoned

-- a new mutex is owned by the thread that is named, or free
abbrev pub ownership_at_first : Option (ℕ × ℕ) → Ownership
ownership_at_first (Some by) = objects.Owned by.0 by.1
ownership_at_first None = objects.Free
