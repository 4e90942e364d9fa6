-- Reading and writing the memory of the process in a slot.
use Rattle.std.specs.Prelude.{◌≡◌, ℕ, Bool, true, false, List, length, IfSome, MatchBool}
use Rattle.w32_base.specs.declared.call.Region.{Region}
use Rattle.w32_base.specs.declared.call.Reply.{Reply}
use Rattle.w32_base.specs.declared.call.Reply.TheVariants as reply
use Rattle.w32_base.specs.declared.own.Own.{Own}
use Rattle.win32_spec.specs.State.{Win32State}
use Rattle.win32_spec.specs.Lookup.{memory_by, number_in, with_own}
use Rattle.win32_spec.specs.MemoryCalls.{has_range, copied, is_copyable}
use Rattle.win32_spec.specs.Named.{Gives}
use Rattle.win32_spec.specs.Regions.{region_of, with_region, range_of, written}

-- bytes of a region are read where the range lies in it
abbrev pub Reads : Own → Region → ℕ → List ℕ → Bool → List ℕ → Type 0
Reads own region place old true new =
    (has_range own region place (length old) ≡ true) × (new ≡ range_of (region_of own region) place (length old))
Reads own region place old false new = has_range own region place (length old) ≡ false

abbrev pub ReadsAt : Win32State → ℕ → Region → ℕ → List ℕ → Bool → List ℕ → Type 0
ReadsAt s slot region place old r new = IfSome (number_in s slot) (λ v. Reads (memory_by s v) region place old r new)

-- bytes are written into a region of process v where the range lies in it; else nothing is changed
abbrev pub Writes : Win32State → ℕ → Region → ℕ → List ℕ → Bool → Win32State → Type 0
Writes s v region place bytes true new =
    (has_range (memory_by s v) region place (length bytes) ≡ true)
    × (new ≡ with_own s v (with_region (memory_by s v) region
    (written (region_of (memory_by s v) region) place bytes)))
Writes s v region place bytes false new =
    (has_range (memory_by s v) region place (length bytes) ≡ false) × (new ≡ s)

abbrev pub WritesAt : Win32State → ℕ → Region → ℕ → List ℕ → Bool → Win32State → Type 0
WritesAt s slot region place bytes r new = IfSome (number_in s slot) (λ v. Writes s v region place bytes r new)

-- bytes of a region of process v are copied into one of process u
abbrev pub Copies : Win32State → ℕ → Region → ℕ → ℕ → Region → ℕ → ℕ → Reply → Win32State → Type 0
Copies s v region place u into_region into_place count r new =
    MatchBool (is_copyable (memory_by s v) region place (memory_by s u) into_region into_place count)
    (Gives reply.Done (with_own s u (copied (memory_by s v) region place count (memory_by s u) into_region into_place))
    r new)
    (Gives reply.BadRange s r new)

abbrev pub CopiesAt : Win32State → ℕ → Region → ℕ → ℕ → Region → ℕ → ℕ → Reply → Win32State → Type 0
CopiesAt s slot region place into_slot into_region into_place count r new =
    IfSome (number_in s slot) (λ v. IfSome (number_in s into_slot) (λ u.
    Copies s v region place u into_region into_place count r new))
