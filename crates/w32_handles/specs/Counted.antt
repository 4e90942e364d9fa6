-- How many handles name an object, and that a table counts them.
use Rattle.std.specs.Prelude.{◌≡◌, ℕ, ◌+◌, ◌*◌, if◌then◌else◌, List, [], ◌∷◌, Option, Some, None, length}
use Rattle.std.specs.Prelude.{slice_index_or}
use Rattle.win32_spec.specs.Handles.{Handle, holders_of}
use Rattle.win32_spec.specs.State.{Process}
use Rattle.win32_spec.specs.Lookup.{is_alive}
use Rattle.win32_spec.specs.Pipes.{all_holders_of}
use Rattle.w32_handles.specs.Table.{HeldObject}

-- how many handles of a list name the object with this even number, by any end or face
abbrev pub holders_on : List Handle → ℕ → ℕ
holders_on hs o = holders_of hs o + holders_of hs (o + 1)

-- the same of the handles of all live processes
abbrev pub all_holders_on : List Process → ℕ → ℕ
all_holders_on ps o = all_holders_of ps o + all_holders_of ps (o + 1)

-- how many handles the live processes have
abbrev pub all_handles : List Process → ℕ
all_handles [] = 0
all_handles (p ∷ ps) = (if is_alive p.life then length p.handles else 0) + all_handles ps

-- each object's count of holders is the number of the handles that name it
abbrev pub AreCounted : {K : Type 0} → List Process → List (Option (HeldObject K)) → Type 0
AreCounted {K} ps places =
    (k : ℕ) (kept : HeldObject K) → slice_index_or places k None ≡ Some kept → kept.holders ≡ all_holders_on ps (2 * k)

-- how many places have an object
abbrev pub count_objects : {K : Type 0} → List (Option (HeldObject K)) → ℕ
count_objects [] = 0
count_objects (None ∷ places) = count_objects places
count_objects (Some kept ∷ places) = 1 + count_objects places
