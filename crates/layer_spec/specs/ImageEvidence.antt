-- What shows that a new image was made as fork and exec must make it (POSIX.1-2017, XSH fork, exec).
use Rattle.std.specs.Prelude.{◌≡◌, ℕ, ◌+◌, ◌<◌, ℤ, pos, List, length, Some, slice_get}
use Rattle.w32_base.specs.declared.call.Region.{Region}
use Rattle.w32_base.specs.declared.call.Region.TheVariants.{Dat, Heap, Stack, Cyg}
use Rattle.w32_base.specs.declared.setup.Program.{Program}
use Rattle.script_spec.specs.declared.script.Script.{Script}
use Rattle.win32_spec.specs.State.{Win32State}
use Rattle.win32_spec.specs.Lookup.{memory_by}
use Rattle.win32_spec.specs.Regions.{region_of}
use Rattle.layer_spec.specs.HeapReads.{base_in}
use Rattle.layer_spec.specs.Moment.{SomeSeen, HistoryStep, seen_with}
use Rattle.layer_spec.specs.Owners.{call_up_to}
use Rattle.layer_spec.specs.Turns.{image_named}
use Rattle.layer_spec.specs.CallsDone.{MakesProcess, ClaimsRow, PlacesModule, WritesPlace, HasMade}

-- the base of module m in the cygheap of p's image
abbrev pub base_wanted : Win32State → ℕ → ℕ → ℕ
base_wanted s p m = base_in (memory_by s (image_named s p)).cyg m

-- each place of this region of process w was written in p's call; the region is as long as p's own
abbrev pub IsWritten : {A : Type 0} → HistoryStep A → (p w : ℕ) → Region → Type 0
IsWritten step p w region =
    (place : ℕ) → place < length (region_of (memory_by step.before.win32 (image_named step.before.win32 p)) region)
    → SomeSeen (WritesPlace p w region place) (call_up_to step p)

-- Process w has placed each module before the script's m-th where p has it.
abbrev pub ArePlacedAlike : {A : Type 0} → HistoryStep A → (p w m : ℕ) → Type 0
ArePlacedAlike step p w m =
    (k : ℕ) → k < m → SomeSeen (PlacesModule w k (base_wanted step.before.win32 p k)) (seen_with step)

-- After a fork the child's row names a process that the parent made in this call. The child's number is that of the row
-- that the parent claimed in this call. The process has placed each module of the script where the parent has it. Each
-- place of its data, heap, stack and cygheap was written by the parent in this call.
pub record ChildImageIsMade {A : Type 0} (script : Script) (step : HistoryStep A) (p : ℕ) (c : ℤ) : Type 0 where
  pub child : ℕ
  pub number : c ≡ pos child
  pub made : HasMade p (image_named step.after.win32 child) (call_up_to step p)
  pub claimed : ℕ
  pub claims : SomeSeen (ClaimsRow p claimed) (call_up_to step p)
  pub row : child ≡ claimed + 2
  pub placed : ArePlacedAlike step p (image_named step.after.win32 child) (length script.setup.modules)
  pub data_region : IsWritten step p (image_named step.after.win32 child) Dat
  pub heap : IsWritten step p (image_named step.after.win32 child) Heap
  pub stack : IsWritten step p (image_named step.after.win32 child) Stack
  pub cygheap : IsWritten step p (image_named step.after.win32 child) Cyg

-- After an exec p's row names a process that p made in this call, of the program with this name.
pub record NextImageIsMade {A : Type 0} (script : Script) (step : HistoryStep A) (p : ℕ) (name : List ℕ) : Type 0 where
  pub place : ℕ
  pub program : Program
  pub known : slice_get script.setup.programs place ≡ Some program
  pub named : program.name ≡ name
  pub made : SomeSeen (MakesProcess p place (image_named step.after.win32 p)) (call_up_to step p)
