-- The kinds of change that a call makes.
use Rattle.std.specs.Prelude.{◌≡◌, ◌⊎◌, ℕ, true, false, List, Some, slice_get}
use Rattle.w32_base.specs.declared.call.Call.{Call}
use Rattle.w32_base.specs.declared.call.Call.TheVariants as call
use Rattle.w32_base.specs.declared.call.Reply.{Reply}
use Rattle.w32_base.specs.declared.setup.Program.{Program}
use Rattle.script_spec.specs.declared.script.Script.{Script}
use Rattle.win32_spec.specs.Handles.{without_handle}
use Rattle.win32_spec.specs.State.{Object, Win32State}
use Rattle.win32_spec.specs.Lookup.{process_of, is_live, object_of, with_handles, IsLowestFreeSlot}
use Rattle.win32_spec.specs.Ends.{swept, with_end}
use Rattle.win32_spec.specs.Named.{handles_by, object_by, process_named, is_full, IsHandled, IsNewObject}
use Rattle.win32_spec.specs.ProcessCalls.{IsMade}
use Rattle.win32_spec.specs.ObjectCalls.{IsNewPipe}
use Rattle.win32_spec.specs.WellFormed.{IsListed, IsObject, only_number}
use Rattle.win32_spec.specs.Tame.{IsTame}

-- whether a call writes the bytes of process v: it is the caller's own, or the call is a `writemem` to it
abbrev pub IsWriteTo : Win32State → ℕ → Call → ℕ → Type 0
IsWriteTo s w (call.WriteMemory h region place own_region own_place count) v = process_named (object_by s w h) ≡ Some v
IsWriteTo s w _ v = ⊥

abbrev pub MayWrite : Win32State → ℕ → Call → ℕ → Type 0
MayWrite s w c v = (v ≡ w) ⊎ IsWriteTo s w c v

-- whether a call may change a word of the section
abbrev pub MayExchange : Call → Type 0
MayExchange (call.CompareExchange h i old new) = Unit {0}
MayExchange (call.FetchAdd h i n) = Unit {0}
MayExchange _ = ⊥

-- a new object is no second one where there is one at most
abbrev pub IsOnly : Win32State → Object → Type 0
IsOnly s x = (b : ℕ) (y : Object) (k : ℕ) → object_of s.objects b ≡ Some y → only_number x ≡ Some k
    → only_number y ≡ Some k → ⊥

-- What a call of thread t of process w does: it leaves handles, lives and kinds alone; or there is a handle on an
-- object that is listed, on a new object, on both ends of a new pipe, or on a new process; or a handle is closed; or
-- a process ends.
pub data CallEffect (script : Script) (s : Win32State) (w t : ℕ) (c : Call) (new : Win32State) : Type 0 where
  Changes : IsTame script (MayWrite s w c) (MayExchange c) ⊥ w t s new → CallEffect script s w t c new
  Opens : (names : ℕ) → IsListed s.objects names → is_full (handles_by s w) 1 ≡ false → (answer : ℕ → Reply) (r : Reply)
      → IsHandled s s w names answer r new → CallEffect script s w t c new
  Adds : (x : Object) → IsObject s.processes x → IsOnly s x → is_full (handles_by s w) 1 ≡ false → (r : Reply)
      → IsNewObject s w x r new → CallEffect script s w t c new
  AddsPipe : is_full (handles_by s w) 2 ≡ false → (r : Reply) → IsNewPipe s w r new → CallEffect script s w t c new
  Makes : (slot program_no : ℕ) (program : Program) (list : List ℕ) (r : Reply)
      → slice_get script.setup.programs program_no ≡ Some program
      → IsLowestFreeSlot script.setup.limits.slots s.processes slot
      → is_full (handles_by s w) 1 ≡ false → IsMade s w slot program_no program list r new
      → CallEffect script s w t c new
  Closes : (h : ℕ) → new ≡ swept (with_handles s w (without_handle (handles_by s w) h)) → CallEffect script s w t c new
  Ends : (v code : ℕ) → is_live (process_of s.processes v) ≡ true → new ≡ with_end s v code
      → CallEffect script s w t c new
