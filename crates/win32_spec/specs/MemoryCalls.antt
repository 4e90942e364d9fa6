-- The calls on the memory of processes: `run`, `readmem` and `writemem`.
use Rattle.std.specs.Prelude.{ℕ, Bool, ◌&&◌, nat_le, List, [], length, Option, Some, None, slice_get, MatchBool}
use Rattle.std.specs.Prelude.{MatchOption}
use Rattle.w32_base.specs.declared.call.Region.{Region}
use Rattle.w32_base.specs.declared.call.Reply.{Reply}
use Rattle.w32_base.specs.declared.call.Reply.TheVariants as reply
use Rattle.w32_base.specs.declared.instr.Instr.{Instr}
use Rattle.w32_base.specs.declared.own.Own.{Own}
use Rattle.w32_base.specs.declared.setup.Program.{Program}
use Rattle.script_spec.specs.declared.script.Script.{Script}
use Rattle.vm_spec.specs.Image.{image_of, with_image}
use Rattle.vm_spec.specs.Block.{block_length, block_image}
use Rattle.win32_spec.specs.Regions.{region_of, with_region, is_inside, range_of, written}
use Rattle.win32_spec.specs.State.{Process, Win32State}
use Rattle.win32_spec.specs.Lookup.{process_of, memory_by, with_own}
use Rattle.win32_spec.specs.Named.{object_by, process_named, Gives}
use Rattle.win32_spec.specs.ProcessCalls.{live_process}

-- the program of a process, which the host hasn't
abbrev pub program_no_of : Option Process → Option ℕ
program_no_of None = None
program_no_of (Some p) = p.program

abbrev pub program_no_by : Win32State → ℕ → Option ℕ
program_no_by s w = program_no_of (process_of s.processes w)

abbrev pub instructions_of : Option Program → List Instr
instructions_of None = []
instructions_of (Some program) = program.code

-- the instructions of the script's program with this number
abbrev pub code_of : Script → ℕ → List Instr
code_of script program_no = instructions_of (slice_get script.setup.programs program_no)

-- a block of local instructions is carried out on the image of process w
abbrev pub BlockStep : List Instr → Win32State → ℕ → Reply → Win32State → Type 0
BlockStep code s w r new =
    let image = image_of (memory_by s w) in
    Gives (reply.Ran (block_length code image))
    (with_own s w (with_image (memory_by s w) (block_image code image))) r new

-- `run`: a block of local instructions of the caller's program on its image. The host has no program and runs none.
abbrev pub RunStep : Script → Win32State → ℕ → Reply → Win32State → Type 0
RunStep script s w r new =
    MatchOption (program_no_by s w) (Gives (reply.Ran 0) s r new)
    (λ program_no. BlockStep (code_of script program_no) s w r new)

-- whether a range lies in a region
abbrev pub has_range : Own → Region → ℕ → ℕ → Bool
has_range own region place count = is_inside (length (region_of own region)) place count

-- the memory `into` with a range of the memory `from` copied into a region
abbrev pub copied : (from : Own) → Region → ℕ → ℕ → (into : Own) → Region → ℕ → Own
copied from region place count into into_region into_place =
    with_region into into_region
    (written (region_of into into_region) into_place (range_of (region_of from region) place count))

-- whether so many bytes may be copied between these ranges: at most 512, and both lie in their regions
abbrev pub is_copyable : Own → Region → ℕ → Own → Region → ℕ → ℕ → Bool
is_copyable a region place b other_region other_place count =
    nat_le count 512 && (has_range a region place count && has_range b other_region other_place count)

-- `readmem H REGION PLACE OWN OWNPLACE LEN`: bytes of a process's region into an own one. Refusals: badhandle, gone,
-- badrange.
abbrev pub ReadMemoryStep : Win32State → ℕ → ℕ → Region → ℕ → Region → ℕ → ℕ → Reply → Win32State → Type 0
ReadMemoryStep s w h region place own_region own_place count r new =
    MatchOption (process_named (object_by s w h)) (Gives reply.BadHandle s r new) (λ v.
    MatchOption (live_process s v) (Gives reply.Gone s r new) (λ p.
    MatchBool (is_copyable p.own region place (memory_by s w) own_region own_place count)
    (Gives reply.Done (with_own s w (copied p.own region place count (memory_by s w) own_region own_place)) r new)
    (Gives reply.BadRange s r new)))

-- `writemem` with the same arguments: own bytes into the process's region, with the same refusals
abbrev pub WriteMemoryStep : Win32State → ℕ → ℕ → Region → ℕ → Region → ℕ → ℕ → Reply → Win32State → Type 0
WriteMemoryStep s w h region place own_region own_place count r new =
    MatchOption (process_named (object_by s w h)) (Gives reply.BadHandle s r new) (λ v.
    MatchOption (live_process s v) (Gives reply.Gone s r new) (λ p.
    MatchBool (is_copyable p.own region place (memory_by s w) own_region own_place count)
    (Gives reply.Done (with_own s v (copied (memory_by s w) own_region own_place count p.own region place)) r new)
    (Gives reply.BadRange s r new)))
