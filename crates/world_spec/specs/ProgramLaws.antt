-- The program that runs in a process is the one that its image names: the machine carries out blocks of the one, and
-- the POSIX machine of the other.
use Rattle.std.proofs.Common.{◌≡◌, ℕ, true, Some, refl, sym, ap, ◌∙◌}
use Rattle.w32_base.specs.declared.call.Call.{Call}
use Rattle.w32_base.specs.declared.own.Own.{Own}
use Rattle.script_spec.specs.declared.script.Script.{Script}
use Rattle.vm_spec.specs.Image.{image_of, program_of}
use Rattle.win32_spec.specs.FormedLaws.{live_found}
use Rattle.win32_spec.specs.Lookup.{process_of, memory_by, change_process, change_thread, with_own, with_posted}
use Rattle.win32_spec.specs.LookupLaws.{process_of-change_same}
use Rattle.win32_spec.specs.MemoryCalls.{program_no_of, program_no_by}
use Rattle.win32_spec.specs.MemoryEffects.{HaveRegisters}
use Rattle.win32_spec.specs.PostedLaws.{alive-step}
use Rattle.win32_spec.specs.State.{Win32State}
use Rattle.layer_spec.specs.Moment.{HistoryStep}
use Rattle.layer_spec.specs.Turns.{is_live_process}
use Rattle.world_spec.specs.ImageLaws.{image-stays, own-named}
use Rattle.world_spec.specs.RowsBesideLaws.{IsOwnRow}
use Rattle.world_spec.specs.SeenStep.{IsSeenStep, IsBeside}

-- the program of process w is that of its image
abbrev pub RunsItsProgram : Win32State → ℕ → Type 0
RunsItsProgram s w = program_no_by s w ≡ Some (program_of (image_of (memory_by s w)))

-- What a thread does after its call leaves its process's program.
pub acts-program : (mid : Win32State) (w t : ℕ) (own : Own) (next : Call) → is_live_process mid w ≡ true
    → program_no_by (with_posted (with_own mid w own) w t next) w ≡ program_no_by mid w
acts-program mid w t own next live =
    let p = live_found (process_of mid.processes w) live in
    ap program_no_of
    (process_of-change_same w (λ x. record x { threads = change_thread t (λ y. record y { posted = next }) x.threads })
    (λ x. refl) (change_process w (λ x. record x { own = own }) mid.processes) (record p.0 { own = own })
    (process_of-change_same w (λ x. record x { own = own }) (λ x. refl) mid.processes p.0 p.1))
    ∙ sym (ap program_no_of p.1)

-- It stays so where the process's program and its image's stay.
pub same-program : (s new : Win32State) (w : ℕ) → program_no_by new w ≡ program_no_by s w
    → program_of (image_of (memory_by new w)) ≡ program_of (image_of (memory_by s w)) → RunsItsProgram s w
    → RunsItsProgram new w
same-program s new w program image runs = program ∙ (runs ∙ ap (λ n. Some n) (sym image))

module _ {A : Type 0} (script : Script) (registers : HaveRegisters script) (step : HistoryStep A)
    (seen : IsSeenStep script step) (w : ℕ) (before : is_live_process step.before.win32 w ≡ true)
    (after : is_live_process step.after.win32 w ≡ true) where
  -- The program of a process that is alive stays, whoever acts.
  pub program-stays : program_no_by step.after.win32 w ≡ program_no_by step.before.win32 w
  program-stays =
      let p = live_found (process_of step.before.win32.processes w) before in
      let q = live_found (process_of step.after.win32.processes w) after in
      let keeps = alive-step script step.before.win32 step.entry.directive step.entry.call step.entry.outcome
      step.after.win32 registers seen.before.formed seen.win32 w p.0 q.0 p.1 q.1 q.2 in
      ap program_no_of q.1 ∙ (keeps.program ∙ sym (ap program_no_of p.1))

  -- Beside the main thread of a process with a row it goes on to run its image's program.
  pub runs-on : (row : ℕ) → IsBeside step w 0 → IsOwnRow step.before.win32 w row → RunsItsProgram step.before.win32 w
      → RunsItsProgram step.after.win32 w
  runs-on row beside own runs =
      same-program step.before.win32 step.after.win32 w program-stays
      (ap program_of (image-stays script registers step seen w beside (own-named step.before.win32 w row own) before
      after)) runs
