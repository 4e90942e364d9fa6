-- The clause of a block of local instructions of the process with a row, and that it outlasts each step beside the main
-- thread.
use Rattle.std.proofs.Common.{◌≡◌, ℕ, true, List}
use Rattle.w32_base.specs.declared.own.Own.{Own}
use Rattle.w32_base.specs.declared.part.After.{After}
use Rattle.w32_base.specs.declared.call.Reply.{Reply}
use Rattle.w32_base.specs.declared.setup.Setup.{Setup}
use Rattle.script_spec.specs.declared.script.Script.{Script}
use Rattle.vm_spec.specs.Step.{LocalInstruction}
use Rattle.win32_spec.specs.MemoryEffects.{HaveRegisters}
use Rattle.layer_spec.specs.Moment.{Moment, Seen, HistoryStep, seen_with}
use Rattle.layer_spec.specs.Turns.{is_live_process}
use Rattle.roster.specs.Turns.{Went}
use Rattle.world_spec.specs.Notes.{IsBetweenCalls, IsAtNext}
use Rattle.world_spec.specs.NotesBeside.{between-stays, next-stays}
use Rattle.world_spec.specs.ProgramLaws.{RunsItsProgram, runs-on}
use Rattle.world_spec.specs.SeenStep.{IsSeenStep, IsBeside}
use Rattle.layer_actor.specs.declared.local.Local.{Local}
use Rattle.layer_actor.specs.declared.local.Local.TheVariants as local
use Rattle.layer_actor.specs.Local.{local_after}

-- where it goes: by its table, and the own bytes stay as the call left them
abbrev pub LocalGoes : Local → Own → Setup → Reply → Local → Own → After → Type 0
LocalGoes p old setup reply q new answer = Went (local_after p reply) old q new answer

abbrev pub local_thread : Local → ℕ
local_thread p = 0

-- Before the call a local instruction is next, and may be carried out; the process runs the program of its image. After
-- it the thread is between two calls.
abbrev pub LocalClause : {A : Type 0} → Script → (row : ℕ) → List (Seen A) → Moment A → ℕ → Local → Type 0
LocalClause script row past now w (local.Running of_row) =
    (of_row ≡ row) × IsAtNext script now w row LocalInstruction × RunsItsProgram now.win32 w
LocalClause script row past now w local.Done = IsBetweenCalls now w row
LocalClause script row past now w local.Rest = Unit {0}

module _ {A : Type 0} (script : Script) (registers : HaveRegisters script) (row : ℕ) where
  pub local-outlasts : (step : HistoryStep A) → IsSeenStep script step → (w : ℕ) (part : Local)
      → IsBeside step w (local_thread part) → is_live_process step.before.win32 w ≡ true
      → is_live_process step.after.win32 w ≡ true → LocalClause script row step.past step.before w part
      → LocalClause script row (seen_with step) step.after w part
  local-outlasts step seen w (local.Running of_row) beside before after h = (
    h.0,
    next-stays script step seen w row LocalInstruction beside before after h.1,
    runs-on script registers step seen w before after row beside h.1.own h.2,
  )
  local-outlasts step seen w local.Done beside before after h =
      between-stays script step seen w row beside before after h
  local-outlasts step seen w local.Rest beside before after h = tt
