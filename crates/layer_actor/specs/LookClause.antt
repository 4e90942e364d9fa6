-- The clause of the look at the own main word, and that it outlasts each step beside the main thread; and what the
-- main thread of a layer process always knows of itself.
use Rattle.std.proofs.Common.{◌≡◌, ℕ, true}
use Rattle.script_spec.specs.declared.script.Script.{Script}
use Rattle.win32_spec.specs.MemoryEffects.{HaveRegisters}
use Rattle.win32_spec.specs.State.{Win32State}
use Rattle.layer_spec.specs.Moment.{Moment, HistoryStep}
use Rattle.layer_spec.specs.Turns.{is_live_process}
use Rattle.world_spec.specs.Notes.{IsBetweenCalls}
use Rattle.world_spec.specs.NotesBeside.{between-stays}
use Rattle.world_spec.specs.ProgramLaws.{RunsItsProgram, runs-on}
use Rattle.world_spec.specs.RowsBesideLaws.{IsOwnRow}
use Rattle.world_spec.specs.SeenStep.{IsSeenStep, IsBeside}
use Rattle.layer_actor.specs.declared.identity.Identity.{Identity}
use Rattle.layer_actor.specs.declared.look.Look.{Look}

-- The main thread is that of process w, which runs the program of its image.
pub record IsMainOf (who : Identity) (s : Win32State) (w : ℕ) : Type 0 where
  pub image : who.image ≡ w
  pub runs : RunsItsProgram s w

-- It looks at the word of its own row, between two calls of its program.
pub record LookClause {A : Type 0} (who : Identity) (now : Moment A) (w : ℕ) (x : Look) : Type 0 where
  pub row : x.row ≡ who.row
  pub between : IsBetweenCalls now w who.row

module _ {A : Type 0} (script : Script) (step : HistoryStep A) (seen : IsSeenStep script step) (w : ℕ)
    (beside : IsBeside step w 0) (before : is_live_process step.before.win32 w ≡ true)
    (after : is_live_process step.after.win32 w ≡ true) (who : Identity) where
  -- what it knows of itself outlasts each step beside it
  pub main-stays : HaveRegisters script → IsOwnRow step.before.win32 w who.row → IsMainOf who step.before.win32 w
      → IsMainOf who step.after.win32 w
  main-stays registers own h =
      record { image = h.image; runs = runs-on script registers step seen w before after who.row beside own h.runs }

  pub look-outlasts : (x : Look) → LookClause who step.before w x → LookClause who step.after w x
  look-outlasts x h = record {
    row = h.row;
    between = between-stays script step seen w who.row beside before after h.between;
  }
