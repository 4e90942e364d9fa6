-- Where a world is in its script's schedule.
use Rattle.std.specs.Prelude.{◌≡◌, ℕ, ◌+◌, List, ◌++◌, length}
use Rattle.w32_base.specs.declared.call.Call.{Call}
use Rattle.w32_base.specs.declared.call.Reply.{Reply}
use Rattle.w32_base.specs.declared.own.Own.{Own}
use Rattle.w32_base.specs.declared.part.After.{After}
use Rattle.w32_base.specs.declared.setup.Setup.{Setup}
use Rattle.script_spec.specs.declared.script.ScheduleLine.{ScheduleLine}
use Rattle.script_spec.specs.declared.script.Script.{Script}
use Rattle.win32_spec.specs.Schedule.{IsDone}
use Rattle.posix_spec.specs.State.{PosixState}
use Rattle.layer_spec.specs.Headline.{IsScheduledTo}
use Rattle.layer_spec.specs.Moment.{Moment, Seen}
use Rattle.w32_machine.specs.Contract.{key_lines}
use Rattle.layer_world.specs.World.{WorldValue, IsWorldOf, keys_entered}

module _ {A : Type 0} (posted_of : A → Call) (goes : A → Own → Setup → Reply → A → Own → After → Type 0)
    (opening : A → Type 0) (slot_of thread_of_part : A → ℕ)
    (clause : Script → List (Seen A) → Moment A → ℕ → A → Type 0) where
  -- These lines of the schedule are left to a world, and the round rule last gave a turn to this thread. Its journal is
  -- that of a history under the lines before them, of which those since the last entry have nothing to give. The keys
  -- that were entered are those of the lines before.
  pub record IsAt (w : WorldValue A) (lines : List ScheduleLine) (slot thread : ℕ) : Type 0 where
    pub past : List (Seen A)
    pub posix : PosixState
    pub world : IsWorldOf posted_of goes opening slot_of thread_of_part clause w past posix
    pub passed : List ScheduleLine
    pub done : IsDone w.state.win32 passed
    pub scheduled : IsScheduledTo w.script past (record { lines = passed ++ lines; slot = slot; thread = thread })
    pub keys : keys_entered w.entries + key_lines lines ≡ key_lines w.script.directives

  -- The journal has as many entries as the budget, and work remains.
  pub record IsSpent (w : WorldValue A) : Type 0 where
    pub lines : List ScheduleLine
    pub slot : ℕ
    pub thread : ℕ
    pub at : IsAt w lines slot thread
    pub full : length w.entries ≡ w.script.setup.limits.budget
    pub remains : IsDone w.state.win32 lines → ⊥
