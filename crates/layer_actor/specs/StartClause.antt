-- The clause of the start of an image, and that it outlasts each step beside the main thread.
use Rattle.std.proofs.Common.{◌≡◌, ◌⊎◌, inl, inr, ℕ, ◌≤◌, ◌<◌, true, List, Some, sym, ◌∙◌, subst, arith}
use Rattle.w32_base.specs.declared.call.Reply.{Reply}
use Rattle.w32_base.specs.declared.own.Own.{Own}
use Rattle.w32_base.specs.declared.part.After.{After}
use Rattle.w32_base.specs.declared.setup.Setup.{Setup}
use Rattle.script_spec.specs.declared.script.Script.{Script}
use Rattle.win32_spec.specs.Lookup.{object_number, object_of}
use Rattle.win32_spec.specs.MemoryEffects.{HaveRegisters}
use Rattle.win32_spec.specs.Named.{handles_by, named_by}
use Rattle.win32_spec.specs.State.{ProcessObject, Win32State}
use Rattle.layer_spec.specs.Moment.{Moment, Seen, HistoryStep, seen_with}
use Rattle.layer_spec.specs.Turns.{is_live_process}
use Rattle.roster.specs.Turns.{Went, quietly}
use Rattle.world_spec.specs.BesideLaws.{low-stays}
use Rattle.world_spec.specs.Made.{opener_of}
use Rattle.world_spec.specs.Notes.{IsBetweenCalls}
use Rattle.world_spec.specs.NotesBeside.{between-stays}
use Rattle.world_spec.specs.OpenLaws.{HasFirst}
use Rattle.world_spec.specs.OpenLawsOpeners.{opener-stays}
use Rattle.world_spec.specs.ResumeLaws.{process-stays}
use Rattle.world_spec.specs.RowsBesideLaws.{handle-stays}
use Rattle.world_spec.specs.SeenStep.{IsSeenStep, IsBeside}
use Rattle.layer_actor.specs.declared.start.StartStep.{StartStep}
use Rattle.layer_actor.specs.declared.start.StartStep.TheVariants as start
use Rattle.layer_actor.specs.declared.start.Start.{Start}
use Rattle.layer_actor.specs.Start.{start_after}

-- where it goes: by its table, and the own bytes stay
abbrev pub start_table : Setup → Start → Own → Reply → Start
start_table setup p own reply = start_after p own reply

abbrev pub StartGoes : Start → Own → Setup → Reply → Start → Own → After → Type 0
StartGoes p old setup reply q new answer = Went (quietly (start_after p old reply)) old q new answer

abbrev pub start_thread : Start → ℕ
start_thread p = 0

-- The main thread of process w, the image that is started, stands between two calls, its row is this one, and its
-- handles 1 to k name something. The handle that comes next is above k.
pub record IsEquipped {A : Type 0} (now : Moment A) (row image w k : ℕ) : Type 0 where
  pub itself : image ≡ w
  pub between : IsBetweenCalls now w row
  pub handles : HasFirst (handles_by now.win32 w) k

-- Process w has a handle above 8 on itself, which was answered to its main thread.
pub record HoldsItself {A : Type 0} (past : List (Seen A)) (s : Win32State) (w h : ℕ) : Type 0 where
  pub high : 8 < h
  pub names : ℕ
  pub named : named_by s w h ≡ Some names
  pub object : object_of s.objects (object_number names) ≡ Some (ProcessObject w)
  pub opener : opener_of past w h ≡ 0

-- At the opening it is the first process, which is equipped with its three handles, or a process that was made, of
-- which `made` holds: the start that is built is the first process's, so of the other it is enough that it rests then.
abbrev pub StartStepClause : {A : Type 0} → (made : List (Seen A) → Moment A → ℕ → Type 0) → (row image : ℕ)
    → List (Seen A) → Moment A → ℕ → StartStep → Type 0
StartStepClause made row image past now w start.Opening = IsEquipped now row image w 3 ⊎ made past now w
StartStepClause made row image past now w start.MakingWake = IsEquipped now row image w 3
StartStepClause made row image past now w start.MakingMutex = IsEquipped now row image w 4
StartStepClause made row image past now w start.MakingPipe = IsEquipped now row image w 5
StartStepClause made row image past now w start.MakingChange = IsEquipped now row image w 7
StartStepClause made row image past now w start.OpeningItself = IsEquipped now row image w 8
StartStepClause made row image past now w (start.ResumingSignals h) =
    IsBetweenCalls now w row × HoldsItself past now.win32 w h
StartStepClause made row image past now w (start.ResumingWatcher h) =
    IsBetweenCalls now w row × HoldsItself past now.win32 w h
StartStepClause made row image past now w (start.Closing h) =
    IsBetweenCalls now w row × HoldsItself past now.win32 w h
StartStepClause made row image past now w start.Done = IsBetweenCalls now w row
StartStepClause made row image past now w start.Rest = Unit {0}

abbrev pub StartClause : {A : Type 0} → (made : List (Seen A) → Moment A → ℕ → Type 0) → (row : ℕ)
    → List (Seen A) → Moment A → ℕ → Start → Type 0
StartClause made row past now w p = StartStepClause made row p.image past now w p.step

module _ {A : Type 0} (script : Script) (registers : HaveRegisters script)
    (made : List (Seen A) → Moment A → ℕ → Type 0) (row : ℕ) (step : HistoryStep A) (seen : IsSeenStep script step)
    (w : ℕ) (beside : IsBeside step w 0)
    (before : is_live_process step.before.win32 w ≡ true) (after : is_live_process step.after.win32 w ≡ true)
    (made-stays : made step.past step.before w → made (seen_with step) step.after w) where
  stands : IsBetweenCalls step.before w row → IsBetweenCalls step.after w row
  stands h = between-stays script step seen w row beside before after h

  equipped : (image k : ℕ) → k ≤ 8 → IsEquipped step.before row image w k → IsEquipped step.after row image w k
  equipped image k few h = record {
    itself = h.itself;
    between = stands h.between;
    handles = λ j from most.
        let at = h.handles j from most in
        (at.0, low-stays script step seen w j at.0 (omega (arith, few, most)) at.1 after);
  }

  holds : (h : ℕ) → HoldsItself step.past step.before.win32 w h → HoldsItself (seen_with step) step.after.win32 w h
  holds h is =
      let named = handle-stays script step seen w h is.names (subst (IsBeside step w) (sym is.opener) beside) is.named
      after in
      record {
        high = is.high;
        names = is.names;
        named = named;
        object = process-stays script step registers seen w h is.names w is.object named after;
        opener = opener-stays script step seen w h is.names is.named ∙ is.opener;
      }

  pub start-stands : (image : ℕ) (s : StartStep) → StartStepClause made row image step.past step.before w s
      → StartStepClause made row image (seen_with step) step.after w s
  start-stands image start.Opening h = elim h [
    | inl first ↦ inl (equipped image 3 (omega arith) first)
    | inr other ↦ inr (made-stays other)
  ]
  start-stands image start.MakingWake h = equipped image 3 (omega arith) h
  start-stands image start.MakingMutex h = equipped image 4 (omega arith) h
  start-stands image start.MakingPipe h = equipped image 5 (omega arith) h
  start-stands image start.MakingChange h = equipped image 7 (omega arith) h
  start-stands image start.OpeningItself h = equipped image 8 (omega arith) h
  start-stands image (start.ResumingSignals k) h = (stands h.0, holds k h.1)
  start-stands image (start.ResumingWatcher k) h = (stands h.0, holds k h.1)
  start-stands image (start.Closing k) h = (stands h.0, holds k h.1)
  start-stands image start.Done h = stands h
  start-stands image start.Rest h = tt
