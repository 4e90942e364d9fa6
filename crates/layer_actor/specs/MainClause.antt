-- The clause of the main thread of a layer process: that of the piece at which it stands, and beside it, while it has
-- something to do in its program, what it always knows of itself. It outlasts each step beside the thread.
use Rattle.std.proofs.Common.{◌≡◌, inl, inr, ℕ, Bool, true, false, List, subst}
use Rattle.script_spec.specs.declared.script.Script.{Script}
use Rattle.win32_spec.specs.MemoryEffects.{HaveRegisters}
use Rattle.win32_spec.specs.State.{Win32State}
use Rattle.layer_spec.specs.Moment.{Moment, Seen, HistoryStep, seen_with}
use Rattle.layer_spec.specs.Turns.{is_live_process}
use Rattle.kill_calls.specs.declared.one.KillOne.{KillOne}
use Rattle.kill_calls.specs.declared.one.KillStep.{KillStep}
use Rattle.kill_calls.specs.declared.one.KillStep.TheVariants as kill
use Rattle.kill_calls.specs.KillBeside.{kill-outlasts}
use Rattle.kill_calls.specs.KillClause.{own_row, KillStepClause, KillClause}
use Rattle.child_watch.specs.ExitClause.{ExitClause}
use Rattle.child_watch.specs.ExitOutlasts.{exit-outlasts}
use Rattle.world_spec.specs.RowsBesideLaws.{IsOwnRow}
use Rattle.world_spec.specs.SeenStep.{IsSeenStep, IsBeside}
use Rattle.layer_actor.specs.declared.actor.MainThread.{MainThread}
use Rattle.layer_actor.specs.declared.doing.Doing.{Doing}
use Rattle.layer_actor.specs.declared.doing.Doing.TheVariants as doing
use Rattle.layer_actor.specs.declared.gets.Asked.{Asked}
use Rattle.layer_actor.specs.declared.gets.GetStep.{GetStep}
use Rattle.layer_actor.specs.declared.gets.GetStep.TheVariants as get
use Rattle.layer_actor.specs.declared.identity.Identity.{Identity}
use Rattle.layer_actor.specs.declared.idle.Idle.TheVariants as idle
use Rattle.layer_actor.specs.declared.local.Local.{Local}
use Rattle.layer_actor.specs.declared.local.Local.TheVariants as local
use Rattle.layer_actor.specs.declared.start.StartStep.{StartStep}
use Rattle.layer_actor.specs.declared.start.StartStep.TheVariants as start
use Rattle.layer_actor.specs.GetsClause.{GetClause, GetsClause, gets-outlasts}
use Rattle.layer_actor.specs.LocalClause.{LocalClause, local-outlasts}
use Rattle.layer_actor.specs.LookClause.{IsMainOf, LookClause, look-outlasts, main-stays}
use Rattle.layer_actor.specs.StartClause.{StartStepClause, StartClause, start-stands}
use Rattle.layer_actor.specs.StartHolds.{NoneMade}

-- whether a thread that does this has something to do in its program: it doesn't rest, and its process doesn't end
abbrev pub start_works : StartStep → Bool
start_works start.Rest = false
start_works _ = true

abbrev pub local_works : Local → Bool
local_works local.Rest = false
local_works _ = true

abbrev pub get_works : GetStep → Bool
get_works get.Rest = false
get_works _ = true

abbrev pub kill_works : KillStep → Bool
kill_works kill.Rest = false
kill_works _ = true

abbrev pub works : Doing → Bool
works (doing.Start x) = start_works x.step
works (doing.Look x) = true
works (doing.Local x) = local_works x
works (doing.Gets x) = get_works x.step
works (doing.Kill x) = kill_works x.step
works (doing.Exit x) = false
works (doing.Idle x) = false

-- The clause of the piece at which the main thread of this process stands. No process is made, so a start is the first
-- process's; a kill is by the process of the own row; and a thread that has nothing to do rests.
abbrev pub PieceClause : {A : Type 0} → Script → Identity → List (Seen A) → Moment A → ℕ → Doing → Type 0
PieceClause script who past now w (doing.Start x) = StartClause NoneMade who.row past now w x
PieceClause script who past now w (doing.Look x) = LookClause who now w x
PieceClause script who past now w (doing.Local x) = LocalClause script who.row past now w x
PieceClause script who past now w (doing.Gets x) = GetsClause script who.row past now w x
PieceClause script who past now w (doing.Kill x) = (own_row x ≡ who.row) × KillClause script past now w x
PieceClause script who past now w (doing.Exit x) = ExitClause script past now w x
PieceClause script who past now w (doing.Idle x) = x ≡ idle.Resting

abbrev pub StandsAtPiece : {A : Type 0} → Script → List (Seen A) → Moment A → ℕ → MainThread → Type 0
StandsAtPiece script past now w x = PieceClause script x.who past now w x.doing

-- while it has something to do, it is the main thread of process w, which runs the program of its image
abbrev pub KnowsItself : Win32State → ℕ → MainThread → Type 0
KnowsItself s w x = works x.doing ≡ true → IsMainOf x.who s w

abbrev pub MainClause : {A : Type 0} → Script → List (Seen A) → Moment A → ℕ → MainThread → Type 0
MainClause script past now w x = KnowsItself now.win32 w x × StandsAtPiece script past now w x

-- While it has something to do, its row is the own one.
module _ {A : Type 0} (script : Script) (who : Identity) (past : List (Seen A)) (now : Moment A) (w : ℕ) where
  start_row : (image : ℕ) (s : StartStep) → start_works s ≡ true → StartStepClause NoneMade who.row image past now w s
      → IsOwnRow now.win32 w who.row
  start_row image start.Opening is h = elim h [ inl first ↦ first.between.own | inr made ↦ absurd made ]
  start_row image start.MakingWake is h = h.between.own
  start_row image start.MakingMutex is h = h.between.own
  start_row image start.MakingPipe is h = h.between.own
  start_row image start.MakingChange is h = h.between.own
  start_row image start.OpeningItself is h = h.between.own
  start_row image (start.ResumingSignals k) is h = h.0.own
  start_row image (start.ResumingWatcher k) is h = h.0.own
  start_row image (start.Closing k) is h = h.0.own
  start_row image start.Done is h = h.own
  start_row image start.Rest is h = absurd (let never : false ≡ true = is in cc)

  local_row : (x : Local) → local_works x ≡ true → LocalClause script who.row past now w x
      → IsOwnRow now.win32 w who.row
  local_row (local.Running row) is h = h.1.own
  local_row local.Done is h = h.own
  local_row local.Rest is h = absurd (let never : false ≡ true = is in cc)

  get_row : (a : Asked) (s : GetStep) → get_works s ≡ true → GetClause script who.row now w a s
      → IsOwnRow now.win32 w who.row
  get_row a get.Grouping is h = h.own
  get_row a (get.Parent parent) is h = h.1.at.own
  get_row a get.Done is h = h.own
  get_row a get.Rest is h = absurd (let never : false ≡ true = is in cc)

  kill_row : (x : KillOne) (s : KillStep) → kill_works s ≡ true → KillStepClause script now w x s
      → IsOwnRow now.win32 w (own_row x)
  kill_row x kill.Checking is h = h.next.own
  kill_row x (kill.Posting p) is h = absurd h
  kill_row x (kill.Ending p) is h = absurd h
  kill_row x kill.Done is h = h.own
  kill_row x kill.Rest is h = absurd (let never : false ≡ true = is in cc)

  pub its-row : (d : Doing) → works d ≡ true → PieceClause script who past now w d → IsOwnRow now.win32 w who.row
  its-row (doing.Start x) is h = start_row x.image x.step is h
  its-row (doing.Look x) is h = h.between.own
  its-row (doing.Local x) is h = local_row x is h
  its-row (doing.Gets x) is h = get_row x.asked x.step is h.1
  its-row (doing.Kill x) is h = subst (IsOwnRow now.win32 w) h.0 (kill_row x x.step is h.1)
  its-row (doing.Exit x) is h = absurd (let never : false ≡ true = is in cc)
  its-row (doing.Idle x) is h = absurd (let never : false ≡ true = is in cc)

module _ {A : Type 0} (script : Script) (registers : HaveRegisters script) (step : HistoryStep A)
    (seen : IsSeenStep script step) (w : ℕ) (beside : IsBeside step w 0)
    (before : is_live_process step.before.win32 w ≡ true) (after : is_live_process step.after.win32 w ≡ true) where
  piece_outlasts : (who : Identity) (d : Doing) → PieceClause script who step.past step.before w d
      → PieceClause script who (seen_with step) step.after w d
  piece_outlasts who (doing.Start x) h =
      start-stands script registers NoneMade who.row step seen w beside before after (λ made. made) x.image x.step h
  piece_outlasts who (doing.Look x) h = look-outlasts script step seen w beside before after who x h
  piece_outlasts who (doing.Local x) h = local-outlasts script registers who.row step seen w x beside before after h
  piece_outlasts who (doing.Gets x) h = gets-outlasts script who.row step seen w beside before after x h
  piece_outlasts who (doing.Kill x) h = (h.0, kill-outlasts script registers step seen w beside before after x h.1)
  piece_outlasts who (doing.Exit x) h = exit-outlasts script registers step seen w beside before after x h
  piece_outlasts who (doing.Idle x) h = h

  -- The clause of a main thread outlasts each step beside it.
  pub main-outlasts : (x : MainThread) → MainClause script step.past step.before w x
      → MainClause script (seen_with step) step.after w x
  main-outlasts x h = (
    λ is. main-stays script step seen w beside before after x.who registers
        (its-row script x.who step.past step.before w x.doing is h.1) (h.0 is),
    piece_outlasts x.who x.doing h.1,
  )
