-- The meaning of the part of a thread.
use Rattle.std.specs.Prelude.{◌≡◌, ◌≢◌, ℕ, Bool, true, ◌&&◌, nat_eq, nat_lt, if◌then◌else◌, [], ◌∷◌, Option, None}
use Rattle.w32_base.specs.declared.call.Call.{Call}
use Rattle.w32_base.specs.declared.call.Call.TheVariants as call
use Rattle.w32_base.specs.declared.event.Event.{Event}
use Rattle.w32_base.specs.declared.own.Own.{Own}
use Rattle.w32_base.specs.declared.part.After.{After}
use Rattle.w32_base.specs.Part.{is_progress, KeepsLengths}
use Rattle.machine_bench.specs.declared.worker.Step.{Step}
use Rattle.machine_bench.specs.declared.worker.Step.TheVariants as step
use Rattle.machine_bench.specs.declared.worker.Worker.{Worker}

abbrev pub rank_at : Step → ℕ
rank_at step.Loading = 2
rank_at step.Setting = 1
rank_at step.Waiting = 1

abbrev pub worker_rank : Worker → ℕ
worker_rank p = rank_at p.step

abbrev pub posted_at : Step → Call
posted_at step.Loading = call.Load 1 0
posted_at step.Setting = call.Load 1 1
posted_at step.Waiting = call.WaitAny (4 ∷ [])

abbrev pub worker_posted : Worker → Call
worker_posted p = posted_at p.step

-- the main thread of a layer process
abbrev pub is_main : Worker → Bool
is_main p = nat_lt 0 p.slot && nat_eq p.thread 0

abbrev pub next_at : Bool → Step → Step
next_at main step.Loading = if main then step.Setting else step.Waiting
next_at main step.Setting = step.Loading
next_at main step.Waiting = step.Waiting

-- setting a result stands in the turn as an event
abbrev pub TellsAt : Step → Option Event → Type 0
TellsAt step.Loading event = event ≡ None
TellsAt step.Setting event = is_progress event ≡ true
TellsAt step.Waiting event = event ≡ None

-- what a turn may do
pub record WorkerGoes (p : Worker) (old : Own) (q : Worker) (new : Own) (answer : After) : Type 0 where
  pub part : q ≡ record p { step = next_at (is_main p) p.step }
  pub told : TellsAt p.step answer.event
  pub lengths : KeepsLengths old new
  pub still : p.thread ≢ 0 → new ≡ old
