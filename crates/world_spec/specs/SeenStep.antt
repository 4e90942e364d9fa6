-- What every thread sees of a step of the world, whoever it is by, and what is left to show of it beside the machine.
use Rattle.std.specs.Prelude.{◌≡◌, ◌⊎◌, ℕ, ◌≤◌, ◌<◌, List, Option, Some, None, MatchOption}
use Rattle.w32_base.specs.declared.call.Call.{Call}
use Rattle.w32_base.specs.declared.call.Reply.{Reply}
use Rattle.w32_base.specs.declared.entry.Directive.{Directive}
use Rattle.w32_base.specs.declared.entry.Directive.TheVariants as directive
use Rattle.w32_base.specs.declared.entry.Outcome.TheVariants as outcome
use Rattle.w32_base.specs.declared.event.Event.{Event}
use Rattle.script_spec.specs.declared.script.Script.{Script}
use Rattle.win32_spec.specs.Facts.{IsTurnOfThread}
use Rattle.win32_spec.specs.Run.{DirectiveStep}
use Rattle.posix_spec.specs.Run.{PosixStep}
use Rattle.layer_spec.specs.Decodes.{Decodes}
use Rattle.layer_spec.specs.Discipline.{KeepsDiscipline}
use Rattle.layer_spec.specs.Evidence.{HasEvidence}
use Rattle.layer_spec.specs.Moment.{Moment, Seen, HistoryStep}
use Rattle.world_spec.specs.Facts.{KeepsFacts}
use Rattle.world_spec.specs.Sound.{IsSoundMoment}

-- What is to show of a step beside its Win32 step. Its event is a step of the POSIX machine, and without one that state
-- stays. The entry keeps the discipline and has its evidence. After it rows and images show the POSIX state. It keeps
-- the facts on which other threads rely.
pub record ShowsStep {A : Type 0} (script : Script) (step : HistoryStep A) : Type 0 where
  pub posix : MatchOption step.entry.event (step.after.posix ≡ step.before.posix)
      (λ told. PosixStep script step.before.posix told step.after.posix)
  pub discipline : KeepsDiscipline script step
  pub evidence : MatchOption step.entry.event (Unit {0}) (λ told. HasEvidence script step told)
  pub decodes : Decodes script step.after.win32 step.after.posix
  pub facts : KeepsFacts step

-- The directives that a world takes: an `end` is of a slot for layer processes, and a key is a byte, as in a script.
abbrev pub IsTaken : Directive → Type 0
IsTaken (directive.Turn slot t) = Unit {0}
IsTaken (directive.End slot) = 1 ≤ slot
IsTaken (directive.Key b) = b < 256

-- What every thread sees of a step: from a sound moment, its directive is one that a world takes, the entry is a step
-- of the Win32 machine, and all of the above. The parts of other threads aren't in it.
pub record IsSeenStep {A : Type 0} (script : Script) (step : HistoryStep A) : Type 0 where
  pub taken : IsTaken step.entry.directive
  pub before : IsSoundMoment script step.past step.before
  pub win32 : DirectiveStep script step.before.win32 step.entry step.after.win32
  pub shows : ShowsStep script step

-- Nothing happened in the step: the turn was of a thread that isn't ready, or the end of an empty slot.
pub record IsIdle {A : Type 0} (step : HistoryStep A) : Type 0 where
  pub called : step.entry.call ≡ None
  pub came : step.entry.outcome ≡ outcome.Idle
  pub told : step.entry.event ≡ None
  pub win32 : step.after.win32 ≡ step.before.win32
  pub posix : step.after.posix ≡ step.before.posix

-- The step isn't a turn in which thread t of process w acts.
abbrev pub IsBeside : {A : Type 0} → HistoryStep A → (w t : ℕ) → Type 0
IsBeside step w t = (IsTurnOfThread step.before.win32 step.entry.directive w t → ⊥) ⊎ IsIdle step

-- the step in which a thread's call was carried out with this reply, with this event or none
abbrev pub turn_step : {A : Type 0} → List (Seen A) → (now after : Moment A) → (slot t : ℕ) → Call → Reply
    → Option Event → HistoryStep A
turn_step past now after slot t called reply told = record {
  past = past;
  before = now;
  entry = record {
    directive = directive.Turn slot t;
    call = Some called;
    outcome = outcome.Step reply;
    event = told;
  };
  after = after;
}
