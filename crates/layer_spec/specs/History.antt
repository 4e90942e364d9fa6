-- A whole run as a history: from the opening moment on, one step after another.
use Rattle.std.specs.Prelude.{◌≡◌, ℕ, pos, List, [], ◌∷◌, Option, Some, None, MatchOption}
use Rattle.w32_base.specs.declared.call.Call.{Call}
use Rattle.w32_base.specs.declared.call.Reply.{Reply}
use Rattle.w32_base.specs.declared.event.Death.{Death}
use Rattle.w32_base.specs.declared.event.Death.TheVariants as death
use Rattle.w32_base.specs.declared.event.Event.{Event}
use Rattle.w32_base.specs.declared.event.Event.TheVariants as event
use Rattle.w32_base.specs.declared.own.Own.{Own}
use Rattle.w32_base.specs.declared.part.After.{After}
use Rattle.w32_base.specs.declared.setup.Setup.{Setup}
use Rattle.script_spec.specs.declared.script.Script.{Script}
use Rattle.win32_spec.specs.Run.{DirectiveStep}
use Rattle.win32_spec.specs.Driven.{DrivenState, DrivenBy, IsDrivenOpening}
use Rattle.posix_spec.specs.Opening.{opening_of}
use Rattle.posix_spec.specs.Run.{PosixStep}
use Rattle.layer_spec.specs.Decodes.{Decodes}
use Rattle.layer_spec.specs.Moment.{Moment, Seen, HistoryStep}
use Rattle.layer_spec.specs.Discipline.{KeepsDiscipline}
use Rattle.layer_spec.specs.Evidence.{HasEvidence}

-- A part doesn't know the number of the entry that ended an image: the event that it gives has 0 there. Every other
-- event is as the part gave it.
abbrev pub death_given : Death → Death
death_given death.Exit = death.Exit
death_given death.Signal = death.Signal
death_given death.Fault = death.Fault
death_given (death.World n) = death.World (pos 0)

abbrev pub event_given : Event → Event
event_given (event.Die p v cause) = event.Die p v (death_given cause)
event_given e = e

abbrev pub given_of : Option Event → Option Event
given_of None = None
given_of (Some e) = Some (event_given e)

-- the machine and its parts at a moment, after a turn whose part gave this event
abbrev pub driven_at : {A : Type 0} → Moment A → Option Event → DrivenState A
driven_at m given = record { win32 = m.win32; parts = m.parts; last = given }

-- what a type of parts means: the calls that a part posts, what its turns may do, and which thread it serves
module _ {A : Type 0} (posted_of : A → Call) (goes : A → Own → Setup → Reply → A → Own → After → Type 0)
    (opening : A → Type 0) (slot_of thread_of : A → ℕ) where
  -- One step. The entry is a step of the Win32 machine. The thread whose turn it is goes with its own part, whose event
  -- the entry's is; all other parts of live processes stay. The event is a step of the POSIX machine, and without an
  -- event its state stays. The entry keeps the discipline, and shows what its event needs. After it rows and images
  -- show the POSIX state.
  pub record IsHistoryStep (script : Script) (step : HistoryStep A) : Type 0 where
    pub win32 : DirectiveStep script step.before.win32 step.entry step.after.win32
    pub driven : DrivenBy posted_of goes opening slot_of thread_of script (driven_at step.before None)
        step.entry.directive step.entry.call step.entry.outcome (driven_at step.after (given_of step.entry.event))
    pub posix : MatchOption step.entry.event (step.after.posix ≡ step.before.posix)
        (λ told. PosixStep script step.before.posix told step.after.posix)
    pub discipline : KeepsDiscipline script step
    pub evidence : MatchOption step.entry.event (Unit {0}) (λ told. HasEvidence script step told)
    pub decodes : Decodes script step.after.win32 step.after.posix

  -- the moment in which a run of this script begins: both machines open, each thread has a part that was just opened,
  -- and rows and images show the POSIX state
  pub record IsOpeningMoment (script : Script) (now : Moment A) : Type 0 where
    pub driven : IsDrivenOpening posted_of goes opening slot_of thread_of script (driven_at now None)
    pub posix : now.posix ≡ opening_of script
    pub decodes : Decodes script now.win32 now.posix

  -- What was seen, the last first, and the moment now: nothing before the opening moment, or one more step after a
  -- history.
  abbrev pub IsHistory : Script → List (Seen A) → Moment A → Type 0
  IsHistory script [] now = IsOpeningMoment script now
  IsHistory script (x ∷ past) now =
      IsHistory script past x.before
      × IsHistoryStep script (record { past = past; before = x.before; entry = x.entry; after = now })
