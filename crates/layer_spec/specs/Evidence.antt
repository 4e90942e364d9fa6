-- Where an event may stand, and what its entry and those before it show: one case an event.
use Rattle.std.specs.Prelude.{◌≡◌, ℕ, Bool, true, ◌||◌, nat_eq, IsSome, MatchBool}
use Rattle.w32_base.specs.declared.event.Event.{Event}
use Rattle.w32_base.specs.declared.event.Event.TheVariants as event
use Rattle.w32_base.specs.declared.entry.Directive.TheVariants as directive
use Rattle.script_spec.specs.declared.script.Script.{Script}
use Rattle.layer_spec.specs.Moment.{HistoryStep}
use Rattle.layer_spec.specs.Turns.{is_thread_turn, image_named}
use Rattle.layer_spec.specs.ImageEvidence.{ChildImageIsMade, NextImageIsMade}
use Rattle.layer_spec.specs.RefusalEvidence.{ForkRefusalHasCause, ExecRefusalHasCause}
use Rattle.layer_spec.specs.DeathEvidence.{DeathIsTrue, HostReadsStatus, ReapedHasEnded}

-- where an event may stand: in a turn of the main thread of a process, of its main thread or its signal thread, of the
-- host's console or its starter, of the one that acts (the console for number 0), or of any thread
pub data Place : Type 0 where
  MainThread : (p : ℕ) → Place
  MainOrSignalThread : (p : ℕ) → Place
  Console : Place
  Starter : Place
  Acting : (p : ℕ) → Place
  AnyThread : Place

-- whether the step's entry is a turn of thread t of the process that p's main word names
abbrev pub is_turn_of_image : {A : Type 0} → HistoryStep A → (p t : ℕ) → Bool
is_turn_of_image step p t = is_thread_turn step.before.win32 step.entry.directive (image_named step.before.win32 p) t

-- The step's entry stands in such a turn. That it is one that was carried out is said beside it.
abbrev pub StandsInPlace : {A : Type 0} → HistoryStep A → Place → Type 0
StandsInPlace step (MainThread p) = is_turn_of_image step p 0 ≡ true
StandsInPlace step (MainOrSignalThread p) = (is_turn_of_image step p 0 || is_turn_of_image step p 1) ≡ true
StandsInPlace step Console = step.entry.directive ≡ directive.Turn 0 0
StandsInPlace step Starter = step.entry.directive ≡ directive.Turn 0 1
StandsInPlace step (Acting p) =
    MatchBool (nat_eq p 0) (step.entry.directive ≡ directive.Turn 0 0) (is_turn_of_image step p 0 ≡ true)
StandsInPlace step AnyThread = Unit {0}

-- The place of each event, and what is shown beside it.
abbrev pub ShowsEvent : {A : Type 0} → Script → HistoryStep A → Event → Type 0
ShowsEvent script step (event.Run p n) = StandsInPlace step (MainThread p)
ShowsEvent script step (event.Get p f v) = StandsInPlace step (MainThread p)
ShowsEvent script step (event.Fork p c) = StandsInPlace step (MainThread p) × ChildImageIsMade script step p c
ShowsEvent script step (event.ForkFail p cause) =
    StandsInPlace step (MainThread p) × ForkRefusalHasCause script step p cause
ShowsEvent script step (event.Exec p name) = StandsInPlace step (MainThread p) × NextImageIsMade script step p name
ShowsEvent script step (event.ExecFail p cause) =
    StandsInPlace step (MainThread p) × ExecRefusalHasCause script step p cause
ShowsEvent script step (event.Kill p q signal answer) = StandsInPlace step (MainThread p)
ShowsEvent script step (event.Member p q signal) = StandsInPlace step (Acting p)
ShowsEvent script step (event.GroupDone p g signal answer) = StandsInPlace step (Acting p)
ShowsEvent script step (event.Look p c) = StandsInPlace step (MainThread p)
ShowsEvent script step (event.Block p) = StandsInPlace step (MainThread p)
ShowsEvent script step (event.Nothing p) = StandsInPlace step (MainThread p)
ShowsEvent script step (event.Reap p c v) = StandsInPlace step (MainThread p) × ReapedHasEnded step c
ShowsEvent script step (event.Report p c v) = StandsInPlace step (MainThread p)
ShowsEvent script step (event.NoChild p) = StandsInPlace step (MainThread p)
ShowsEvent script step (event.Refuse p e) = StandsInPlace step (MainThread p)
ShowsEvent script step (event.Mask p m) = StandsInPlace step (MainThread p)
ShowsEvent script step (event.SetAction p signal action) = StandsInPlace step (MainThread p)
ShowsEvent script step (event.Suspend p m) = StandsInPlace step (MainThread p)
ShowsEvent script step (event.Return p) = StandsInPlace step (MainThread p)
ShowsEvent script step (event.Deliver p signal way) = StandsInPlace step (MainThread p)
ShowsEvent script step (event.Discard p signal) = StandsInPlace step (MainOrSignalThread p)
ShowsEvent script step (event.Stop p signal) = StandsInPlace step (MainThread p)
ShowsEvent script step (event.Die p v cause) = StandsInPlace step AnyThread × DeathIsTrue step p v cause
ShowsEvent script step (event.Notify p) = StandsInPlace step AnyThread
ShowsEvent script step (event.Collect p) = StandsInPlace step AnyThread
ShowsEvent script step (event.SetPgid p q g) = StandsInPlace step (MainThread p)
ShowsEvent script step (event.SetSid p) = StandsInPlace step (MainThread p)
ShowsEvent script step (event.TcSet p g) = StandsInPlace step (MainThread p)
ShowsEvent script step (event.Flags p n) = StandsInPlace step (MainThread p)
ShowsEvent script step (event.Background p signal) = StandsInPlace step (MainThread p)
ShowsEvent script step (event.BackgroundDone p) = StandsInPlace step (MainThread p)
ShowsEvent script step (event.Line p n bytes) = StandsInPlace step (MainThread p)
ShowsEvent script step (event.Write p n bytes) = StandsInPlace step (MainThread p)
ShowsEvent script step (event.Key p b) = StandsInPlace step Console
ShowsEvent script step (event.Host p n) = StandsInPlace step Starter × HostReadsStatus step n

-- An event stands in a turn whose call was carried out, in its place and with what shows it.
pub record HasEvidence {A : Type 0} (script : Script) (step : HistoryStep A) (told : Event) : Type 0 where
  pub carried_out : IsSome step.entry.call
  pub shown : ShowsEvent script step told
