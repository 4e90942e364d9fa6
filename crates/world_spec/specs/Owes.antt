-- What a part owes to the world. A part is given by its calls and by what its turns may do. With it comes its clause:
-- where it may stand, in terms of what was seen, the moment now and the Win32 number of its own process. A clause can't
-- look at the parts of other threads, since A, the type of all parts, is any type.
use Rattle.std.specs.Prelude.{◌≡◌, ℕ, true, false, List, [], Option, Some, None, MatchBool, MatchOption}
use Rattle.w32_base.specs.declared.call.Call.{Call}
use Rattle.w32_base.specs.declared.call.Reply.{Reply}
use Rattle.w32_base.specs.declared.event.Event.{Event}
use Rattle.w32_base.specs.declared.own.Own.{Own}
use Rattle.w32_base.specs.declared.part.After.{After}
use Rattle.w32_base.specs.declared.setup.Setup.{Setup}
use Rattle.script_spec.specs.declared.script.Script.{Script}
use Rattle.win32_spec.specs.State.{Thread, Process, Win32State}
use Rattle.win32_spec.specs.Driven.{Parts, IsOpened}
use Rattle.win32_spec.specs.Lookup.{process_of, is_live, number_in, memory_by, with_own, with_posted}
use Rattle.win32_spec.specs.Opening.{IsOpening}
use Rattle.win32_spec.specs.Ready.{is_ready}
use Rattle.win32_spec.specs.Run.{PostedStep}
use Rattle.posix_spec.specs.Opening.{opening_of}
use Rattle.posix_spec.specs.State.{PosixState}
use Rattle.layer_spec.specs.History.{given_of}
use Rattle.layer_spec.specs.Moment.{Moment, Seen, HistoryStep, seen_with}
use Rattle.layer_spec.specs.Turns.{is_live_process}
use Rattle.world_spec.specs.Sound.{IsSoundMoment, HasSpare}
use Rattle.world_spec.specs.SeenStep.{ShowsStep, IsSeenStep, IsBeside, turn_step}

module _ {P : Type 0} (posted_of : P → Call) (goes : P → Own → Setup → Reply → P → Own → After → Type 0)
    (script : Script) where
  -- After its call, whose process lives on, a part goes on with the reply over the bytes of its own process, gives this
  -- event, and its thread posts its next call. Which call that is, isn't said: where the part is done, it is that of
  -- the part that comes next.
  pub record LivesOn (mid : Win32State) (w t : ℕ) (part : P) (reply : Reply) (given : Option Event) (next : Option P)
      (new : Win32State) : Type 0 where
    pub part_after : P
    pub here : next ≡ Some part_after
    pub own : Own
    pub answer : After
    pub went : goes part (memory_by mid w) script.setup reply part_after own answer
    pub told : given ≡ answer.event
    pub posts : Call
    pub after : new ≡ with_posted (with_own mid w own) w t posts

  -- A turn of a part: its posted call is carried out with this reply. Where its process lives on, the part is `next`
  -- after it. Where the call ended the process, there is no part and no event.
  pub record OwnTurn (s : Win32State) (slot t : ℕ) (part : P) (called : Call) (reply : Reply) (given : Option Event)
      (next : Option P) (new : Win32State) : Type 0 where
    pub process : Process
    pub thread : Thread
    pub mid : Win32State
    pub posted : PostedStep script s slot t process thread reply mid
    pub ready : is_ready s slot t ≡ true
    pub called_is : called ≡ thread.posted
    pub own_call : thread.posted ≡ posted_of part
    pub goes_on : MatchBool (is_live (process_of mid.processes process.number))
        (LivesOn mid process.number t part reply given next new) ((new ≡ mid) × (given ≡ None) × (next ≡ None))

module _ {A P : Type 0} (posted_of : P → Call) (goes : P → Own → Setup → Reply → P → Own → After → Type 0)
    (thread_of_part : P → ℕ) (clause : List (Seen A) → Moment A → ℕ → P → Type 0) (script : Script) where
  -- What a turn of a part is to give, whatever the parts of the other threads are after it: the event of the entry,
  -- which is the part's own but for the number in a `die` with `world`, the POSIX state after it, all that is to show
  -- of the step, and its own clause after it.
  pub record KeepsTurn (past : List (Seen A)) (now : Moment A) (slot t w : ℕ) (called : Call) (reply : Reply)
      (given : Option Event) (next : Option P) (new : Win32State) : Type 0 where
    pub told : Option Event
    pub given_is : given_of told ≡ given
    pub posix : PosixState
    pub shows : (parts : Parts A) → ShowsStep script
        (turn_step past now (record { win32 = new; parts = parts; posix = posix }) slot t called reply told)
    pub stands : (parts : Parts A) → MatchOption next (Unit {0}) (λ part. clause
        (seen_with (turn_step past now (record { win32 = new; parts = parts; posix = posix }) slot t called reply told))
        (record { win32 = new; parts = parts; posix = posix }) w part)

  -- What every part owes. Its clause outlasts each step beside it through which its process lives on. And from its
  -- clause, each turn of its own gives all that a turn is to give.
  pub record KeepsClause : Type 0 where
    pub outlasts : (step : HistoryStep A) → IsSeenStep script step → (w : ℕ) (part : P)
        → IsBeside step w (thread_of_part part)
        → is_live_process step.before.win32 w ≡ true → is_live_process step.after.win32 w ≡ true
        → clause step.past step.before w part → clause (seen_with step) step.after w part
    pub turns : (past : List (Seen A)) (now : Moment A) (slot t : ℕ) (part : P) (called : Call) (reply : Reply)
        (given : Option Event) (next : Option P) (new : Win32State) → IsSoundMoment script past now
        → HasSpare script past → thread_of_part part ≡ t
        → (turn : OwnTurn posted_of goes script now.win32 slot t part called reply given next new)
        → clause past now turn.process.number part
        → KeepsTurn past now slot t turn.process.number called reply given next new

module _ {A : Type 0} (posted_of : A → Call) (goes : A → Own → Setup → Reply → A → Own → After → Type 0)
    (opening : A → Type 0) (slot_of thread_of_part : A → ℕ)
    (clause : List (Seen A) → Moment A → ℕ → A → Type 0) (script : Script) where
  -- What a part that serves a thread for its whole life owes beside it: its clause holds as it is opened, in the
  -- opening moment and after the step that made its process.
  pub record OwesWorld : Type 0 where
    pub keeps : KeepsClause posted_of goes thread_of_part clause script
    pub begins : (now : Moment A) → IsOpening script now.win32 → now.posix ≡ opening_of script → (slot t w : ℕ)
        (part : A)
        → number_in now.win32 slot ≡ Some w → IsOpened posted_of goes opening slot_of thread_of_part slot t part
        → clause [] now w part
    pub opens : (step : HistoryStep A) → IsSeenStep script step → (slot t w : ℕ) (part : A)
        → is_live_process step.before.win32 w ≡ false → number_in step.after.win32 slot ≡ Some w
        → IsOpened posted_of goes opening slot_of thread_of_part slot t part → clause (seen_with step) step.after w part
