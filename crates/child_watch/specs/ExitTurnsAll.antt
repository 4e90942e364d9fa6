-- Every turn of the end of a process gives what it owes.
use Rattle.std.proofs.Common.{◌≡◌, ℕ, ◌+◌, List, Option, refl, ap, ◌∙◌, subst}
use Rattle.w32_base.specs.declared.call.Call.{Call}
use Rattle.w32_base.specs.declared.call.Reply.{Reply}
use Rattle.w32_base.specs.declared.event.Event.{Event}
use Rattle.script_spec.specs.declared.script.Script.{Script}
use Rattle.win32_spec.specs.Call.{CallStep}
use Rattle.win32_spec.specs.Lookup.{memory_by}
use Rattle.win32_spec.specs.State.{Win32State}
use Rattle.layer_spec.specs.Moment.{Moment, Seen}
use Rattle.world_spec.specs.Owes.{OwnTurn, KeepsTurn}
use Rattle.world_spec.specs.Sound.{IsSoundMoment}
use Rattle.child_watch.specs.declared.collect.Gather.TheVariants as gather
use Rattle.child_watch.specs.declared.exiting.ExitStep.{ExitStep}
use Rattle.child_watch.specs.declared.exiting.ExitStep.TheVariants as exit
use Rattle.child_watch.specs.declared.exiting.Exiting.{Exiting}
use Rattle.child_watch.specs.Exiting.{exit_posted, exit_step_posted, exit_step_after, exit_gathers, exit_itself}
use Rattle.child_watch.specs.ExitClause.{ExitStepClause, ExitClause}
use Rattle.child_watch.specs.ExitTurns.{ExitGoes, ExitResult, exit_thread}
use Rattle.child_watch.specs.ExitTurnsDead.{children-on}
use Rattle.child_watch.specs.ExitTurnsCollect.{exit-gathers}
use Rattle.child_watch.specs.ExitTurnsGather.{Wraps}
use Rattle.child_watch.specs.ExitTurnsHold.{exit-waits, exit-releases}
use Rattle.child_watch.specs.ExitTurnsLeave.{exit-leaves}
use Rattle.child_watch.specs.ExitTurnsLook.{exit-looks}
use Rattle.child_watch.specs.ExitTurnsMark.{exit-marks}
use Rattle.child_watch.specs.ExitTurnsParent.{exit-groups, exit-parents}
use Rattle.child_watch.specs.ExitTurnsSeal.{exit-seals}

module _ {A : Type 0} (script : Script) (past : List (Seen A)) (now : Moment A) (slot : ℕ)
    (part : Exiting) (called : Call) (reply : Reply) (given : Option Event) (next : Option Exiting) (new : Win32State)
    (sound : IsSoundMoment script past now)
    (turn : OwnTurn exit_posted ExitGoes script now.win32 slot 0 part called reply given next new) where
  abbrev w : ℕ
  w = turn.process.number

  abbrev Result : Type 0
  Result = ExitResult script past now slot part called reply given next new sound turn

  -- behind a child that is done comes the next one
  child_wraps : (place : ℕ) → Wraps A script w part.row part.image part.ending (memory_by turn.mid w)
      (exit_gathers (memory_by turn.mid w) place)
  child_wraps place later after decodes h cyg gather.Done clause =
      children-on script later after w part.row part.image part.ending decodes h (memory_by turn.mid w) cyg (place + 1)
  child_wraps place later after decodes h cyg (gather.Looking r) clause = (h, clause)
  child_wraps place later after decodes h cyg (gather.Trying r old n) clause = (h, clause)
  child_wraps place later after decodes h cyg gather.Rest clause = (h, clause)

  -- and behind itself the mutex is let go
  itself_wraps : Wraps A script w part.row part.image part.ending (memory_by turn.mid w) exit_itself
  itself_wraps later after decodes h cyg gather.Done clause = h.died
  itself_wraps later after decodes h cyg (gather.Looking r) clause = (h, clause)
  itself_wraps later after decodes h cyg (gather.Trying r old n) clause = (h, clause)
  itself_wraps later after decodes h cyg gather.Rest clause = (h, clause)

  by_step : (s : ExitStep) → part.step ≡ s
      → ExitStepClause script past now w part.row part.image part.ending s → Result
  by_step (exit.Marking old) is h = exit-marks script past now slot part called reply given next new sound turn old is h
  by_step exit.Looking is h = exit-looks script past now slot part called reply given next new sound turn h.0 h.1 is
  by_step (exit.Sealing old n) is h =
      exit-seals script past now slot part called reply given next new sound turn h.0 h.1 old n is h.2
  by_step (exit.Holding x) is h =
      exit-waits script past now slot part called reply given next new sound turn h x is
  by_step (exit.Child place x) is h =
      exit-gathers script past now slot part called reply given next new sound turn h.0
      (exit_gathers (memory_by turn.mid w) place) (child_wraps place) x
      (turn.own_call ∙ ap (exit_step_posted part.row part.image part.ending) is)
      (ap (λ s. exit_step_after part.row part.ending s (memory_by turn.mid w) reply) is) h.1
  by_step exit.Grouping is h = exit-groups script past now slot part called reply given next new sound turn h is
  by_step (exit.Parent parent) is h =
      exit-parents script past now slot part called reply given next new sound turn h.0 parent is h.1
  by_step (exit.Itself x) is h =
      exit-gathers script past now slot part called reply given next new sound turn h.0 exit_itself itself_wraps x
      (turn.own_call ∙ ap (exit_step_posted part.row part.image part.ending) is)
      (ap (λ s. exit_step_after part.row part.ending s (memory_by turn.mid w) reply) is) h.1
  by_step (exit.Letting x) is h =
      exit-releases script past now slot part called reply given next new sound turn h x is
  by_step exit.Leaving is h = exit-leaves script past now slot part called reply given next new sound turn h is
  by_step exit.Rest is h = absurd (subst (λ c. CallStep script now.win32 w 0 c reply turn.mid)
      (turn.own_call ∙ ap (exit_step_posted part.row part.image part.ending) is) turn.posted.step)

  pub exit-turns : ExitClause script past now w part → Result
  exit-turns h = by_step part.step refl h

-- The same of the thread that the part serves, which is the main thread.
pub exit-turns-at : {A : Type 0} → (script : Script) (past : List (Seen A)) (now : Moment A) (slot t : ℕ)
    (part : Exiting) (called : Call) (reply : Reply) (given : Option Event) (next : Option Exiting) (new : Win32State)
    → IsSoundMoment script past now → exit_thread part ≡ t
    → (turn : OwnTurn exit_posted ExitGoes script now.win32 slot t part called reply given next new)
    → ExitClause script past now turn.process.number part
    → KeepsTurn exit_posted ExitGoes exit_thread (ExitClause script) script past now slot t turn.process.number called
    reply given next new
exit-turns-at script past now slot t part called reply given next new sound same =
    subst (λ u. (turn : OwnTurn exit_posted ExitGoes script now.win32 slot u part called reply given next new)
    → ExitClause script past now turn.process.number part
    → KeepsTurn exit_posted ExitGoes exit_thread (ExitClause script) script past now slot u turn.process.number called
    reply given next new) same
    (exit-turns script past now slot part called reply given next new sound)
