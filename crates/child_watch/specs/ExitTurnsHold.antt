-- The turns that take the roster mutex and let it go give what they owe.
use Rattle.std.proofs.Common.{◌≡◌, ℕ, List, Option, None, refl, ap, ◌∙◌, subst}
use Rattle.w32_base.specs.declared.call.Call.{Call}
use Rattle.w32_base.specs.declared.call.Reply.{Reply}
use Rattle.w32_base.specs.declared.event.Event.{Event}
use Rattle.script_spec.specs.declared.script.Script.{Script}
use Rattle.win32_spec.specs.Call.{CallStep}
use Rattle.win32_spec.specs.Driven.{Parts}
use Rattle.win32_spec.specs.Lookup.{memory_by}
use Rattle.win32_spec.specs.State.{Win32State}
use Rattle.layer_spec.specs.Moment.{Moment, Seen, seen_with}
use Rattle.roster.specs.declared.hold.Hold.{Hold}
use Rattle.roster.specs.declared.hold.Hold.TheVariants as hold
use Rattle.roster.specs.declared.release.Let.{Let}
use Rattle.roster.specs.declared.release.Let.TheVariants as release
use Rattle.roster.specs.Mutex.{hold_posted, hold_woken, let_posted, let_after}
use Rattle.roster.specs.Turns.{Turn}
use Rattle.world_spec.specs.Calm.{is_plain_call}
use Rattle.world_spec.specs.MutexLaws.{wait-keeps, wait-holds, release-keeps}
use Rattle.world_spec.specs.Owes.{OwnTurn}
use Rattle.world_spec.specs.Sound.{IsSoundMoment}
use Rattle.world_spec.specs.TurnLaws.{own_lives}
use Rattle.child_watch.specs.declared.exiting.ExitStep.{ExitStep}
use Rattle.child_watch.specs.declared.exiting.ExitStep.TheVariants as exit
use Rattle.child_watch.specs.declared.exiting.Exiting.{Exiting}
use Rattle.child_watch.specs.Exiting.{exit_posted, exit_step_posted, exit_step_after, exit_holds}
use Rattle.child_watch.specs.Exiting.{exit_lets}
use Rattle.child_watch.specs.ExitClause.{HasDied, ExitStepClause}
use Rattle.child_watch.specs.ExitTurnsDead.{children-on, dead-died, dead-decodes, dead-holds, dead-cyg, dead-goes}
use Rattle.child_watch.specs.ExitTurns.{ExitGoes, ExitResult, exit_entry, exit_moment, exit_to}

module _ {A : Type 0} (script : Script) (past : List (Seen A)) (now : Moment A) (slot : ℕ) (part : Exiting)
    (called : Call) (reply : Reply) (given : Option Event) (next : Option Exiting) (new : Win32State)
    (sound : IsSoundMoment script past now)
    (turn : OwnTurn exit_posted ExitGoes script now.win32 slot 0 part called reply given next new)
    (h : HasDied past now turn.process.number part.row part.ending) where
  abbrev w : ℕ
  w = turn.process.number

  abbrev row : ℕ
  row = part.row

  abbrev Result : Type 0
  Result = ExitResult script past now slot part called reply given next new sound turn

  abbrev to : Turn ExitStep
  to = exit_to script past now slot part called reply given next new sound turn

  abbrev At : Parts A → ExitStep → Type 0
  At parts s = ExitStepClause script
      (seen_with (exit_entry script past now slot part called reply given next new sound turn None parts now.posix))
      (exit_moment script past now slot part called reply given next new sound turn parts now.posix) w row part.image
      part.ending s

  -- The mutex is taken, also where its last owner has ended; or there is none.
  pub exit-waits : (x : Hold) → part.step ≡ exit.Holding x → Result
  exit-waits hold.Waiting is =
      dead-goes script past now slot part called reply given next new sound turn h
      (wait-keeps script now.win32 sound.formed w 0 reply turn.mid step)
      (exit_holds (memory_by turn.mid w) (hold_woken reply))
      (ap (λ s. exit_step_after row part.ending s (memory_by turn.mid w) reply) is)
      (ap is_plain_call (turn.called_is ∙ its_call))
      (λ parts. by_woken parts (hold_woken reply) refl)
    where
      its_call : turn.thread.posted ≡ hold_posted hold.Waiting
      its_call = turn.own_call ∙ ap (exit_step_posted row part.image part.ending) is

      step : CallStep script now.win32 w 0 (hold_posted hold.Waiting) reply turn.mid
      step = subst (λ c. CallStep script now.win32 w 0 c reply turn.mid) its_call turn.posted.step

      by_woken : (parts : Parts A) (y : Hold) → hold_woken reply ≡ y → At parts (exit_holds (memory_by turn.mid w) y)
      by_woken parts hold.Held e =
          let kept = wait-keeps script now.win32 sound.formed w 0 reply turn.mid step in
          children-on script
          (seen_with (exit_entry script past now slot part called reply given next new sound turn None parts now.posix))
          (exit_moment script past now slot part called reply given next new sound turn parts now.posix) w row
          part.image
          part.ending (dead-decodes script past now slot part called reply given next new sound turn h kept)
          (dead-holds script past now slot part called reply given next new sound turn h kept
          (wait-holds script now.win32 sound.formed w 0 reply turn.mid
          (sound.mutex w
          (own_lives exit_posted ExitGoes script past now slot 0 part called reply given next new sound turn)) step e)
          parts)
          (memory_by turn.mid w)
          (dead-cyg script past now slot part called reply given next new sound turn h kept) 0
      by_woken parts hold.Waiting e = dead-died script past now slot part called reply given next new sound turn h
          (wait-keeps script now.win32 sound.formed w 0 reply turn.mid step) parts
      by_woken parts hold.Rest e = dead-died script past now slot part called reply given next new sound turn h
          (wait-keeps script now.win32 sound.formed w 0 reply turn.mid step) parts
  exit-waits hold.Held is = absurd (subst (λ c. CallStep script now.win32 w 0 c reply turn.mid)
      (turn.own_call ∙ ap (exit_step_posted row part.image part.ending) is) turn.posted.step)
  exit-waits hold.Rest is = absurd (subst (λ c. CallStep script now.win32 w 0 c reply turn.mid)
      (turn.own_call ∙ ap (exit_step_posted row part.image part.ending) is) turn.posted.step)

  -- The mutex is let go.
  pub exit-releases : (x : Let) → part.step ≡ exit.Letting x → Result
  exit-releases release.Releasing is =
      dead-goes script past now slot part called reply given next new sound turn h
      (release-keeps script now.win32 sound.formed w 0 reply turn.mid step)
      (exit_lets (let_after release.Releasing reply))
      (ap (λ s. exit_step_after row part.ending s (memory_by turn.mid w) reply) is)
      (ap is_plain_call (turn.called_is ∙ its_call))
      (λ parts. by_let parts (let_after release.Releasing reply))
    where
      its_call : turn.thread.posted ≡ let_posted release.Releasing
      its_call = turn.own_call ∙ ap (exit_step_posted row part.image part.ending) is

      step : CallStep script now.win32 w 0 (let_posted release.Releasing) reply turn.mid
      step = subst (λ c. CallStep script now.win32 w 0 c reply turn.mid) its_call turn.posted.step

      by_let : (parts : Parts A) (y : Let) → At parts (exit_lets y)
      by_let parts release.Releasing = dead-died script past now slot part called reply given next new sound turn h
          (release-keeps script now.win32 sound.formed w 0 reply turn.mid step) parts
      by_let parts release.Released = dead-died script past now slot part called reply given next new sound turn h
          (release-keeps script now.win32 sound.formed w 0 reply turn.mid step) parts
      by_let parts release.Rest = dead-died script past now slot part called reply given next new sound turn h
          (release-keeps script now.win32 sound.formed w 0 reply turn.mid step) parts
  exit-releases release.Released is = absurd (subst (λ c. CallStep script now.win32 w 0 c reply turn.mid)
      (turn.own_call ∙ ap (exit_step_posted row part.image part.ending) is) turn.posted.step)
  exit-releases release.Rest is = absurd (subst (λ c. CallStep script now.win32 w 0 c reply turn.mid)
      (turn.own_call ∙ ap (exit_step_posted row part.image part.ending) is) turn.posted.step)
