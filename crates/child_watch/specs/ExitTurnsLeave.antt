-- The last turn, which ends the own Win32 process, gives what it owes.
use Rattle.std.proofs.Common.{◌≡◌, ℕ, ◌<◌, List, Option, None, MatchOption, refl, sym, ap, ◌∙◌}
use Rattle.std.proofs.Common.{subst}
use Rattle.std.proofs.Common.{arith}
use Rattle.w32_base.specs.declared.call.Call.{Call}
use Rattle.w32_base.specs.declared.call.Call.TheVariants as call
use Rattle.w32_base.specs.declared.call.Reply.{Reply}
use Rattle.w32_base.specs.declared.event.Event.{Event}
use Rattle.script_spec.specs.declared.script.Script.{Script}
use Rattle.win32_spec.specs.Call.{CallStep}
use Rattle.win32_spec.specs.CallEffects.{by_bool}
use Rattle.win32_spec.specs.Ends.{with_end}
use Rattle.win32_spec.specs.FormedLaws.{live_found}
use Rattle.win32_spec.specs.Lookup.{process_of, is_live}
use Rattle.win32_spec.specs.Run.{ended_from_outside}
use Rattle.win32_spec.specs.State.{Win32State}
use Rattle.layer_spec.specs.Moment.{Moment, Seen, seen_with}
use Rattle.world_spec.specs.EndLaws.{process-end}
use Rattle.world_spec.specs.ExitSelfLaws.{exitself-shows}
use Rattle.world_spec.specs.Owes.{OwnTurn}
use Rattle.world_spec.specs.Sound.{IsSoundMoment}
use Rattle.child_watch.specs.declared.exiting.ExitStep.TheVariants as exit
use Rattle.child_watch.specs.declared.exiting.Exiting.{Exiting}
use Rattle.child_watch.specs.Ending.{status_of}
use Rattle.child_watch.specs.Exiting.{exit_posted, exit_step_posted}
use Rattle.child_watch.specs.ExitClause.{HasDied, ExitClause}
use Rattle.child_watch.specs.ExitTurns.{ExitGoes, ExitResult, exit_entry, exit_moment}

module _ {A : Type 0} (script : Script) (past : List (Seen A)) (now : Moment A) (slot : ℕ) (part : Exiting)
    (called : Call) (reply : Reply) (given : Option Event) (next : Option Exiting) (new : Win32State)
    (sound : IsSoundMoment script past now)
    (turn : OwnTurn exit_posted ExitGoes script now.win32 slot 0 part called reply given next new)
    (h : HasDied past now turn.process.number part.row part.ending) (is : part.step ≡ exit.Leaving) where
  abbrev w : ℕ
  w = turn.process.number

  abbrev code : ℕ
  code = status_of part.ending

  its_call : turn.thread.posted ≡ call.ExitSelf code
  its_call = turn.own_call ∙ ap (exit_step_posted part.row part.image part.ending) is

  ended : turn.mid ≡ with_end now.win32 w code
  ended =
      let step : CallStep script now.win32 w 0 (call.ExitSelf code) reply turn.mid =
      subst (λ c. CallStep script now.win32 w 0 c reply turn.mid) its_call turn.posted.step in
      step.1

  -- its process doesn't live on
  gone : (new ≡ turn.mid) × (given ≡ None) × (next ≡ None)
  gone = by_bool (is_live (process_of turn.mid.processes w))
      (λ live m. absurd (
      let q = live_found (process_of turn.mid.processes w) live in
      let at = process-end script now.win32 sound.formed w code w q.0
      (ap (λ (s : Win32State). process_of s.processes w) (sym ended) ∙ q.1) q.2 in
      at.1 refl))
      (λ dead m. m) turn.goes_on

  pub exit-leaves : ExitResult script past now slot part called reply given next new sound turn
  exit-leaves = record {
    told = None;
    given_is = sym gone.1;
    posix = now.posix;
    shows = exitself-shows script past now slot 0 called reply new w code sound h.layer h.unnamed small
        h.first (turn.called_is ∙ its_call) (gone.0 ∙ ended);
    stands = λ parts. subst (λ o. MatchOption o (Unit {0}) (λ q. ExitClause script
        (seen_with (exit_entry script past now slot part called reply given next new sound turn None parts now.posix))
        (exit_moment script past now slot part called reply given next new sound turn parts now.posix) w q))
        (sym gone.2) tt;
  }
    where
      small : code < ended_from_outside
      small = omega (arith, h.small)
