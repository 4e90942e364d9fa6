-- A thread that rests gives what it owes to a world, whatever the other parts are.
use Rattle.std.proofs.Common.{◌≡◌, ℕ, Bool, true, false, if◌then◌else◌, List, [], Option, Some, None, MatchOption}
use Rattle.std.proofs.Common.{refl, sym}
use Rattle.std.proofs.Common.{ap, ◌∙◌, subst}
use Rattle.w32_base.specs.declared.call.Call.{Call}
use Rattle.w32_base.specs.declared.call.Call.TheVariants as call
use Rattle.w32_base.specs.declared.call.Reply.{Reply}
use Rattle.w32_base.specs.declared.event.Event.{Event}
use Rattle.script_spec.specs.declared.script.Script.{Script}
use Rattle.win32_spec.specs.State.{Win32State}
use Rattle.win32_spec.specs.Call.{CallStep}
use Rattle.win32_spec.specs.Making.{opening_call}
use Rattle.layer_spec.specs.Moment.{Moment, Seen}
use Rattle.layer_spec.specs.Turns.{is_live_process}
use Rattle.world_spec.specs.Sound.{IsSoundMoment, HasSpare}
use Rattle.world_spec.specs.Owes.{OwnTurn, KeepsTurn, KeepsClause, OwesWorld}
use Rattle.world_spec.specs.Calm.{is_plain_call}
use Rattle.world_spec.specs.CalmSteps.{calm-same}
use Rattle.world_spec.specs.TurnLaws.{quiet-turn, quiet-lives}
use Rattle.world_spec.specs.Resting.{Resting, resting_posted, RestingGoes, IsRestingOpening, RestingClause}

-- Its call leaves the state alone, and is plain; a wait for nothing is never carried out.
resting_call : (script : Script) (s : Win32State) (w t : ℕ) (b : Bool) (r : Reply) (mid : Win32State)
    → CallStep script s w t (if b then call.WaitAny [] else opening_call) r mid
    → (mid ≡ s) × (is_plain_call (if b then call.WaitAny [] else opening_call) ≡ true)
resting_call script s w t true r mid step = absurd step
resting_call script s w t false r mid step = (step.1, refl)

module _ {A : Type 0} (script : Script) where
  resting_turn : (past : List (Seen A)) (now : Moment A) (slot t : ℕ) (part : Resting) (called : Call) (reply : Reply)
      (given : Option Event) (next : Option Resting) (new : Win32State) → IsSoundMoment script past now
      → HasSpare script past → part.thread ≡ t
      → (turn : OwnTurn resting_posted RestingGoes script now.win32 slot t part called reply given next new)
      → RestingClause past now turn.process.number part
      → KeepsTurn resting_posted RestingGoes (λ p. p.thread) RestingClause script past now slot t turn.process.number
      called reply given next new
  resting_turn past now slot t part called reply given next new sound spare same turn clause =
      let at = resting_call script now.win32 turn.process.number t part.rests reply turn.mid
      (subst (λ c. CallStep script now.win32 turn.process.number t c reply turn.mid) turn.own_call turn.posted.step) in
      let calm = calm-same now.win32 turn.mid at.0 in
      let lives : (v : ℕ) → is_live_process now.win32 v ≡ true → is_live_process turn.mid v ≡ true =
      λ v live. ap (λ s. is_live_process s v) at.0 ∙ live in
      let plain : is_plain_call called ≡ true = ap is_plain_call (turn.called_is ∙ turn.own_call) ∙ at.1 in
      let on = quiet-lives resting_posted RestingGoes script past now slot t part called reply given next new sound turn
      calm lives plain in
      record {
        told = None;
        given_is = sym (on.told ∙ on.went.event);
        posix = now.posix;
        shows = quiet-turn resting_posted RestingGoes script past now slot t part called reply given next new sound turn
            calm lives plain
            (λ q own answer went. record {
              image = record {
                dat = ap (λ o. o.dat) went.own;
                heap = ap (λ o. o.heap) went.own;
                stack = ap (λ o. o.stack) went.own;
              };
              cyg = ap (λ o. o.cyg) went.own;
            });
        stands = λ parts. by_next next;
      }
    where
      by_next : (o : Option Resting) → MatchOption o (Unit {0}) (λ q. Unit {0})
      by_next None = tt
      by_next (Some q) = tt

  pub resting_keeps : KeepsClause {A = A} resting_posted RestingGoes (λ p. p.thread) RestingClause script
  resting_keeps = record { outlasts = λ step seen w part beside before after clause. tt; turns = resting_turn }

-- a world of threads that all rest
pub resting_owes : (script : Script)
    → OwesWorld resting_posted RestingGoes IsRestingOpening (λ p. p.slot) (λ p. p.thread) RestingClause script
resting_owes script = record {
  keeps = resting_keeps script;
  begins = λ now opens posix slot t w part number opened. tt;
  opens = λ step seen slot t w part dead number opened. tt;
}
