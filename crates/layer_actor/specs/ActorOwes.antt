-- The part of a thread for its whole life gives all that a part owes to a world, for a valid script that keeps to what
-- the parts are built for.
use Rattle.std.proofs.Common.{◌≡◌, ℕ, ◌≤◌, Bool, true, false, nat_eq, if◌then◌else◌, List, [], Option}
use Rattle.std.proofs.Common.{Some, refl, sym, ap}
use Rattle.std.proofs.Common.{◌∙◌, subst, zero, suc, arith}
use Rattle.std.proofs.lemmas.Bool.{eqb-true}
use Rattle.w32_base.specs.declared.call.Call.{Call}
use Rattle.w32_base.specs.declared.call.Reply.{Reply}
use Rattle.w32_base.specs.declared.event.Event.{Event}
use Rattle.script_spec.specs.declared.script.Script.{Script}
use Rattle.script_spec.specs.Validity.{IsValid}
use Rattle.win32_spec.specs.Driven.{IsOpened}
use Rattle.win32_spec.specs.Lookup.{number_in}
use Rattle.win32_spec.specs.MemoryEffects.{HaveRegisters}
use Rattle.win32_spec.specs.Opening.{IsOpening}
use Rattle.win32_spec.specs.State.{Win32State}
use Rattle.win32_spec.specs.ValidLaws.{registers-valid}
use Rattle.posix_spec.specs.Opening.{opening_of}
use Rattle.layer_spec.specs.Moment.{Moment, Seen, HistoryStep, seen_with}
use Rattle.layer_spec.specs.Turns.{is_live_process}
use Rattle.job_control.specs.declared.starter.Starter.TheVariants as starter
use Rattle.job_control.specs.Starter.{starter_posted}
use Rattle.job_control.specs.StarterBeside.{starter-outlasts}
use Rattle.job_control.specs.StarterClause.{StarterClause}
use Rattle.job_control.specs.StarterKeeps.{starter-keeps, starter-begins}
use Rattle.job_control.specs.StarterTurns.{StarterGoes, starter_thread}
use Rattle.world_spec.specs.Owes.{OwnTurn, KeepsTurn, KeepsClause, OwesWorld}
use Rattle.world_spec.specs.PieceLaws.{piece-turn}
use Rattle.world_spec.specs.Resting.{resting_posted, RestingGoes, RestingClause}
use Rattle.world_spec.specs.RestingLaws.{resting_keeps}
use Rattle.world_spec.specs.RestingWorld.{resting_thread}
use Rattle.world_spec.specs.SeenStep.{IsSeenStep, IsBeside}
use Rattle.world_spec.specs.Sound.{IsSoundMoment, HasSpare}
use Rattle.layer_actor.specs.declared.actor.Actor.{Actor}
use Rattle.layer_actor.specs.declared.actor.Serves.{Serves}
use Rattle.layer_actor.specs.declared.actor.Serves.TheVariants as serves
use Rattle.layer_actor.specs.declared.idle.Idle.TheVariants as idle
use Rattle.layer_actor.specs.Actor.{main_opened, thread_of, actor_posted}
use Rattle.layer_actor.specs.ActorClause.{ActorGoes, actor_slot, actor_thread, ServesClause, ActorClause, actor_of}
use Rattle.layer_actor.specs.ActorClause.{resting_of, main-piece, starter-piece, other-piece}
use Rattle.layer_actor.specs.ActorLaws as laws
use Rattle.layer_actor.specs.Built.{is_built}
use Rattle.layer_actor.specs.MainClause.{MainClause}
use Rattle.layer_actor.specs.MainGoes.{main_posted, main_thread, MainGoes}
use Rattle.layer_actor.specs.MainTurns.{main-keeps}
use Rattle.layer_actor.specs.NoneComes.{none-comes}
use Rattle.layer_actor.specs.OpensMain.{opens-main}
use Rattle.layer_actor.specs.StartHolds.{NoneMade, start-begins}

module _ {A : Type 0} (script : Script) (registers : HaveRegisters script)
    (keeps : KeepsClause {A = A} main_posted MainGoes main_thread (MainClause script) script) where
  serves_outlasts : (step : HistoryStep A) → IsSeenStep script step → (w : ℕ) (x : Serves)
      → IsBeside step w (thread_of x) → is_live_process step.before.win32 w ≡ true
      → is_live_process step.after.win32 w ≡ true → ServesClause script step.past step.before w x
      → ServesClause script (seen_with step) step.after w x
  serves_outlasts step seen w (serves.Main x) beside before after h = keeps.outlasts step seen w x beside before after h
  serves_outlasts step seen w (serves.Starter x) beside before after h =
      starter-outlasts script registers step seen w beside x h
  serves_outlasts step seen w (serves.Other thread x) beside before after h = tt

  module _ (past : List (Seen A)) (now : Moment A) (slot t : ℕ) (called : Call) (reply : Reply) (given : Option Event)
      (next : Option Actor) (new : Win32State) (sound : IsSoundMoment script past now)
      (spare : HasSpare script past) where
    by_serves : (its : ℕ) (x : Serves) → thread_of x ≡ t
        → (turn : OwnTurn actor_posted ActorGoes script now.win32 slot t (actor_of its x) called reply given next new)
        → ServesClause script past now turn.process.number x
        → KeepsTurn actor_posted ActorGoes actor_thread (ActorClause script) script past now slot t turn.process.number
        called reply given next new
    by_serves its (serves.Main x) same turn h =
        piece-turn actor_posted ActorGoes actor_thread (ActorClause script) main_posted MainGoes main_thread
        (MainClause script) script keeps past now slot t (actor_of its (serves.Main x)) x called reply given next new
        sound spare same (main-piece script its keeps x) turn h
    by_serves its (serves.Starter x) same turn h =
        piece-turn actor_posted ActorGoes actor_thread (ActorClause script) starter_posted StarterGoes starter_thread
        StarterClause script (starter-keeps script registers) past now slot t (actor_of its (serves.Starter x)) x called
        reply given next new sound spare same (starter-piece script its registers x) turn h
    by_serves its (serves.Other thread x) same turn h =
        piece-turn actor_posted ActorGoes actor_thread (ActorClause script) resting_posted RestingGoes resting_thread
        RestingClause script (resting_keeps script) past now slot t (actor_of its (serves.Other thread x))
        (resting_of its thread x) called reply given next new sound spare same (other-piece script its thread x) turn h

  pub actor-keeps : KeepsClause {A = A} actor_posted ActorGoes actor_thread (ActorClause script) script
  actor-keeps = record {
    outlasts = λ step seen w p beside before after h. serves_outlasts step seen w p.serves beside before after h;
    turns = λ past now slot t p called reply given next new sound spare same turn h.
        by_serves past now slot t called reply given next new sound spare p.slot p.serves same turn h;
  }

above_zero : (slot : ℕ) → nat_eq slot 0 ≡ false → 1 ≤ slot
above_zero zero is = absurd (let never : true ≡ false = is in cc)
above_zero (suc slot) is = omega arith

-- At the opening each thread's clause holds.
module _ {A : Type 0} (script : Script) (now : Moment A) (opens : IsOpening script now.win32)
    (posix : now.posix ≡ opening_of script) where
  -- what serves a thread that was just made, by whether it is the host's, its starter, and a main thread
  opened_clause : (slot w : ℕ) → number_in now.win32 slot ≡ Some w → (thread : ℕ) (host one main : Bool)
      → nat_eq slot 0 ≡ host
      → ServesClause script [] now w (if host
      then (if one then serves.Starter starter.Opening else serves.Other thread idle.Opening)
      else (if main then serves.Main main_opened else serves.Other thread idle.Opening))
  opened_clause slot w number thread true true main host =
      starter-begins script now opens posix w
      (subst (λ k. number_in now.win32 k ≡ Some w) (eqb-true slot 0 host) number)
  opened_clause slot w number thread true false main host = tt
  opened_clause slot w number thread false one true host =
      let from = above_zero slot host in
      let main = opens-main script now.win32 opens slot w from number in
      (λ is. main.1, start-begins script now opens posix NoneMade slot w from number)
  opened_clause slot w number thread false one false host = tt

  pub actor-begins : (slot t w : ℕ) (p : Actor) → number_in now.win32 slot ≡ Some w
      → IsOpened actor_posted ActorGoes laws.IsOpened actor_slot actor_thread slot t p → ActorClause script [] now w p
  actor-begins slot t w p number opened =
      subst (ActorClause script [] now w) (sym opened.opened)
      (opened_clause p.slot w (ap (number_in now.win32) opened.its_slot ∙ number) (thread_of p.serves)
      (nat_eq p.slot 0) (nat_eq (thread_of p.serves) 1) (nat_eq (thread_of p.serves) 0) refl)

-- An actor gives all that it owes.
pub actor_owes : (script : Script) → IsValid script → is_built script ≡ true
    → OwesWorld {A = Actor} actor_posted ActorGoes laws.IsOpened actor_slot actor_thread (ActorClause script) script
actor_owes script valid built = record {
  keeps = actor-keeps script (registers-valid script valid) (main-keeps script valid built);
  begins = λ now opens posix slot t w part number opened.
      actor-begins script now opens posix slot t w part number opened;
  opens = λ step seen slot t w part dead number opened.
      absurd (none-comes script built (registers-valid script valid) step seen slot w number dead);
}
