-- The clause of the part of a thread for its whole life: that of the main thread or of the host's starter. A thread
-- whose part isn't built knows nothing, and needs to know nothing.
use Rattle.std.proofs.Common.{◌≡◌, ℕ, Bool, true, false, List, refl, sym, subst}
use Rattle.w32_base.specs.declared.call.Reply.{Reply}
use Rattle.w32_base.specs.declared.own.Own.{Own}
use Rattle.w32_base.specs.declared.part.After.{After}
use Rattle.w32_base.specs.declared.setup.Setup.{Setup}
use Rattle.script_spec.specs.declared.script.Script.{Script}
use Rattle.layer_spec.specs.Moment.{Moment, Seen}
use Rattle.layer_turns.specs.OwnTurns.{WentOn}
use Rattle.job_control.specs.declared.starter.Starter.{Starter}
use Rattle.job_control.specs.Starter.{starter_posted, starter_after}
use Rattle.job_control.specs.StarterClause.{StarterClause}
use Rattle.job_control.specs.StarterKeeps.{starter-keeps}
use Rattle.job_control.specs.StarterTurns.{StarterGoes, starter_thread}
use Rattle.win32_spec.specs.MemoryEffects.{HaveRegisters}
use Rattle.world_spec.specs.Owes.{KeepsClause}
use Rattle.world_spec.specs.PieceLaws.{RunsPiece}
use Rattle.world_spec.specs.Resting.{Resting, resting_posted, RestingGoes, RestingClause}
use Rattle.world_spec.specs.RestingLaws.{resting_keeps}
use Rattle.world_spec.specs.RestingWorld.{resting_thread}
use Rattle.layer_actor.specs.declared.actor.Actor.{Actor}
use Rattle.layer_actor.specs.declared.actor.MainThread.{MainThread}
use Rattle.layer_actor.specs.declared.actor.Serves.{Serves}
use Rattle.layer_actor.specs.declared.actor.Serves.TheVariants as serves
use Rattle.layer_actor.specs.declared.idle.Idle.{Idle}
use Rattle.layer_actor.specs.declared.idle.Idle.TheVariants as idle
use Rattle.layer_actor.specs.Actor.{thread_of, actor_posted, actor_after}
use Rattle.layer_actor.specs.Doing.{doing_after}
use Rattle.layer_actor.specs.MainClause.{MainClause}
use Rattle.layer_actor.specs.MainGoes.{main_posted, main_thread, does, MainGoes}

-- where an actor goes: by its table
abbrev pub ActorGoes : Actor → Own → Setup → Reply → Actor → Own → After → Type 0
ActorGoes p old setup reply q new answer = WentOn (actor_after setup p old reply) q new answer

abbrev pub actor_slot : Actor → ℕ
actor_slot p = p.slot

abbrev pub actor_thread : Actor → ℕ
actor_thread p = thread_of p.serves

abbrev pub ServesClause : {A : Type 0} → Script → List (Seen A) → Moment A → ℕ → Serves → Type 0
ServesClause script past now w (serves.Main x) = MainClause script past now w x
ServesClause script past now w (serves.Starter x) = StarterClause past now w x
ServesClause script past now w (serves.Other thread x) = Unit {0}

abbrev pub ActorClause : {A : Type 0} → Script → List (Seen A) → Moment A → ℕ → Actor → Type 0
ActorClause script past now w p = ServesClause script past now w p.serves

-- the actor of a slot's thread
abbrev pub actor_of : ℕ → Serves → Actor
actor_of slot s = record { slot = slot; serves = s }

-- a thread whose part isn't built, as one that rests
abbrev pub has_looked : Idle → Bool
has_looked idle.Opening = false
has_looked idle.Resting = true

abbrev pub resting_of : (slot thread : ℕ) → Idle → Resting
resting_of slot thread x = record { slot = slot; thread = thread; rests = has_looked x }

module _ {A : Type 0} (script : Script) (slot : ℕ) where
  -- A main thread.
  pub main-piece : (keeps : KeepsClause {A = A} main_posted MainGoes main_thread (MainClause script) script)
      (x : MainThread)
      → RunsPiece actor_posted ActorGoes actor_thread (ActorClause script) main_posted MainGoes main_thread
      (MainClause script) script keeps (actor_of slot (serves.Main x)) x
  main-piece keeps x = record {
    posted = refl;
    thread = refl;
    clause_of = λ past now w h. h;
    goes_on = λ old setup reply y new answer went. (
      does x.who (doing_after setup x.who x.doing old reply).part,
      answer,
      record { part = refl; own = went.own; event = went.event },
      refl,
      λ past now w h. subst (ActorClause script past now w) (sym went.part) h,
    );
  }

  -- The host's starter.
  pub starter-piece : (registers : HaveRegisters script) (x : Starter)
      → RunsPiece actor_posted ActorGoes actor_thread (ActorClause {A = A} script) starter_posted StarterGoes
      starter_thread StarterClause script (starter-keeps script registers) (actor_of slot (serves.Starter x)) x
  starter-piece registers x = record {
    posted = refl;
    thread = refl;
    clause_of = λ past now w h. h;
    goes_on = λ old setup reply y new answer went. (
      (starter_after x reply).part,
      answer,
      record { part = refl; own = went.own; event = went.event },
      refl,
      λ past now w h. subst (ActorClause script past now w) (sym went.part) h,
    );
  }

  -- A thread whose part isn't built.
  pub other-piece : (thread : ℕ) (x : Idle)
      → RunsPiece actor_posted ActorGoes actor_thread (ActorClause {A = A} script) resting_posted RestingGoes
      resting_thread RestingClause script (resting_keeps script) (actor_of slot (serves.Other thread x))
      (resting_of slot thread x)
  other-piece thread x = record {
    posted = its_call x;
    thread = refl;
    clause_of = λ past now w h. tt;
    goes_on = λ old setup reply y new answer went. (
      resting_of slot thread idle.Resting,
      answer,
      record { part = refl; own = went.own; event = went.event },
      refl,
      λ past now w h. subst (ActorClause script past now w) (sym went.part) tt,
    );
  }
    where
      its_call : (y : Idle) → actor_posted (actor_of slot (serves.Other thread y))
          ≡ resting_posted (resting_of slot thread y)
      its_call idle.Opening = refl
      its_call idle.Resting = refl
