-- The part of a thread for its whole life, as the sum of the threads' parts: the main thread of a layer process, the
-- host's starter, and each other thread, whose part isn't built yet.
use Rattle.std.specs.Prelude.{ℕ, nat_eq, if◌then◌else◌}
use Rattle.w32_base.specs.declared.call.Call.{Call}
use Rattle.w32_base.specs.declared.call.Reply.{Reply}
use Rattle.w32_base.specs.declared.own.Own.{Own}
use Rattle.w32_base.specs.declared.setup.Setup.{Setup}
use Rattle.layer_turns.specs.OwnTurns.{OwnTurn, goes_to}
use Rattle.job_control.specs.declared.starter.Starter.TheVariants as starter
use Rattle.job_control.specs.Starter.{starter_posted, starter_after, starter_rank}
use Rattle.layer_actor.specs.declared.identity.Identity.{Identity}
use Rattle.layer_actor.specs.declared.start.StartStep.TheVariants as start
use Rattle.layer_actor.specs.declared.idle.Idle.TheVariants as idle
use Rattle.layer_actor.specs.declared.doing.Doing.{Doing}
use Rattle.layer_actor.specs.declared.doing.Doing.TheVariants as doing
use Rattle.layer_actor.specs.declared.actor.MainThread.{MainThread}
use Rattle.layer_actor.specs.declared.actor.Serves.{Serves}
use Rattle.layer_actor.specs.declared.actor.Serves.TheVariants as serves
use Rattle.layer_actor.specs.declared.actor.Actor.{Actor}
use Rattle.layer_actor.specs.Idle.{idle_posted, idle_rank}
use Rattle.layer_actor.specs.Doing.{doing_posted, doing_after, doing_rank}

-- the first process has row 1, and its image the Win32 number 2
abbrev pub first_identity : Identity
first_identity = record { row = 1; image = 2 }

abbrev pub main_opened : MainThread
main_opened =
    record { who = first_identity; doing = doing.Start (record { image = 2; step = start.Opening }) }

-- what serves a thread that was just made: slot 0 is the host's, and thread 0 is the main one
abbrev pub serves_opened : (slot thread : ℕ) → Serves
serves_opened slot thread =
    if nat_eq slot 0
    then (if nat_eq thread 1 then serves.Starter starter.Opening else serves.Other thread idle.Opening)
    else (if nat_eq thread 0 then serves.Main main_opened else serves.Other thread idle.Opening)

abbrev pub actor_opened : (slot thread : ℕ) → Actor
actor_opened slot thread = record { slot = slot; serves = serves_opened slot thread }

-- the thread that is served
abbrev pub thread_of : Serves → ℕ
thread_of (serves.Main x) = 0
thread_of (serves.Starter x) = 1
thread_of (serves.Other thread x) = thread

-- the call that each part posts
abbrev pub serves_posted : Serves → Call
serves_posted (serves.Main x) = doing_posted x.doing
serves_posted (serves.Starter x) = starter_posted x
serves_posted (serves.Other thread x) = idle_posted x

abbrev pub actor_posted : Actor → Call
actor_posted p = serves_posted p.serves

-- where each part goes with a reply over the own bytes
abbrev pub with_doing : MainThread → OwnTurn Doing → OwnTurn Serves
with_doing x t = record { part = serves.Main (record x { doing = t.part }); own = t.own; event = t.event }

abbrev pub serves_after : Setup → Serves → Own → Reply → OwnTurn Serves
serves_after setup (serves.Main x) own r = with_doing x (doing_after setup x.who x.doing own r)
serves_after setup (serves.Starter x) own r =
    record { part = serves.Starter (starter_after x r).part; own = own; event = (starter_after x r).event }
serves_after setup (serves.Other thread x) own r = goes_to (serves.Other thread idle.Resting) own

abbrev pub with_serves : Actor → OwnTurn Serves → OwnTurn Actor
with_serves p t = record { part = record p { serves = t.part }; own = t.own; event = t.event }

abbrev pub actor_after : Setup → Actor → Own → Reply → OwnTurn Actor
actor_after setup p own r = with_serves p (serves_after setup p.serves own r)

-- how many turns are left at most before an event other than `look`, a wait or another word found by a compare-exchange
abbrev pub serves_rank : Serves → ℕ
serves_rank (serves.Main x) = doing_rank x.doing
serves_rank (serves.Starter x) = starter_rank x
serves_rank (serves.Other thread x) = idle_rank x

abbrev pub actor_rank : Actor → ℕ
actor_rank p = serves_rank p.serves
