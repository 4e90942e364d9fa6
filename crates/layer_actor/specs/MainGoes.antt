-- The main thread of a layer process as a part: where it goes by the table of what it does.
use Rattle.std.specs.Prelude.{ℕ}
use Rattle.w32_base.specs.declared.call.Call.{Call}
use Rattle.w32_base.specs.declared.call.Reply.{Reply}
use Rattle.w32_base.specs.declared.own.Own.{Own}
use Rattle.w32_base.specs.declared.part.After.{After}
use Rattle.w32_base.specs.declared.setup.Setup.{Setup}
use Rattle.layer_turns.specs.OwnTurns.{OwnTurn, WentOn}
use Rattle.layer_actor.specs.declared.identity.Identity.{Identity}
use Rattle.layer_actor.specs.declared.doing.Doing.{Doing}
use Rattle.layer_actor.specs.declared.actor.MainThread.{MainThread}
use Rattle.layer_actor.specs.Doing.{doing_posted, doing_after}

abbrev pub main_posted : MainThread → Call
main_posted x = doing_posted x.doing

abbrev pub main_thread : MainThread → ℕ
main_thread x = 0

-- the main thread of this process does this
abbrev pub does : Identity → Doing → MainThread
does who d = record { who = who; doing = d }

abbrev pub of_main : Identity → OwnTurn Doing → OwnTurn MainThread
of_main who t = record { part = does who t.part; own = t.own; event = t.event }

abbrev pub main_after : Setup → MainThread → Own → Reply → OwnTurn MainThread
main_after setup x own r = of_main x.who (doing_after setup x.who x.doing own r)

abbrev pub MainGoes : MainThread → Own → Setup → Reply → MainThread → Own → After → Type 0
MainGoes x old setup reply y new answer = WentOn (main_after setup x old reply) y new answer
