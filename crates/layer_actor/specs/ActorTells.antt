-- Where the clause of a thread's part holds, its event is told as the part gives it: none is a death by the world.
use Rattle.std.proofs.Common.{◌≡◌, ℕ, ◌+◌, ℤ, pos, true, nat_eq, if◌then◌else◌, List, Option, Some, None, refl, ap, ◌∙◌}
use Rattle.std.proofs.lemmas.Bool.{cond_both}
use Rattle.w32_base.specs.declared.call.Reply.{Reply}
use Rattle.w32_base.specs.declared.call.Reply.TheVariants as reply
use Rattle.w32_base.specs.declared.event.Answer.{Answer}
use Rattle.w32_base.specs.declared.event.Answer.TheVariants.{Zero, Error}
use Rattle.w32_base.specs.declared.event.Errno.TheVariants.{ESRCH}
use Rattle.w32_base.specs.declared.event.Event.{Event}
use Rattle.w32_base.specs.declared.event.Event.TheVariants as event
use Rattle.w32_base.specs.declared.event.Field.TheVariants as field
use Rattle.w32_base.specs.declared.instr.Instr.{Instr}
use Rattle.w32_base.specs.declared.instr.Instr.TheVariants as instr
use Rattle.w32_base.specs.declared.own.Own.{Own}
use Rattle.w32_base.specs.declared.part.After.{After}
use Rattle.w32_base.specs.declared.setup.Setup.{Setup}
use Rattle.script_spec.specs.declared.script.Script.{Script}
use Rattle.vm_spec.specs.Image.{image_of, value_of}
use Rattle.vm_spec.specs.Step.{Upcoming, LocalInstruction, CallInstruction, ImageFault, upcoming}
use Rattle.posix_spec.specs.Numbers.{error_result, answer_result}
use Rattle.layer_spec.specs.Decoding.{main_of, group_of}
use Rattle.layer_spec.specs.Moment.{Moment, Seen}
use Rattle.layer_spec.specs.Rows.{MainWord, GroupWord}
use Rattle.roster.specs.Orphaned.{is_process_number}
use Rattle.roster.specs.Words.{is_live_word, is_process_word}
use Rattle.roster.specs.Turns.{Turn, quietly, all_by_word}
use Rattle.layer_turns.specs.OwnTurns.{OwnTurn, goes_to, can_take, answers}
use Rattle.kill_calls.specs.declared.one.KillStep.{KillStep}
use Rattle.kill_calls.specs.declared.one.KillStep.TheVariants as kill
use Rattle.kill_calls.specs.declared.one.KillOne.{KillOne}
use Rattle.kill_calls.specs.declared.start.KillStart.{KillStart}
use Rattle.kill_calls.specs.declared.start.KillStart.TheVariants as kill_start
use Rattle.kill_calls.specs.Kill.{kill_event, kill_answered, kill_checked, kill_step_after}
use Rattle.kill_calls.specs.KillClause.{KillStepClause}
use Rattle.kill_calls.specs.KillStart.{kill_starts}
use Rattle.child_watch.specs.declared.collect.Gather.{Gather}
use Rattle.child_watch.specs.declared.collect.Gather.TheVariants as gather
use Rattle.child_watch.specs.declared.ending.Ending.{Ending}
use Rattle.child_watch.specs.declared.ending.Ending.TheVariants as ending
use Rattle.child_watch.specs.declared.exiting.ExitStep.{ExitStep}
use Rattle.child_watch.specs.declared.exiting.ExitStep.TheVariants as exit
use Rattle.child_watch.specs.Collect.{gather_tried, gather_looked, gather_after}
use Rattle.child_watch.specs.Ending.{death_of}
use Rattle.child_watch.specs.Exiting.{exit_marked, exit_looked, exit_sealed, exit_grouped, exit_parent, exit_step_after}
use Rattle.job_control.specs.declared.starter.Starter.{Starter}
use Rattle.job_control.specs.declared.starter.Starter.TheVariants as starter
use Rattle.job_control.specs.Starter.{starter_after}
use Rattle.world_spec.specs.Told.{is_whole_death, is_whole_event, is_told_whole}
use Rattle.layer_actor.specs.declared.actor.Actor.{Actor}
use Rattle.layer_actor.specs.declared.actor.Serves.{Serves}
use Rattle.layer_actor.specs.declared.actor.Serves.TheVariants as serves
use Rattle.layer_actor.specs.declared.doing.Doing.{Doing}
use Rattle.layer_actor.specs.declared.doing.Doing.TheVariants as doing
use Rattle.layer_actor.specs.declared.gets.Asked.{Asked}
use Rattle.layer_actor.specs.declared.gets.Asked.TheVariants as asked
use Rattle.layer_actor.specs.declared.gets.GetStep.{GetStep}
use Rattle.layer_actor.specs.declared.gets.GetStep.TheVariants as get
use Rattle.layer_actor.specs.declared.identity.Identity.{Identity}
use Rattle.layer_actor.specs.declared.local.Local.{Local}
use Rattle.layer_actor.specs.declared.local.Local.TheVariants as local
use Rattle.layer_actor.specs.Actor.{serves_after}
use Rattle.layer_actor.specs.ActorClause.{ActorGoes, ServesClause, ActorClause}
use Rattle.layer_actor.specs.Doing.{rests, looks, is_free, code_in, begins_kill, begins_call, begins, look_by}
use Rattle.layer_actor.specs.Doing.{doing_after}
use Rattle.layer_actor.specs.Gets.{get_event, get_answers, get_grouped, get_looked, get_step_after}
use Rattle.layer_actor.specs.Local.{local_after}
use Rattle.layer_actor.specs.MainClause.{PieceClause}

abbrev IsTold : {P : Type 0} → OwnTurn P → Type 0
IsTold t = is_told_whole t.event ≡ true

abbrev IsToldQuietly : {P : Type 0} → Turn P → Type 0
IsToldQuietly t = is_told_whole t.event ≡ true

-- a call that is answered, with an event that isn't such a death
answers_tell : {P : Type 0} → (rest next : P) (own : Own) (r0 : ℤ) (e : Event) → is_whole_event e ≡ true
    → IsTold (answers rest next own r0 e)
answers_tell rest next own r0 e whole =
    cond_both (can_take own) _ (goes_to rest own) IsTold (λ takes. whole) (λ not. refl)

kill_begins_tells : (who : Identity) (own : Own) (target signal : ℤ) (k : KillStart)
    → IsTold (begins_kill who own target signal k)
kill_begins_tells who own target signal (kill_start.Refused e) =
    answers_tell rests (looks who) own (error_result e) (event.Kill (who.row + 1) target signal (Error e)) refl
kill_begins_tells who own target signal (kill_start.One x) = refl
kill_begins_tells who own target signal kill_start.Group = refl

call_tells : (rows : ℕ) (who : Identity) (own : Own) (i : Instr) → IsTold (begins_call rows who own i)
call_tells rows who own instr.GetPid =
    answers_tell rests (looks who) own (pos (who.row + 1))
    (event.Get (who.row + 1) field.Pid (pos (who.row + 1))) refl
call_tells rows who own (instr.Kill target signal) =
    kill_begins_tells who own (value_of (image_of own) target) (value_of (image_of own) signal)
    (kill_starts rows (who.row + 1) (value_of (image_of own) target) (value_of (image_of own) signal))
call_tells rows who own i = refl

next_tells : (rows : ℕ) (who : Identity) (own : Own) (u : Upcoming) → IsTold (begins rows who own u)
next_tells rows who own LocalInstruction = refl
next_tells rows who own (CallInstruction i) = call_tells rows who own i
next_tells rows who own ImageFault = refl

look_tells : (setup : Setup) (who : Identity) (own : Own) (o : Option MainWord) → IsTold (look_by setup who own o)
look_tells setup who own None = refl
look_tells setup who own (Some m) =
    cond_both (is_free own m) _ (goes_to rests own) IsTold
    (λ free. next_tells setup.limits.rows who own (upcoming (code_in setup own) (image_of own))) (λ not. refl)

local_tells : (x : Local) (r : Reply) → IsToldQuietly (local_after x r)
local_tells (local.Running row) (reply.Ran n) = refl
local_tells (local.Running row) r = refl
local_tells local.Done r = refl
local_tells local.Rest r = refl

asked_tells : (row : ℕ) (a : Asked) (own : Own) (value : ℕ) → IsTold (get_answers row a own value)
asked_tells row a own value = answers_tell get.Rest get.Done own (pos value) (get_event row a value) refl

grouped_tells : (row : ℕ) (a : Asked) (own : Own) (o : Option GroupWord) → IsTold (get_grouped row a own o)
grouped_tells row a own None = refl
grouped_tells row asked.Parent own (Some g) =
    cond_both (is_process_number g.parent) _ (get_answers row asked.Parent own 1) IsTold (λ is. refl)
    (λ not. asked_tells row asked.Parent own 1)
grouped_tells row asked.Group own (Some g) = asked_tells row asked.Group own g.group
grouped_tells row asked.Session own (Some g) = asked_tells row asked.Session own g.session

get_tells : (row : ℕ) (a : Asked) (s : GetStep) (own : Own) (r : Reply) → IsTold (get_step_after row a s own r)
get_tells row a get.Grouping own r =
    all_by_word (λ t r. IsTold t) (goes_to get.Rest own) (λ w. get_grouped row a own (group_of w)) (λ r. refl)
    (λ w. grouped_tells row a own (group_of w)) r
get_tells row a (get.Parent parent) own r =
    all_by_word (λ t r. IsTold t) (goes_to get.Rest own) (get_looked row parent a own) (λ r. refl)
    (λ w. asked_tells row a own (if is_live_word w then parent + 1 else 1)) r
get_tells row a get.Done own r = refl
get_tells row a get.Rest own r = refl

checked_tells : (p : KillOne) (own : Own) (answer : Answer) → IsTold (kill_answered p kill.Done own answer)
checked_tells p own answer =
    answers_tell kill.Rest kill.Done own (answer_result answer) (kill_event p.by p.target p.signal answer) refl

-- a kill with a signal isn't built
kill_tells : {A : Type 0} → (script : Script) (now : Moment A) (w : ℕ) (p : KillOne) (s : KillStep) (own : Own)
    (r : Reply) → KillStepClause script now w p s → IsTold (kill_step_after p s own r)
kill_tells script now w p kill.Checking own r h =
    all_by_word (λ t r. IsTold t) (goes_to kill.Rest own) (kill_checked p own) (λ r. refl)
    (λ w. checked_tells p own (if is_process_word w then Zero else Error ESRCH)) r
kill_tells script now w p (kill.Posting x) own r h = absurd h
kill_tells script now w p (kill.Ending x) own r h = absurd h
kill_tells script now w p kill.Done own r h = refl
kill_tells script now w p kill.Rest own r h = refl

death_tells : (e : Ending) → is_whole_death (death_of e) ≡ true
death_tells (ending.Exit code) = refl
death_tells (ending.Signal signal) = refl
death_tells ending.Fault = refl

gather_tells : (x : Gather) (r : Reply) → IsToldQuietly (gather_after x r)
gather_tells (gather.Looking row) r =
    all_by_word (λ t r. IsToldQuietly t) (quietly gather.Rest) (λ w. quietly (gather_looked row w)) (λ r. refl)
    (λ w. refl) r
gather_tells (gather.Trying row old new) r =
    all_by_word (λ t r. IsToldQuietly t) (quietly gather.Rest) (gather_tried row old) (λ r. refl)
    (λ w. cond_both (nat_eq w old) _ (quietly (gather_looked row w)) IsToldQuietly (λ is. refl) (λ not. refl)) r
gather_tells gather.Done r = refl
gather_tells gather.Rest r = refl

exit_tells : (row : ℕ) (e : Ending) (s : ExitStep) (own : Own) (r : Reply)
    → IsToldQuietly (exit_step_after row e s own r)
exit_tells row e (exit.Marking old) own r =
    all_by_word (λ t r. IsToldQuietly t) (quietly exit.Rest) (λ w. quietly (exit_marked old w)) (λ r. refl)
    (λ w. refl) r
exit_tells row e exit.Looking own r =
    all_by_word (λ t r. IsToldQuietly t) (quietly exit.Rest) (λ w. quietly (exit_looked e w)) (λ r. refl) (λ w. refl) r
exit_tells row e (exit.Sealing old new) own r =
    all_by_word (λ t r. IsToldQuietly t) (quietly exit.Rest) (exit_sealed row e old) (λ r. refl)
    (λ w. cond_both (nat_eq w old) _ (quietly (exit_looked e w)) IsToldQuietly (λ is. death_tells e) (λ not. refl)) r
exit_tells row e (exit.Holding x) own r = refl
exit_tells row e (exit.Child place x) own r = gather_tells x r
exit_tells row e exit.Grouping own r =
    all_by_word (λ t r. IsToldQuietly t) (quietly exit.Rest) (λ w. quietly (exit_grouped row (group_of w))) (λ r. refl)
    (λ w. refl) r
exit_tells row e (exit.Parent parent) own r =
    all_by_word (λ t r. IsToldQuietly t) (quietly exit.Rest) (λ w. quietly (exit_parent row w)) (λ r. refl)
    (λ w. refl) r
exit_tells row e (exit.Itself x) own r = gather_tells x r
exit_tells row e (exit.Letting x) own r = refl
exit_tells row e exit.Leaving own r = refl
exit_tells row e exit.Rest own r = refl

starter_tells : (x : Starter) (r : Reply) → IsToldQuietly (starter_after x r)
starter_tells starter.Opening r =
    all_by_word (λ t r. IsToldQuietly t) (quietly starter.Rest) (λ w. quietly starter.Waiting) (λ r. refl) (λ w. refl) r
starter_tells starter.Waiting r = refl
starter_tells starter.Asking (reply.Code n) = refl
starter_tells starter.Asking r = refl
starter_tells starter.Over r = refl
starter_tells starter.Rest r = refl

module _ {A : Type 0} (script : Script) (past : List (Seen A)) (now : Moment A) (w : ℕ) (own : Own) (r : Reply) where
  doing_tells : (who : Identity) (d : Doing) → PieceClause script who past now w d
      → IsTold (doing_after script.setup who d own r)
  doing_tells who (doing.Start x) h = refl
  doing_tells who (doing.Look x) h =
      all_by_word (λ t r. IsTold t) (goes_to rests own) (λ k. look_by script.setup who own (main_of k)) (λ r. refl)
      (λ k. look_tells script.setup who own (main_of k)) r
  doing_tells who (doing.Local x) h = local_tells x r
  doing_tells who (doing.Gets x) h = get_tells x.row x.asked x.step own r
  doing_tells who (doing.Kill x) h = kill_tells script now w x x.step own r h.1
  doing_tells who (doing.Exit x) h = exit_tells x.row x.ending x.step own r
  doing_tells who (doing.Idle x) h = refl

  serves_tell : (x : Serves) → ServesClause script past now w x → IsTold (serves_after script.setup x own r)
  serves_tell (serves.Main x) h = doing_tells x.who x.doing h.1
  serves_tell (serves.Starter x) h = starter_tells x r
  serves_tell (serves.Other thread x) h = refl

-- Where its clause holds, an actor gives no death by the world.
pub actor_tells : {A : Type 0} → (script : Script) (past : List (Seen A)) (now : Moment A) (w : ℕ) (p : Actor)
    → ActorClause script past now w p → (q : Actor) (o n : Own) (r : Reply) (a : After)
    → ActorGoes p o script.setup r q n a → is_told_whole a.event ≡ true
actor_tells script past now w p h q o n r a went =
    ap is_told_whole went.event ∙ serves_tell script past now w o r p.serves h
