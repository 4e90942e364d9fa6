-- Where a main thread goes by its table, its own image names the same program as before.
use Rattle.std.proofs.Common.{◌≡◌, ℕ, ◌+◌, ℤ, pos, if◌then◌else◌, nat_eq, nat_lt, length, Option, Some, None, refl}
use Rattle.std.proofs.lemmas.Bool.{cond_both, eqb-true}
use Rattle.w32_base.specs.declared.call.Reply.{Reply}
use Rattle.w32_base.specs.declared.event.Answer.{Answer}
use Rattle.w32_base.specs.declared.event.Answer.TheVariants.{Zero, Error}
use Rattle.w32_base.specs.declared.event.Errno.TheVariants as errno
use Rattle.w32_base.specs.declared.event.Event.{Event}
use Rattle.w32_base.specs.declared.event.Event.TheVariants as event
use Rattle.w32_base.specs.declared.event.Field.TheVariants as field
use Rattle.w32_base.specs.declared.instr.Instr.{Instr}
use Rattle.w32_base.specs.declared.instr.Instr.TheVariants as instr
use Rattle.w32_base.specs.declared.own.Own.{Own}
use Rattle.w32_base.specs.declared.setup.Setup.{Setup}
use Rattle.vm_spec.specs.Image.{image_of, with_image, with_result, place_of, program_of, value_of}
use Rattle.vm_spec.specs.Step.{Upcoming, LocalInstruction, CallInstruction, ImageFault, upcoming}
use Rattle.win32_spec.specs.LookupLaws.{and_true}
use Rattle.posix_spec.specs.GroupCalls.{killing_signal}
use Rattle.posix_spec.specs.KillSteps.{Target, One, Group, Invalid, target_of}
use Rattle.posix_spec.specs.Numbers.{error_result, answer_result}
use Rattle.layer_spec.specs.Decoding.{main_of, group_of}
use Rattle.layer_spec.specs.Rows.{MainWord, GroupWord}
use Rattle.layer_spec.specs.Words.{row_of}
use Rattle.roster.specs.declared.post.Posted.TheVariants as posted
use Rattle.roster.specs.declared.post.Post.{Post}
use Rattle.roster.specs.declared.post.Post.TheVariants as post
use Rattle.roster.specs.Orphaned.{is_process_number}
use Rattle.roster.specs.Post.{post_after}
use Rattle.roster.specs.Turns.{all_by_word}
use Rattle.roster.specs.Words.{is_live_word, is_process_word}
use Rattle.layer_turns.specs.OwnTurns.{OwnTurn, goes_to, can_take, answers}
use Rattle.kill_calls.specs.declared.one.KillStep.{KillStep}
use Rattle.kill_calls.specs.declared.one.KillStep.TheVariants as kill
use Rattle.kill_calls.specs.declared.one.KillOne.{KillOne}
use Rattle.kill_calls.specs.declared.start.KillStart.TheVariants as kill_start
use Rattle.kill_calls.specs.Kill.{kill_begun, kill_event, kill_answered, kill_checked, kill_waits, kill_ends}
use Rattle.kill_calls.specs.Kill.{kill_by_event, kill_step_after}
use Rattle.kill_calls.specs.KillStart.{has_row, as_signal, kill_by_target}
use Rattle.world_spec.specs.ProgramImages.{program-with_result}
use Rattle.layer_actor.specs.declared.doing.Doing.{Doing}
use Rattle.layer_actor.specs.declared.doing.Doing.TheVariants as doing
use Rattle.layer_actor.specs.declared.gets.Asked.{Asked}
use Rattle.layer_actor.specs.declared.gets.Asked.TheVariants as asked
use Rattle.layer_actor.specs.declared.gets.GetStep.{GetStep}
use Rattle.layer_actor.specs.declared.gets.GetStep.TheVariants as get
use Rattle.layer_actor.specs.declared.identity.Identity.{Identity}
use Rattle.layer_actor.specs.Doing.{rests, looks, begins_kill, begins_call, begins, code_in, is_free, look_by}
use Rattle.layer_actor.specs.Doing.{doing_after}
use Rattle.layer_actor.specs.Gets.{get_event, get_answers, get_grouped, get_looked, get_step_after}

-- after the turn the own image names the program that it named in these bytes
abbrev pub NamesSame : {P : Type 0} → Own → OwnTurn P → Type 0
NamesSame own t = program_of (image_of t.own) ≡ program_of (image_of own)

answers_same : {P : Type 0} → (rest next : P) (own : Own) (r0 : ℤ) (e : Event) → NamesSame own (answers rest next own r0
    e)
answers_same {P = P} rest next own r0 e =
    cond_both (can_take own)
    (record { part = next; own = with_image own (with_result (image_of own) r0 None); event = Some e })
    (goes_to rest own) (λ (t : OwnTurn P). NamesSame own t)
    (λ room. program-with_result (image_of own) r0
    (eqb-true (length own.dat) 64
    (and_true (nat_eq (length own.dat) 64) (nat_lt (place_of (image_of own)) 4294967295) room).0))
    (λ _. refl)

-- the look
target_same : (rows : ℕ) (who : Identity) (own : Own) (q s : ℤ) (signal : Option ℕ) (t : Target)
    → NamesSame own (begins_kill who own q s (kill_by_target rows (who.row + 1) signal t))
target_same rows who own q s None t =
    answers_same rests (looks who) own (error_result errno.EINVAL)
    (event.Kill (who.row + 1) q s (Error errno.EINVAL))
target_same rows who own q s (Some n) Invalid =
    answers_same rests (looks who) own (error_result errno.EINVAL)
    (event.Kill (who.row + 1) q s (Error errno.EINVAL))
target_same rows who own q s (Some n) Group = refl
target_same rows who own q s (Some n) (One target) =
    cond_both (has_row rows target) (kill_start.One (kill_begun (who.row + 1) (row_of target) (as_signal n)))
    (kill_start.Refused errno.ESRCH) (λ k. NamesSame own (begins_kill who own q s k)) (λ _. refl)
    (λ _. answers_same rests (looks who) own (error_result errno.ESRCH)
    (event.Kill (who.row + 1) q s (Error errno.ESRCH)))

call_same : (rows : ℕ) (who : Identity) (own : Own) (i : Instr) → NamesSame own (begins_call rows who own i)
call_same rows who own instr.GetPid =
    answers_same rests (looks who) own (pos (who.row + 1))
    (event.Get (who.row + 1) field.Pid (pos (who.row + 1)))
call_same rows who own (instr.Kill target signal) =
    target_same rows who own (value_of (image_of own) target) (value_of (image_of own) signal)
    (killing_signal (value_of (image_of own) signal)) (target_of (value_of (image_of own) target))
call_same rows who own i = refl

begins_same : (rows : ℕ) (who : Identity) (own : Own) (u : Upcoming) → NamesSame own (begins rows who own u)
begins_same rows who own LocalInstruction = refl
begins_same rows who own (CallInstruction i) = call_same rows who own i
begins_same rows who own ImageFault = refl

look_same : (setup : Setup) (who : Identity) (own : Own) (o : Option MainWord) → NamesSame own (look_by setup who own o)
look_same setup who own None = refl
look_same setup who own (Some m) =
    cond_both (is_free own m) (begins setup.limits.rows who own (upcoming (code_in setup own) (image_of own)))
    (goes_to rests own) (λ (t : OwnTurn Doing). NamesSame own t)
    (λ _. begins_same setup.limits.rows who own (upcoming (code_in setup own) (image_of own))) (λ _. refl)

-- a get
grouped_same : (row : ℕ) (a : Asked) (own : Own) (o : Option GroupWord) → NamesSame own (get_grouped row a own o)
grouped_same row a own None = refl
grouped_same row asked.Parent own (Some g) =
    cond_both (is_process_number g.parent) (goes_to (get.Parent (row_of g.parent)) own)
    (get_answers row asked.Parent own 1) (λ (t : OwnTurn GetStep). NamesSame own t) (λ _. refl)
    (λ _. answers_same get.Rest get.Done own (pos 1) (get_event row asked.Parent 1))
grouped_same row asked.Group own (Some g) =
    answers_same get.Rest get.Done own (pos g.group) (get_event row asked.Group g.group)
grouped_same row asked.Session own (Some g) =
    answers_same get.Rest get.Done own (pos g.session) (get_event row asked.Session g.session)

get_same : (row : ℕ) (a : Asked) (s : GetStep) (own : Own) (r : Reply) → NamesSame own (get_step_after row a s own r)
get_same row a get.Grouping own r =
    all_by_word (λ t r. NamesSame own t) (goes_to get.Rest own) (λ w. get_grouped row a own (group_of w)) (λ r. refl)
    (λ w. grouped_same row a own (group_of w)) r
get_same row a (get.Parent parent) own r =
    all_by_word (λ t r. NamesSame own t) (goes_to get.Rest own) (get_looked row parent a own) (λ r. refl)
    (λ w. answers_same get.Rest get.Done own (pos (if is_live_word w then parent + 1 else 1))
    (get_event row a (if is_live_word w then parent + 1 else 1))) r
get_same row a get.Done own r = refl
get_same row a get.Rest own r = refl

-- a kill
answered_same : (p : KillOne) (next : KillStep) (own : Own) (a : Answer) → NamesSame own (kill_answered p next own a)
answered_same p next own a =
    answers_same kill.Rest next own (answer_result a) (kill_event p.by p.target p.signal a)

waits_same : (p : KillOne) (own : Own) (x : Post) → NamesSame own (kill_waits p own x)
waits_same p own (post.Finished posted.Absent) = answered_same p kill.Done own (Error errno.ESRCH)
waits_same p own (post.Finished posted.Died) = answered_same p kill.Done own Zero
waits_same p own x = refl

by_event_same : (p : KillOne) (own : Own) (x : Post) (e : Option Event) → NamesSame own (kill_by_event p own x e)
by_event_same p own x None = waits_same p own x
by_event_same p own x (Some e) = answered_same p (kill_ends x) own Zero

kill_same : (p : KillOne) (s : KillStep) (own : Own) (r : Reply) → NamesSame own (kill_step_after p s own r)
kill_same p kill.Checking own r =
    all_by_word (λ t r. NamesSame own t) (goes_to kill.Rest own) (kill_checked p own) (λ r. refl)
    (λ w. answered_same p kill.Done own (if is_process_word w then Zero else Error errno.ESRCH)) r
kill_same p (kill.Posting x) own r = by_event_same p own (post_after x r).part (post_after x r).event
kill_same p (kill.Ending x) own r = refl
kill_same p kill.Done own r = refl
kill_same p kill.Rest own r = refl

-- Whatever a main thread does, its turn leaves the program that the own image names.
pub table-program : (setup : Setup) (who : Identity) (d : Doing) (own : Own) (r : Reply)
    → NamesSame own (doing_after setup who d own r)
table-program setup who (doing.Start x) own r = refl
table-program setup who (doing.Look x) own r =
    all_by_word (λ t r. NamesSame own t) (goes_to rests own) (λ w. look_by setup who own (main_of w)) (λ r. refl)
    (λ w. look_same setup who own (main_of w)) r
table-program setup who (doing.Local x) own r = refl
table-program setup who (doing.Gets x) own r = get_same x.row x.asked x.step own r
table-program setup who (doing.Kill x) own r = kill_same x x.step own r
table-program setup who (doing.Exit x) own r = refl
table-program setup who (doing.Idle x) own r = refl
