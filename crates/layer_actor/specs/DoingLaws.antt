-- A turn of a main thread is fair: it lowers the rank, unless it may keep it, and keeps the length of each region.
use Rattle.std.specs.Prelude.{◌≡◌, ℕ, ◌+◌, ◌<◌, ℤ, pos, true, false, Option, Some, None}
use Rattle.std.proofs.Common.{refl, sym, subst, arith}
use Rattle.std.proofs.lemmas.Bool.{cond_both}
use Rattle.w32_base.specs.declared.event.Answer.TheVariants.{Error}
use Rattle.w32_base.specs.declared.event.Event.TheVariants as event
use Rattle.w32_base.specs.declared.event.Field.TheVariants as field
use Rattle.w32_base.specs.declared.event.Errno.TheVariants as errno
use Rattle.w32_base.specs.declared.call.Reply.{Reply}
use Rattle.w32_base.specs.declared.call.Reply.TheVariants as reply
use Rattle.w32_base.specs.declared.instr.Instr.{Instr}
use Rattle.w32_base.specs.declared.instr.Instr.TheVariants as instr
use Rattle.w32_base.specs.declared.own.Own.{Own}
use Rattle.w32_base.specs.declared.setup.Setup.{Setup}
use Rattle.vm_spec.specs.Image.{image_of, value_of}
use Rattle.vm_spec.specs.Step.{Upcoming, LocalInstruction, CallInstruction, ImageFault, upcoming}
use Rattle.posix_spec.specs.GroupCalls.{killing_signal}
use Rattle.posix_spec.specs.KillSteps.{Target, One, Group, Invalid, target_of}
use Rattle.posix_spec.specs.Numbers.{error_result}
use Rattle.layer_spec.specs.Decoding.{main_of}
use Rattle.layer_spec.specs.Rows.{MainWord}
use Rattle.layer_spec.specs.Words.{row_of}
use Rattle.roster.specs.Turns.{all_by_word}
use Rattle.layer_turns.specs.OwnTurns.{OwnTurn, goes_to, IsFair}
use Rattle.layer_turns.specs.OwnTurnsLaws.{same_lengths, answers_fair}
use Rattle.kill_calls.specs.declared.one.KillStep.{KillStep}
use Rattle.kill_calls.specs.declared.one.KillStep.TheVariants as kill
use Rattle.kill_calls.specs.declared.one.KillOne.{KillOne}
use Rattle.kill_calls.specs.declared.start.KillStart.TheVariants as kill_start
use Rattle.kill_calls.specs.Kill.{kill_begun, kill_posted, kill_step_after, kill_rank_by}
use Rattle.kill_calls.specs.KillLaws.{kill_step_fair}
use Rattle.kill_calls.specs.KillStart.{has_row, as_signal, kill_by_target}
use Rattle.child_watch.specs.declared.exiting.ExitStep.{ExitStep}
use Rattle.child_watch.specs.declared.exiting.ExitStep.TheVariants as exit
use Rattle.child_watch.specs.Exiting.{exit_step_rank}
use Rattle.child_watch.specs.ExitingLaws.{exit_lowers}
use Rattle.layer_actor.specs.declared.identity.Identity.{Identity}
use Rattle.layer_actor.specs.declared.start.StartStep.{StartStep}
use Rattle.layer_actor.specs.declared.start.StartStep.TheVariants as start
use Rattle.layer_actor.specs.declared.start.Start.{Start}
use Rattle.layer_actor.specs.declared.look.Look.{Look}
use Rattle.layer_actor.specs.declared.local.Local.{Local}
use Rattle.layer_actor.specs.declared.local.Local.TheVariants as local
use Rattle.layer_actor.specs.declared.gets.GetStep.{GetStep}
use Rattle.layer_actor.specs.declared.gets.GetStep.TheVariants as get
use Rattle.layer_actor.specs.declared.gets.Gets.{Gets}
use Rattle.layer_actor.specs.declared.idle.Idle.TheVariants as idle
use Rattle.layer_actor.specs.declared.doing.Doing.{Doing}
use Rattle.layer_actor.specs.declared.doing.Doing.TheVariants as doing
use Rattle.layer_actor.specs.Start.{start_posted, start_step_after, start_rank_by}
use Rattle.layer_actor.specs.StartLaws.{start_step_lowers}
use Rattle.layer_actor.specs.Local.{local_posted, local_after, local_rank_by, local_lowers}
use Rattle.layer_actor.specs.Gets.{get_posted, get_step_after, get_rank_by}
use Rattle.layer_actor.specs.GetsLaws.{get_step_fair}
use Rattle.layer_actor.specs.Doing.{doing_posted, rests, looks, begins_kill, begins_call}
use Rattle.layer_actor.specs.Doing.{begins, code_in, is_free, look_by, start_goes, local_goes, get_goes}
use Rattle.layer_actor.specs.Doing.{kill_goes, doing_after, doing_rank}

-- what is asked of a turn of the look
abbrev FairLook : Look → Reply → Own → OwnTurn Doing → Type 0
FairLook x r own t = IsFair doing_rank (doing_posted (doing.Look x)) 400 r own t

falls : (x : Look) (next : Doing) (r : Reply) (own : Own) → doing_rank next < 400 → FairLook x r own (goes_to next own)
falls x next r own lower = record { lowers = λ _. lower; lengths = same_lengths own }

-- a kill that begins is short
first_rank : (p target : ℕ) (o : Option ℕ) → doing_rank (doing.Kill (kill_begun p target o)) < 400
first_rank p target None = omega arith
first_rank p target (Some signal) = omega arith

target_fair : (x : Look) (rows : ℕ) (who : Identity) (r : Reply) (own : Own) (q s : ℤ) (signal : Option ℕ) (t : Target)
    → FairLook x r own (begins_kill who own q s (kill_by_target rows (who.row + 1) signal t))
target_fair x rows who r own q s None t =
    answers_fair doing_rank (doing_posted (doing.Look x)) 400 r rests (looks who) own (error_result errno.EINVAL)
    (event.Kill (who.row + 1) q s (Error errno.EINVAL)) refl (omega arith)
target_fair x rows who r own q s (Some n) Invalid =
    answers_fair doing_rank (doing_posted (doing.Look x)) 400 r rests (looks who) own (error_result errno.EINVAL)
    (event.Kill (who.row + 1) q s (Error errno.EINVAL)) refl (omega arith)
target_fair x rows who r own q s (Some n) Group = falls x rests r own (omega arith)
target_fair x rows who r own q s (Some n) (One target) =
    cond_both (has_row rows target) (kill_start.One (kill_begun (who.row + 1) (row_of target) (as_signal n)))
    (kill_start.Refused errno.ESRCH) (λ k. FairLook x r own (begins_kill who own q s k))
    (λ _. falls x (doing.Kill (kill_begun (who.row + 1) (row_of target) (as_signal n))) r own
    (first_rank (who.row + 1) (row_of target) (as_signal n)))
    (λ _. answers_fair doing_rank (doing_posted (doing.Look x)) 400 r rests (looks who) own
    (error_result errno.ESRCH) (event.Kill (who.row + 1) q s (Error errno.ESRCH)) refl (omega arith))

call_fair : (x : Look) (rows : ℕ) (who : Identity) (r : Reply) (own : Own) (i : Instr)
    → FairLook x r own (begins_call rows who own i)
call_fair x rows who r own instr.GetPid =
    answers_fair doing_rank (doing_posted (doing.Look x)) 400 r rests (looks who) own (pos (who.row + 1))
    (event.Get (who.row + 1) field.Pid (pos (who.row + 1))) refl (omega arith)
call_fair x rows who r own (instr.Kill target signal) =
    target_fair x rows who r own (value_of (image_of own) target) (value_of (image_of own) signal)
    (killing_signal (value_of (image_of own) signal)) (target_of (value_of (image_of own) target))
call_fair x rows who r own i = falls x (begins_call rows who own i).part r own (omega arith)

begins_fair : (x : Look) (rows : ℕ) (who : Identity) (r : Reply) (own : Own) (u : Upcoming)
    → FairLook x r own (begins rows who own u)
begins_fair x rows who r own LocalInstruction = falls x (doing.Local (local.Running who.row)) r own (omega arith)
begins_fair x rows who r own (CallInstruction i) = call_fair x rows who r own i
begins_fair x rows who r own ImageFault = falls x (begins rows who own ImageFault).part r own (omega arith)

look_fair : (x : Look) (setup : Setup) (who : Identity) (r : Reply) (own : Own) (o : Option MainWord)
    → FairLook x r own (look_by setup who own o)
look_fair x setup who r own None = falls x rests r own (omega arith)
look_fair x setup who r own (Some m) =
    cond_both (is_free own m) (begins setup.limits.rows who own (upcoming (code_in setup own) (image_of own)))
    (goes_to rests own) (FairLook x r own)
    (λ _. begins_fair x setup.limits.rows who r own (upcoming (code_in setup own) (image_of own)))
    (λ _. falls x rests r own (omega arith))

-- A part that is done is followed by the look, and every other one goes on.
start_goes_rank : (who : Identity) (x : Start) (s : StartStep)
    → doing_rank (start_goes who (record x { step = s }) s) ≡ start_rank_by 400 s
start_goes_rank who x start.Done = refl
start_goes_rank who x start.Opening = refl
start_goes_rank who x start.MakingWake = refl
start_goes_rank who x start.MakingMutex = refl
start_goes_rank who x start.MakingPipe = refl
start_goes_rank who x start.MakingChange = refl
start_goes_rank who x start.OpeningItself = refl
start_goes_rank who x (start.ResumingSignals process) = refl
start_goes_rank who x (start.ResumingWatcher process) = refl
start_goes_rank who x (start.Closing process) = refl
start_goes_rank who x start.Rest = refl

local_goes_rank : (who : Identity) (x : Local) → doing_rank (local_goes who x) ≡ local_rank_by 400 x
local_goes_rank who local.Done = refl
local_goes_rank who (local.Running row) = refl
local_goes_rank who local.Rest = refl

get_goes_rank : (who : Identity) (x : Gets) (s : GetStep)
    → doing_rank (get_goes who (record x { step = s }) s) ≡ get_rank_by 400 s
get_goes_rank who x get.Done = refl
get_goes_rank who x get.Grouping = refl
get_goes_rank who x (get.Parent parent) = refl
get_goes_rank who x get.Rest = refl

kill_goes_rank : (who : Identity) (x : KillOne) (s : KillStep)
    → doing_rank (kill_goes who (record x { step = s }) s) ≡ kill_rank_by 400 s
kill_goes_rank who x kill.Done = refl
kill_goes_rank who x kill.Checking = refl
kill_goes_rank who x (kill.Posting y) = refl
kill_goes_rank who x (kill.Ending y) = refl
kill_goes_rank who x kill.Rest = refl

start_fair : (setup : Setup) (who : Identity) (x : Start) (r : Reply) (own : Own)
    → IsFair doing_rank (start_posted x) (start_rank_by 400 x.step) r own (doing_after setup who (doing.Start x) own r)
start_fair setup who x r own =
    record {
      lowers = λ keeps. subst (λ n. n < start_rank_by 400 x.step)
          (sym (start_goes_rank who x (start_step_after x.step own r)))
          (start_step_lowers 400 x.image x.step own r keeps);
      lengths = same_lengths own;
    }

local_fair : (setup : Setup) (who : Identity) (x : Local) (r : Reply) (own : Own)
    → IsFair doing_rank (local_posted x) (local_rank_by 400 x) r own (doing_after setup who (doing.Local x) own r)
local_fair setup who x r own =
    record {
      lowers = λ keeps. subst (λ n. n < local_rank_by 400 x) (sym (local_goes_rank who (local_after x r).part))
          (local_lowers 400 x r keeps);
      lengths = same_lengths own;
    }

gets_fair : (setup : Setup) (who : Identity) (x : Gets) (r : Reply) (own : Own)
    → IsFair doing_rank (get_posted x) (get_rank_by 400 x.step) r own (doing_after setup who (doing.Gets x) own r)
gets_fair setup who x r own =
    record {
      lowers = λ keeps. subst (λ n. n < get_rank_by 400 x.step)
          (sym (get_goes_rank who x (get_step_after x.row x.asked x.step own r).part))
          ((get_step_fair 400 x.row x.asked x.step r own).lowers keeps);
      lengths = (get_step_fair 400 x.row x.asked x.step r own).lengths;
    }

kills_fair : (setup : Setup) (who : Identity) (x : KillOne) (r : Reply) (own : Own)
    → IsFair doing_rank (kill_posted x) (kill_rank_by 400 x.step) r own (doing_after setup who (doing.Kill x) own r)
kills_fair setup who x r own =
    record {
      lowers = λ keeps. subst (λ n. n < kill_rank_by 400 x.step)
          (sym (kill_goes_rank who x (kill_step_after x x.step own r).part))
          ((kill_step_fair 400 x x.step r own).lowers keeps);
      lengths = (kill_step_fair 400 x x.step r own).lengths;
    }

-- each turn lowers the rank, unless a compare-exchange found another word, and keeps the length of each region
pub doing_fair : (setup : Setup) (who : Identity) (x : Doing) (r : Reply) (own : Own)
    → IsFair doing_rank (doing_posted x) (doing_rank x) r own (doing_after setup who x own r)
doing_fair setup who (doing.Start x) r own = start_fair setup who x r own
doing_fair setup who (doing.Look x) r own =
    all_by_word (λ t r. FairLook x r own t) (goes_to rests own) (λ w. look_by setup who own (main_of w))
    (λ r. falls x rests r own (omega arith)) (λ w. look_fair x setup who (reply.Word w) own (main_of w)) r
doing_fair setup who (doing.Local x) r own = local_fair setup who x r own
doing_fair setup who (doing.Gets x) r own = gets_fair setup who x r own
doing_fair setup who (doing.Kill x) r own = kills_fair setup who x r own
doing_fair setup who (doing.Exit x) r own =
    record { lowers = λ keeps. exit_lowers x own r keeps; lengths = same_lengths own }
doing_fair setup who (doing.Idle idle.Opening) r own =
    record { lowers = λ _. omega arith; lengths = same_lengths own }
doing_fair setup who (doing.Idle idle.Resting) r own =
    record { lowers = λ keeps. absurd (let never : true ≡ false = keeps in cc); lengths = same_lengths own }

start_goes_on : (s : StartStep) → 0 < start_rank_by 400 s
start_goes_on start.Opening = omega arith
start_goes_on start.MakingWake = omega arith
start_goes_on start.MakingMutex = omega arith
start_goes_on start.MakingPipe = omega arith
start_goes_on start.MakingChange = omega arith
start_goes_on start.OpeningItself = omega arith
start_goes_on (start.ResumingSignals process) = omega arith
start_goes_on (start.ResumingWatcher process) = omega arith
start_goes_on (start.Closing process) = omega arith
start_goes_on start.Done = omega arith
start_goes_on start.Rest = omega arith

get_goes_on : (s : GetStep) → 0 < get_rank_by 400 s
get_goes_on get.Grouping = omega arith
get_goes_on (get.Parent parent) = omega arith
get_goes_on get.Done = omega arith
get_goes_on get.Rest = omega arith

kill_goes_on : (s : KillStep) → 0 < kill_rank_by 400 s
kill_goes_on kill.Checking = omega arith
kill_goes_on (kill.Posting x) = omega arith
kill_goes_on (kill.Ending x) = omega arith
kill_goes_on kill.Done = omega arith
kill_goes_on kill.Rest = omega arith

exit_goes_on : (s : ExitStep) → 0 < exit_step_rank s
exit_goes_on (exit.Marking old) = omega arith
exit_goes_on exit.Looking = omega arith
exit_goes_on (exit.Sealing old new) = omega arith
exit_goes_on (exit.Holding x) = omega arith
exit_goes_on (exit.Child place x) = omega arith
exit_goes_on exit.Grouping = omega arith
exit_goes_on (exit.Parent parent) = omega arith
exit_goes_on (exit.Itself x) = omega arith
exit_goes_on (exit.Letting x) = omega arith
exit_goes_on exit.Leaving = omega arith
exit_goes_on exit.Rest = omega arith

-- a main thread is never done
pub doing_goes_on : (x : Doing) → 0 < doing_rank x
doing_goes_on (doing.Start x) = start_goes_on x.step
doing_goes_on (doing.Look x) = omega arith
doing_goes_on (doing.Local local.Done) = omega arith
doing_goes_on (doing.Local (local.Running row)) = omega arith
doing_goes_on (doing.Local local.Rest) = omega arith
doing_goes_on (doing.Gets x) = get_goes_on x.step
doing_goes_on (doing.Kill x) = kill_goes_on x.step
doing_goes_on (doing.Exit x) = exit_goes_on x.step
doing_goes_on (doing.Idle idle.Opening) = omega arith
doing_goes_on (doing.Idle idle.Resting) = omega arith
