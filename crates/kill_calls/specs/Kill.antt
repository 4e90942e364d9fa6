-- kill with one process as its target (POSIX.1-2017, XSH kill). With signal 0 the target's main word is looked at,
-- which answers. Else the signal is posted (`Post` of `roster`, whose steps are this part's), and the call is
-- answered in the turn in which the signal is posted, or in which the main word shows a zombie or no process. The
-- waking and what follows come after the answer.
use Rattle.std.specs.Prelude.{ℕ, ◌+◌, pos, if◌then◌else◌, Option, Some, None}
use Rattle.w32_base.specs.declared.call.Call.{Call}
use Rattle.w32_base.specs.declared.call.Call.TheVariants as call
use Rattle.w32_base.specs.declared.call.Reply.{Reply}
use Rattle.w32_base.specs.declared.event.Answer.{Answer}
use Rattle.w32_base.specs.declared.event.Answer.TheVariants.{Zero, Error}
use Rattle.w32_base.specs.declared.event.Errno.TheVariants.{ESRCH}
use Rattle.w32_base.specs.declared.event.Event.{Event}
use Rattle.w32_base.specs.declared.event.Event.TheVariants as event
use Rattle.w32_base.specs.declared.own.Own.{Own}
use Rattle.posix_spec.specs.Numbers.{answer_result}
use Rattle.layer_spec.specs.Rows.{main_place}
use Rattle.layer_spec.specs.Words.{row_of}
use Rattle.roster.specs.declared.wake.Poster.TheVariants as poster
use Rattle.roster.specs.declared.post_one.PostStep.TheVariants as step
use Rattle.roster.specs.declared.post.Posted.TheVariants as posted
use Rattle.roster.specs.declared.post.Post.{Post}
use Rattle.roster.specs.declared.post.Post.TheVariants as post
use Rattle.roster.specs.Turns.{Turn, section_handle, rest_call, by_word}
use Rattle.roster.specs.Words.{is_process_word}
use Rattle.roster.specs.Post.{post_posted, post_after, post_rank}
use Rattle.layer_turns.specs.OwnTurns.{OwnTurn, goes_to, answers}
use Rattle.kill_calls.specs.declared.one.KillStep.{KillStep}
use Rattle.kill_calls.specs.declared.one.KillStep.TheVariants as kill
use Rattle.kill_calls.specs.declared.one.KillOne.{KillOne}

-- the number of a signal, and 0 for a check only
abbrev pub signal_number : Option ℕ → ℕ
signal_number None = 0
signal_number (Some signal) = signal

-- process p's kill of the process with this row, with its answer
abbrev pub kill_event : (p target : ℕ) → Option ℕ → Answer → Event
kill_event p target signal answer = event.Kill p (pos (target + 1)) (pos (signal_number signal)) answer

-- its first step
abbrev pub kill_first : (p target : ℕ) → Option ℕ → KillStep
kill_first p target None = kill.Checking
kill_first p target (Some signal) =
    kill.Posting (post.Posting (record {
      row = target;
      signal = signal;
      event = kill_event p target (Some signal) Zero;
      by = poster.Main (row_of p);
      step = step.Looking;
    }))

abbrev pub kill_begun : (p target : ℕ) → Option ℕ → KillOne
kill_begun p target signal =
    record { by = p; target = target; signal = signal; step = kill_first p target signal }

-- the call that each step posts, where the target has this row
abbrev pub kill_step_posted : (target : ℕ) → KillStep → Call
kill_step_posted target kill.Checking = call.Load section_handle (main_place target)
kill_step_posted target (kill.Posting x) = post_posted x
kill_step_posted target (kill.Ending x) = post_posted x
kill_step_posted target kill.Done = rest_call
kill_step_posted target kill.Rest = rest_call

abbrev pub kill_posted : KillOne → Call
kill_posted p = kill_step_posted p.target p.step

-- the call has this answer, with its event, and the part goes to a step
abbrev pub kill_answered : KillOne → KillStep → Own → Answer → OwnTurn KillStep
kill_answered p next own answer =
    answers kill.Rest next own (answer_result answer) (kill_event p.by p.target p.signal answer)

-- with the target's main word, where the call is a check only
abbrev pub kill_checked : KillOne → Own → ℕ → OwnTurn KillStep
kill_checked p own w = kill_answered p kill.Done own (if is_process_word w then Zero else Error ESRCH)

-- the post goes on without its event: it has found no process, or a zombie, which gets nothing, or is under way
abbrev pub kill_waits : KillOne → Own → Post → OwnTurn KillStep
kill_waits p own (post.Finished posted.Absent) = kill_answered p kill.Done own (Error ESRCH)
kill_waits p own (post.Finished posted.Died) = kill_answered p kill.Done own Zero
kill_waits p own x = goes_to (kill.Posting x) own

-- after the answer the post goes on, or is over
abbrev pub kill_ends : Post → KillStep
kill_ends (post.Finished answer) = kill.Done
kill_ends x = kill.Ending x

-- with a turn of the post before the answer: where its event stands, the signal is posted, and the call is answered
abbrev pub kill_by_event : KillOne → Own → Post → Option Event → OwnTurn KillStep
kill_by_event p own x None = kill_waits p own x
kill_by_event p own x (Some e) = kill_answered p (kill_ends x) own Zero

abbrev pub kill_by_post : KillOne → Own → Turn Post → OwnTurn KillStep
kill_by_post p own t = kill_by_event p own t.part t.event

-- where each step goes with a reply over the own bytes
abbrev pub kill_step_after : KillOne → KillStep → Own → Reply → OwnTurn KillStep
kill_step_after p kill.Checking own r = by_word (goes_to kill.Rest own) (kill_checked p own) r
kill_step_after p (kill.Posting x) own r = kill_by_post p own (post_after x r)
kill_step_after p (kill.Ending x) own r =
    record { part = kill_ends (post_after x r).part; own = own; event = (post_after x r).event }
kill_step_after p kill.Done own r = goes_to kill.Done own
kill_step_after p kill.Rest own r = goes_to kill.Rest own

abbrev pub with_step : KillOne → OwnTurn KillStep → OwnTurn KillOne
with_step p t = record { part = record p { step = t.part }; own = t.own; event = t.event }

abbrev pub kill_after : KillOne → Own → Reply → OwnTurn KillOne
kill_after p own r = with_step p (kill_step_after p p.step own r)

-- how many turns are left at most, but for another word found by a compare-exchange, where so many follow the kill
abbrev pub kill_rank_by : (behind : ℕ) → KillStep → ℕ
kill_rank_by behind kill.Checking = 2
kill_rank_by behind (kill.Posting x) = post_rank x + 2
kill_rank_by behind (kill.Ending x) = post_rank x + 1 + behind
kill_rank_by behind kill.Done = behind
kill_rank_by behind kill.Rest = 1

abbrev pub kill_rank : KillOne → ℕ
kill_rank p = kill_rank_by 0 p.step
