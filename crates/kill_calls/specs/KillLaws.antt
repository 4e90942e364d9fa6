-- A kill of one process comes to its end.
use Rattle.std.specs.Prelude.{◌≡◌, ℕ, ◌+◌, ◌<◌, ◌≤◌, true, false, if◌then◌else◌, Option, Some, None}
use Rattle.std.proofs.Common.{refl, arith}
use Rattle.w32_base.specs.declared.call.Reply.{Reply}
use Rattle.w32_base.specs.declared.call.Reply.TheVariants as reply
use Rattle.w32_base.specs.declared.event.Answer.{Answer}
use Rattle.w32_base.specs.declared.event.Answer.TheVariants.{Zero, Error}
use Rattle.w32_base.specs.declared.event.Errno.TheVariants.{ESRCH}
use Rattle.w32_base.specs.declared.event.Event.{Event}
use Rattle.w32_base.specs.declared.own.Own.{Own}
use Rattle.w32_base.specs.Part.{may_keep_rank}
use Rattle.posix_spec.specs.Numbers.{answer_result}
use Rattle.roster.specs.declared.post.Posted.TheVariants as posted
use Rattle.roster.specs.declared.post.Post.{Post}
use Rattle.roster.specs.declared.post.Post.TheVariants as post
use Rattle.roster.specs.Turns.{all_by_word}
use Rattle.roster.specs.Words.{is_process_word}
use Rattle.roster.specs.Post.{post_posted, post_after, post_rank}
use Rattle.roster.specs.PostLaws.{post_lowers}
use Rattle.layer_turns.specs.OwnTurns.{OwnTurn, goes_to, IsFair}
use Rattle.layer_turns.specs.OwnTurnsLaws.{same_lengths, answers_fair}
use Rattle.kill_calls.specs.declared.one.KillStep.{KillStep}
use Rattle.kill_calls.specs.declared.one.KillStep.TheVariants as kill
use Rattle.kill_calls.specs.declared.one.KillOne.{KillOne}
use Rattle.kill_calls.specs.Kill.{kill_event, kill_step_posted, kill_posted, kill_answered, kill_checked, kill_waits}
use Rattle.kill_calls.specs.Kill.{kill_ends, kill_by_event, kill_step_after, kill_after, kill_rank_by, kill_rank}

-- what is asked of a turn of a step, where so many turns follow the kill
abbrev FairStep : (behind : ℕ) → KillOne → KillStep → Reply → Own → OwnTurn KillStep → Type 0
FairStep behind p s r own t =
    IsFair (kill_rank_by behind) (kill_step_posted p.target s) (kill_rank_by behind s) r own t

answered_fair : (behind : ℕ) (p : KillOne) (s next : KillStep) (r : Reply) (own : Own) (a : Answer)
    → 1 < kill_rank_by behind s → FairStep behind p s r own (kill_answered p next own a)
answered_fair behind p s next r own a high =
    answers_fair (kill_rank_by behind) (kill_step_posted p.target s) (kill_rank_by behind s) r kill.Rest next own
    (answer_result a) (kill_event p.by p.target p.signal a) refl high

waits_fair : (behind : ℕ) (p : KillOne) (x y : Post) (r : Reply) (own : Own)
    → (may_keep_rank (post_posted x) r None ≡ false → post_rank y < post_rank x)
    → FairStep behind p (kill.Posting x) r own (kill_waits p own y)
waits_fair behind p x (post.Finished posted.Absent) r own lowers =
    answered_fair behind p (kill.Posting x) kill.Done r own (Error ESRCH) (omega arith)
waits_fair behind p x (post.Finished posted.Died) r own lowers =
    answered_fair behind p (kill.Posting x) kill.Done r own Zero (omega arith)
waits_fair behind p x (post.Finished posted.Done) r own lowers =
    record { lowers = λ keeps. omega (arith, lowers keeps); lengths = same_lengths own }
waits_fair behind p x (post.Posting y) r own lowers =
    record { lowers = λ keeps. omega (arith, lowers keeps); lengths = same_lengths own }
waits_fair behind p x (post.Telling y) r own lowers =
    record { lowers = λ keeps. omega (arith, lowers keeps); lengths = same_lengths own }

by_event_fair : (behind : ℕ) (p : KillOne) (x y : Post) (e : Option Event) (r : Reply) (own : Own)
    → (may_keep_rank (post_posted x) r e ≡ false → post_rank y < post_rank x)
    → FairStep behind p (kill.Posting x) r own (kill_by_event p own y e)
by_event_fair behind p x y None r own lowers = waits_fair behind p x y r own lowers
by_event_fair behind p x y (Some e) r own lowers =
    answered_fair behind p (kill.Posting x) (kill_ends y) r own Zero (omega arith)

ends_rank : (behind : ℕ) (x : Post) → kill_rank_by behind (kill_ends x) ≤ post_rank x + 1 + behind
ends_rank behind (post.Finished answer) = omega arith
ends_rank behind (post.Posting x) = omega arith
ends_rank behind (post.Telling x) = omega arith

-- Each turn of a step lowers the rank, unless a compare-exchange found another word, and keeps the length of each
-- region, also where so many turns follow the kill.
pub kill_step_fair : (behind : ℕ) (p : KillOne) (s : KillStep) (r : Reply) (own : Own)
    → FairStep behind p s r own (kill_step_after p s own r)
kill_step_fair behind p kill.Checking r own =
    all_by_word (λ t r. FairStep behind p kill.Checking r own t) (goes_to kill.Rest own) (kill_checked p own)
    (λ r. record { lowers = λ _. omega arith; lengths = same_lengths own })
    (λ w. answered_fair behind p kill.Checking kill.Done (reply.Word w) own
    (if is_process_word w then Zero else Error ESRCH) (omega arith)) r
kill_step_fair behind p (kill.Posting x) r own =
    by_event_fair behind p x (post_after x r).part (post_after x r).event r own (post_lowers x r)
kill_step_fair behind p (kill.Ending x) r own =
    record {
      lowers = λ keeps. omega (arith, ends_rank behind (post_after x r).part, post_lowers x r keeps);
      lengths = same_lengths own;
    }
kill_step_fair behind p kill.Done r own =
    record { lowers = λ keeps. absurd (let never : true ≡ false = keeps in cc); lengths = same_lengths own }
kill_step_fair behind p kill.Rest r own =
    record { lowers = λ keeps. absurd (let never : true ≡ false = keeps in cc); lengths = same_lengths own }

pub kill_fair : (p : KillOne) (r : Reply) (own : Own)
    → IsFair kill_rank (kill_posted p) (kill_rank p) r own (kill_after p own r)
kill_fair p r own =
    record { lowers = (kill_step_fair 0 p p.step r own).lowers; lengths = (kill_step_fair 0 p p.step r own).lengths }
