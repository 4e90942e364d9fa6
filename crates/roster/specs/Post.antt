-- Posting a signal to a row: to its process, which is then woken; and where that continues a stopped process, CHLD to
-- its parent.
use Rattle.std.specs.Prelude.{ℕ, ◌+◌, true, false, Option, Some, None}
use Rattle.w32_base.specs.declared.call.Call.{Call}
use Rattle.w32_base.specs.declared.call.Reply.{Reply}
use Rattle.roster.specs.declared.post_one.PostStep.{PostStep}
use Rattle.roster.specs.declared.post_one.PostStep.TheVariants as step
use Rattle.roster.specs.declared.post_one.PostOne.{PostOne}
use Rattle.roster.specs.declared.tell_parent.TellParent.{TellParent}
use Rattle.roster.specs.declared.tell_parent.TellParent.TheVariants as tell
use Rattle.roster.specs.declared.post.Posted.{Posted}
use Rattle.roster.specs.declared.post.Posted.TheVariants as posted
use Rattle.roster.specs.declared.post.Post.{Post}
use Rattle.roster.specs.declared.post.Post.TheVariants as post
use Rattle.roster.specs.Turns.{Turn, quietly, rest_call}
use Rattle.roster.specs.PostOne.{post_one_posted, post_one_after, post_one_rank}
use Rattle.roster.specs.TellParent.{tell_posted, tell_after, tell_rank}

-- the call that each step posts
abbrev pub post_posted : Post → Call
post_posted (post.Posting x) = post_one_posted x
post_posted (post.Telling x) = tell_posted x
post_posted (post.Finished answer) = rest_call

-- The posting goes on, or is over, by where it is.
abbrev pub post_by_step : PostOne → PostStep → Post
post_by_step x step.Absent = post.Finished posted.Absent
post_by_step x step.Died = post.Finished posted.Died
post_by_step x (step.Posted false) = post.Finished posted.Done
post_by_step x (step.Posted true) = post.Telling (tell.Looking x.row x.by)
post_by_step x step.Looking = post.Posting x
post_by_step x (step.Trying old new continued) = post.Posting x
post_by_step x (step.Waking w continued) = post.Posting x
post_by_step x step.Rest = post.Posting x

abbrev pub post_posts : PostOne → Post
post_posts x = post_by_step x x.step

-- the telling goes on, or is over
abbrev pub post_tells : TellParent → Post
post_tells tell.Done = post.Finished posted.Done
post_tells x = post.Telling x

abbrev pub posting_turn : Turn PostOne → Turn Post
posting_turn t = record { part = post_posts t.part; event = t.event }

abbrev pub telling_turn : Turn TellParent → Turn Post
telling_turn t = record { part = post_tells t.part; event = t.event }

-- where each step goes with a reply
abbrev pub post_after : Post → Reply → Turn Post
post_after (post.Posting x) r = posting_turn (post_one_after x r)
post_after (post.Telling x) r = telling_turn (tell_after x r)
post_after (post.Finished answer) r = quietly (post.Finished answer)

-- how many turns are left at most, but for another word found by the compare-exchange
abbrev pub post_rank : Post → ℕ
post_rank (post.Posting x) = post_one_rank x + 14
post_rank (post.Telling x) = tell_rank x + 1
post_rank (post.Finished answer) = 0

-- what came of it
abbrev pub post_answer : Post → Option Posted
post_answer (post.Finished answer) = Some answer
post_answer (post.Posting x) = None
post_answer (post.Telling x) = None
