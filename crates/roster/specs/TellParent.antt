-- Posting CHLD to the parent of a row's process, which was stopped or continued. Nobody is told where there is no
-- parent or it has died.
use Rattle.std.specs.Prelude.{ℕ, ◌+◌, nat_eq, if◌then◌else◌, Option, Some, None}
use Rattle.w32_base.specs.declared.call.Call.{Call}
use Rattle.w32_base.specs.declared.call.Call.TheVariants as call
use Rattle.w32_base.specs.declared.call.Reply.{Reply}
use Rattle.w32_base.specs.declared.event.Event.TheVariants.{Notify}
use Rattle.posix_spec.specs.Signals.{child_signal}
use Rattle.layer_spec.specs.Rows.{GroupWord, group_place}
use Rattle.layer_spec.specs.Decoding.{group_of}
use Rattle.layer_spec.specs.Words.{row_of}
use Rattle.roster.specs.declared.wake.Poster.{Poster}
use Rattle.roster.specs.declared.post_one.PostStep.TheVariants as post
use Rattle.roster.specs.declared.post_one.PostOne.{PostOne}
use Rattle.roster.specs.declared.tell_parent.TellParent.{TellParent}
use Rattle.roster.specs.declared.tell_parent.TellParent.TheVariants as tell
use Rattle.roster.specs.Turns.{Turn, quietly, section_handle, rest_call, by_word}
use Rattle.roster.specs.Orphaned.{is_process_number}
use Rattle.roster.specs.PostOne.{post_one_posted, post_one_after, post_one_rank}

-- the call that each step posts
abbrev pub tell_posted : TellParent → Call
tell_posted (tell.Looking row by) = call.Load section_handle (group_place row)
tell_posted (tell.Posting x) = post_one_posted x
tell_posted tell.Done = rest_call
tell_posted tell.Rest = rest_call

-- a CHLD that is owed to the process with this number
abbrev pub notice_to : ℕ → Poster → PostOne
notice_to p by =
    record { row = row_of p; signal = child_signal; event = Notify p; by = by; step = post.Looking }

-- with the group word, which names the parent
abbrev pub tell_looked : Poster → Option GroupWord → TellParent
tell_looked by None = tell.Rest
tell_looked by (Some g) = if is_process_number g.parent then tell.Posting (notice_to g.parent by) else tell.Done

-- the posting goes on, or is over
abbrev pub tell_posts : PostOne → TellParent
tell_posts x = if nat_eq (post_one_rank x) 0 then tell.Done else tell.Posting x

abbrev pub tell_turn : Turn PostOne → Turn TellParent
tell_turn t = record { part = tell_posts t.part; event = t.event }

-- where each step goes with a reply
abbrev pub tell_after : TellParent → Reply → Turn TellParent
tell_after (tell.Looking row by) r = by_word (quietly tell.Rest) (λ w. quietly (tell_looked by (group_of w))) r
tell_after (tell.Posting x) r = tell_turn (post_one_after x r)
tell_after tell.Done r = quietly tell.Done
tell_after tell.Rest r = quietly tell.Rest

-- how many turns are left at most, but for another word found by the compare-exchange
abbrev pub tell_rank : TellParent → ℕ
tell_rank (tell.Looking row by) = 12
tell_rank (tell.Posting x) = post_one_rank x + 1
tell_rank tell.Done = 0
tell_rank tell.Rest = 1
