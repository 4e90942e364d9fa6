-- A post comes to its end.
use Rattle.std.specs.Prelude.{◌≡◌, ◌+◌, ◌≤◌, true, false}
use Rattle.std.proofs.Common.{arith}
use Rattle.w32_base.specs.declared.call.Reply.{Reply}
use Rattle.roster.specs.declared.post_one.PostStep.{PostStep}
use Rattle.roster.specs.declared.post_one.PostStep.TheVariants as step
use Rattle.roster.specs.declared.post_one.PostOne.{PostOne}
use Rattle.roster.specs.declared.tell_parent.TellParent.{TellParent}
use Rattle.roster.specs.declared.tell_parent.TellParent.TheVariants as tell
use Rattle.roster.specs.declared.post.Post.{Post}
use Rattle.roster.specs.declared.post.Post.TheVariants as post
use Rattle.roster.specs.Turns.{Lowers}
use Rattle.roster.specs.PostOne.{post_one_after, post_one_rank}
use Rattle.roster.specs.PostOneLaws.{post_one_lowers}
use Rattle.roster.specs.TellParent.{tell_after, tell_rank}
use Rattle.roster.specs.TellParentLaws.{tell_lowers}
use Rattle.roster.specs.Post.{post_posted, post_by_step, post_tells, post_after, post_rank}

step_rank : (x : PostOne) (s : PostStep) → post_rank (post_by_step x s) ≤ post_one_rank x + 14
step_rank x step.Absent = omega arith
step_rank x step.Died = omega arith
step_rank x (step.Posted false) = omega arith
step_rank x (step.Posted true) = omega arith
step_rank x step.Looking = omega arith
step_rank x (step.Trying old new continued) = omega arith
step_rank x (step.Waking w continued) = omega arith
step_rank x step.Rest = omega arith

tells_rank : (x : TellParent) → post_rank (post_tells x) ≤ tell_rank x + 1
tells_rank tell.Done = omega arith
tells_rank x = omega arith

-- each turn lowers the rank, unless the compare-exchange found another word
pub post_lowers : (p : Post) (r : Reply) → Lowers post_rank post_posted p r (post_after p r)
post_lowers (post.Posting x) r =
    λ keeps. omega (
      arith,
      step_rank (post_one_after x r).part (post_one_after x r).part.step,
      post_one_lowers x r keeps,
    )
post_lowers (post.Telling x) r =
    λ keeps. omega (arith, tells_rank (tell_after x r).part, tell_lowers x r keeps)
post_lowers (post.Finished answer) r = λ keeps. absurd (let never : true ≡ false = keeps in cc)
