-- A post with all that follows from it: a wake that is owed stays owed until something ends it, also that of a parent.
use Rattle.std.specs.Prelude.{◌≡◌, ◌⊎◌, ◌<◌, Bool, true, false, nat_eq}
use Rattle.std.proofs.Common.{refl, ap, ◌∙◌, arith, inl, inr}
use Rattle.std.proofs.lemmas.Bool.{cond_both, eqb-true}
use Rattle.w32_base.specs.declared.call.Reply.{Reply}
use Rattle.roster.specs.declared.post_one.PostStep.{PostStep}
use Rattle.roster.specs.declared.post_one.PostStep.TheVariants as step
use Rattle.roster.specs.declared.post_one.PostOne.{PostOne}
use Rattle.roster.specs.declared.tell_parent.TellParent.{TellParent}
use Rattle.roster.specs.declared.tell_parent.TellParent.TheVariants as tell
use Rattle.roster.specs.declared.post.Post.{Post}
use Rattle.roster.specs.declared.post.Post.TheVariants as post
use Rattle.roster.specs.PostOne.{post_one_after, post_one_rank, post_step_rank}
use Rattle.roster.specs.TellParent.{tell_posted, tell_posts, tell_after}
use Rattle.roster.specs.Post.{post_posted, post_by_step, post_tells, post_after}
use Rattle.roster.specs.Woken.{is_post_owed, EndsWake}
use Rattle.roster.specs.WokenLaws.{post-owed}

-- whether a wake is still to come
abbrev pub is_tell_owed : TellParent → Bool
is_tell_owed (tell.Posting x) = is_post_owed x.step
is_tell_owed (tell.Looking row by) = false
is_tell_owed tell.Done = false
is_tell_owed tell.Rest = false

abbrev pub is_whole_owed : Post → Bool
is_whole_owed (post.Posting x) = is_post_owed x.step
is_whole_owed (post.Telling x) = is_tell_owed x
is_whole_owed (post.Finished answer) = false

-- who owes a wake isn't done
owed_rank : (s : PostStep) → is_post_owed s ≡ true → 0 < post_step_rank s
owed_rank (step.Waking x continued) e = omega arith
owed_rank step.Looking e = omega arith
owed_rank (step.Trying old new continued) e = omega arith
owed_rank step.Rest e = omega arith
owed_rank step.Absent e = absurd (cc)
owed_rank step.Died e = absurd (cc)
owed_rank (step.Posted continued) e = absurd (cc)

posts_owed : (x : PostOne) → is_post_owed x.step ≡ true → is_tell_owed (tell_posts x) ≡ true
posts_owed x owed =
    cond_both (nat_eq (post_one_rank x) 0) tell.Done (tell.Posting x) (λ y. is_tell_owed y ≡ true)
    (λ e. absurd (
    let none : post_one_rank x ≡ 0 = eqb-true (post_one_rank x) 0 e in
    let some : 0 < post_one_rank x = owed_rank x.step owed in omega arith)) (λ e. owed)

pub tell-owed : (p : TellParent) (r : Reply) → is_tell_owed p ≡ true
    → (is_tell_owed (tell_after p r).part ≡ true) ⊎ EndsWake (tell_posted p) r
tell-owed (tell.Posting x) r owed = elim (post-owed x r owed) [
  | inl more ↦ inl (posts_owed (post_one_after x r).part more)
  | inr ends ↦ inr ends
]
tell-owed (tell.Looking row by) r owed = absurd (cc)
tell-owed tell.Done r owed = absurd (cc)
tell-owed tell.Rest r owed = absurd (cc)

step_owed : (x : PostOne) (s : PostStep) → x.step ≡ s → is_post_owed s ≡ true
    → is_whole_owed (post_by_step x s) ≡ true
step_owed x (step.Waking w continued) at owed = ap is_post_owed at ∙ owed
step_owed x step.Looking at owed = absurd (cc)
step_owed x (step.Trying old new continued) at owed = absurd (cc)
step_owed x step.Absent at owed = absurd (cc)
step_owed x step.Died at owed = absurd (cc)
step_owed x (step.Posted continued) at owed = absurd (cc)
step_owed x step.Rest at owed = absurd (cc)

tells_owed : (x : TellParent) → is_tell_owed x ≡ true → is_whole_owed (post_tells x) ≡ true
tells_owed (tell.Posting x) owed = owed
tells_owed (tell.Looking row by) owed = owed
tells_owed tell.Rest owed = owed
tells_owed tell.Done owed = absurd (cc)

pub whole-owed : (p : Post) (r : Reply) → is_whole_owed p ≡ true
    → (is_whole_owed (post_after p r).part ≡ true) ⊎ EndsWake (post_posted p) r
whole-owed (post.Posting x) r owed = elim (post-owed x r owed) [
  | inl more ↦ inl (step_owed (post_one_after x r).part (post_one_after x r).part.step refl more)
  | inr ends ↦ inr ends
]
whole-owed (post.Telling x) r owed = elim (tell-owed x r owed) [
  | inl more ↦ inl (tells_owed (tell_after x r).part more)
  | inr ends ↦ inr ends
]
whole-owed (post.Finished answer) r owed = absurd (cc)
