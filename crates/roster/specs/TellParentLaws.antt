-- A notice to a parent comes to its end.
use Rattle.std.specs.Prelude.{◌≡◌, ◌+◌, ◌<◌, ◌≤◌, true, false, nat_eq, Option, Some, None}
use Rattle.std.proofs.Common.{arith}
use Rattle.std.proofs.lemmas.Bool.{cond_both}
use Rattle.w32_base.specs.declared.call.Reply.{Reply}
use Rattle.w32_base.specs.Part.{may_keep_rank}
use Rattle.layer_spec.specs.Rows.{GroupWord}
use Rattle.layer_spec.specs.Decoding.{group_of}
use Rattle.roster.specs.declared.wake.Poster.{Poster}
use Rattle.roster.specs.declared.post_one.PostOne.{PostOne}
use Rattle.roster.specs.declared.tell_parent.TellParent.{TellParent}
use Rattle.roster.specs.declared.tell_parent.TellParent.TheVariants as tell
use Rattle.roster.specs.Turns.{Turn, quietly, Lowers, all_by_word}
use Rattle.roster.specs.Orphaned.{is_process_number}
use Rattle.roster.specs.PostOne.{post_one_after, post_one_rank}
use Rattle.roster.specs.PostOneLaws.{post_one_lowers}
use Rattle.roster.specs.TellParent.{tell_posted, notice_to, tell_looked, tell_posts, tell_after, tell_rank}

looked_rank : (by : Poster) (o : Option GroupWord) → tell_rank (tell_looked by o) < 12
looked_rank by None = omega arith
looked_rank by (Some g) =
    cond_both (is_process_number g.parent) (tell.Posting (notice_to g.parent by)) tell.Done (λ x. tell_rank x < 12)
    (λ e. omega arith) (λ e. omega arith)

posts_rank : (x : PostOne) → tell_rank (tell_posts x) ≤ post_one_rank x + 1
posts_rank x =
    cond_both (nat_eq (post_one_rank x) 0) tell.Done (tell.Posting x) (λ y. tell_rank y ≤ post_one_rank x + 1)
    (λ e. omega arith) (λ e. omega arith)

-- each turn lowers the rank, unless the compare-exchange found another word
pub tell_lowers : (p : TellParent) (r : Reply) → Lowers tell_rank tell_posted p r (tell_after p r)
tell_lowers (tell.Looking row by) r =
    all_by_word
    (λ (t : Turn TellParent) r. may_keep_rank (tell_posted (tell.Looking row by)) r t.event ≡ false
    → tell_rank t.part < 12) (quietly tell.Rest) (λ w. quietly (tell_looked by (group_of w))) (λ r _. omega arith)
    (λ w _. looked_rank by (group_of w)) r
tell_lowers (tell.Posting x) r =
    λ keeps. omega (arith, posts_rank (post_one_after x r).part, post_one_lowers x r keeps)
tell_lowers tell.Done r = λ keeps. absurd (let never : true ≡ false = keeps in cc)
tell_lowers tell.Rest r = λ keeps. absurd (let never : true ≡ false = keeps in cc)
