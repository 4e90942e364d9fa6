-- A posting to one row comes to its end.
use Rattle.std.specs.Prelude.{◌≡◌, ℕ, ◌+◌, ◌<◌, ◌≤◌, Bool, true, false, not, nat_eq, Option, Some, None}
use Rattle.std.proofs.Common.{sym, ap, ◌∙◌, arith}
use Rattle.std.proofs.lemmas.Bool.{cond_both}
use Rattle.w32_base.specs.declared.call.Reply.{Reply}
use Rattle.w32_base.specs.declared.call.Reply.TheVariants as reply
use Rattle.w32_base.specs.Part.{may_keep_rank}
use Rattle.posix_spec.specs.Signals.{continue_signal}
use Rattle.layer_spec.specs.Rows.{RowKind, Free, Held, Running, Stopped, Zombie, Gone, MainWord}
use Rattle.layer_spec.specs.Decoding.{main_of}
use Rattle.layer_spec.specs.Transitions.{Post, trans}
use Rattle.roster.specs.declared.wake.Poster.{Poster}
use Rattle.roster.specs.declared.wake.Poster.TheVariants as poster
use Rattle.roster.specs.declared.wake.Wake.{Wake}
use Rattle.roster.specs.declared.wake.Wake.TheVariants as wake
use Rattle.roster.specs.declared.post_one.PostStep.{PostStep}
use Rattle.roster.specs.declared.post_one.PostStep.TheVariants as post
use Rattle.roster.specs.declared.post_one.PostOne.{PostOne}
use Rattle.roster.specs.Turns.{Turn, quietly, Lowers, all_by_word}
use Rattle.roster.specs.Wake.{wake_begun, wake_after, wake_rank}
use Rattle.roster.specs.WakeLaws.{wake_lowers}
use Rattle.roster.specs.PostOne.{post_step_posted, post_tries, post_by_kind, post_by_main, post_looked, post_wakes}
use Rattle.roster.specs.PostOne.{post_tried, post_step_after, post_step_rank, post_one_posted, post_one_after}
use Rattle.roster.specs.PostOne.{post_one_rank}

tries_rank : (old : ℕ) (continued : Bool) (o : Option MainWord) → post_step_rank (post_tries old continued o) < 10
tries_rank old continued (Some new) = omega arith
tries_rank old continued None = omega arith

kind_rank : (kind : RowKind) (signal old : ℕ) (m : MainWord) → post_step_rank (post_by_kind kind signal old m) < 10
kind_rank Free signal old m = omega arith
kind_rank Held signal old m = omega arith
kind_rank Running signal old m = tries_rank old false (trans m (Post signal))
kind_rank Stopped signal old m = tries_rank old (nat_eq signal continue_signal) (trans m (Post signal))
kind_rank Zombie signal old m = omega arith
kind_rank Gone signal old m = omega arith

main_rank : (signal old : ℕ) (o : Option MainWord) → post_step_rank (post_by_main signal old o) < 10
main_rank signal old None = omega arith
main_rank signal old (Some m) = kind_rank m.kind signal old m

wakes_rank : (x : Wake) (continued : Bool) → post_step_rank (post_wakes x continued) ≤ wake_rank x + 1
wakes_rank wake.Done continued = omega arith
wakes_rank x continued = omega arith

begun_rank : (by : Poster) (row : ℕ) → wake_rank (wake_begun by row) < 8
begun_rank (poster.Main own) row =
    cond_both (nat_eq row own) wake.Done (wake.Looking row) (λ x. wake_rank x < 8) (λ e. omega arith) (λ e. omega arith)
begun_rank (poster.Watcher own) row =
    cond_both (nat_eq row own) wake.Setting (wake.Looking row) (λ x. wake_rank x < 8) (λ e. omega arith)
    (λ e. omega arith)
begun_rank poster.Console row = omega arith

-- a compare-exchange that found the old word lowers the rank; one that found another may keep it
tried_rank : (p : PostOne) (old new : ℕ) (continued : Bool) (w : ℕ)
    → may_keep_rank (post_step_posted p.row (post.Trying old new continued)) (reply.Word w)
    (post_tried p old continued w).event ≡ false
    → post_step_rank (post_tried p old continued w).part < 9
tried_rank p old new continued w =
    cond_both (nat_eq w old)
    (record { part = post_wakes (wake_begun p.by p.row) continued; event = Some p.event })
    (quietly (post_looked p.signal w))
    (λ (t : Turn PostStep).
    may_keep_rank (post_step_posted p.row (post.Trying old new continued)) (reply.Word w) t.event ≡ false
    → post_step_rank t.part < 9)
    (λ e _. omega (arith, wakes_rank (wake_begun p.by p.row) continued, begun_rank p.by p.row))
    (λ e keeps. absurd (let never : true ≡ false = ap not (sym e) ∙ keeps in cc))

step_lowers : (p : PostOne) (x : PostStep) (r : Reply)
    → may_keep_rank (post_step_posted p.row x) r (post_step_after p x r).event ≡ false
    → post_step_rank (post_step_after p x r).part < post_step_rank x
step_lowers p post.Looking r =
    all_by_word
    (λ (t : Turn PostStep) r. may_keep_rank (post_step_posted p.row post.Looking) r t.event ≡ false
    → post_step_rank t.part < 10) (quietly post.Rest) (λ w. quietly (post_looked p.signal w)) (λ r _. omega arith)
    (λ w _. main_rank p.signal w (main_of w)) r
step_lowers p (post.Trying old new continued) r =
    all_by_word
    (λ (t : Turn PostStep) r. may_keep_rank (post_step_posted p.row (post.Trying old new continued)) r t.event ≡ false
    → post_step_rank t.part < 9) (quietly post.Rest) (post_tried p old continued) (λ r _. omega arith)
    (tried_rank p old new continued) r
step_lowers p (post.Waking x continued) r =
    λ keeps. omega (arith, wakes_rank (wake_after x r) continued, wake_lowers x r keeps)
step_lowers p post.Absent r = λ keeps. absurd (let never : true ≡ false = keeps in cc)
step_lowers p post.Died r = λ keeps. absurd (let never : true ≡ false = keeps in cc)
step_lowers p (post.Posted continued) r = λ keeps. absurd (let never : true ≡ false = keeps in cc)
step_lowers p post.Rest r = λ keeps. absurd (let never : true ≡ false = keeps in cc)

-- each turn lowers the rank, unless the compare-exchange found another word
pub post_one_lowers : (p : PostOne) (r : Reply) → Lowers post_one_rank post_one_posted p r (post_one_after p r)
post_one_lowers p r = step_lowers p p.step r
