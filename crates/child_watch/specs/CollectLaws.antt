-- A collecting comes to its end.
use Rattle.std.specs.Prelude.{◌≡◌, ℕ, ◌+◌, ◌<◌, true, false, not, nat_eq, Option, Some, None}
use Rattle.std.proofs.Common.{sym, ap, ◌∙◌, arith}
use Rattle.std.proofs.lemmas.Bool.{cond_both}
use Rattle.w32_base.specs.declared.call.Reply.{Reply}
use Rattle.w32_base.specs.declared.call.Reply.TheVariants as reply
use Rattle.w32_base.specs.declared.event.Event.TheVariants as event
use Rattle.w32_base.specs.Part.{may_keep_rank}
use Rattle.layer_spec.specs.Transitions.{Collect}
use Rattle.child_watch.specs.declared.collect.Gather.{Gather}
use Rattle.child_watch.specs.declared.collect.Gather.TheVariants as gather
use Rattle.roster.specs.Turns.{Turn, quietly, Lowers, all_by_word}
use Rattle.roster.specs.Words.{changed_word}
use Rattle.child_watch.specs.Collect.{gather_posted, gather_tries, gather_looked, gather_tried, gather_after}
use Rattle.child_watch.specs.Collect.{gather_rank}

tries_rank : (row old : ℕ) (o : Option ℕ) → gather_rank (gather_tries row old o) < 3
tries_rank row old (Some new) = omega arith
tries_rank row old None = omega arith

-- each turn lowers the rank, unless the compare-exchange found another word
pub gather_lowers : (p : Gather) (r : Reply) → Lowers gather_rank gather_posted p r (gather_after p r)
gather_lowers (gather.Looking row) r =
    all_by_word
    (λ (t : Turn Gather) r. may_keep_rank (gather_posted (gather.Looking row)) r t.event ≡ false
    → gather_rank t.part < 3) (quietly gather.Rest) (λ w. quietly (gather_looked row w)) (λ r _. omega arith)
    (λ w _. tries_rank row w (changed_word Collect w)) r
gather_lowers (gather.Trying row old new) r =
    all_by_word
    (λ (t : Turn Gather) r. may_keep_rank (gather_posted (gather.Trying row old new)) r t.event ≡ false
    → gather_rank t.part < 2) (quietly gather.Rest) (gather_tried row old) (λ r _. omega arith)
    (λ w. cond_both (nat_eq w old) (record { part = gather.Done; event = Some (event.Collect (row + 1)) })
    (quietly (gather_looked row w))
    (λ (t : Turn Gather). may_keep_rank (gather_posted (gather.Trying row old new)) (reply.Word w) t.event ≡ false
    → gather_rank t.part < 2)
    (λ e _. omega arith)
    (λ e keeps. absurd (let never : true ≡ false = ap not (sym e) ∙ keeps in cc))) r
gather_lowers gather.Done r = λ keeps. absurd (let never : true ≡ false = keeps in cc)
gather_lowers gather.Rest r = λ keeps. absurd (let never : true ≡ false = keeps in cc)
