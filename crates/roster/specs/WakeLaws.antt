-- A waking comes to its end.
use Rattle.std.specs.Prelude.{◌≡◌, ℕ, ◌<◌, true, false, Option, Some, None}
use Rattle.std.proofs.Common.{arith}
use Rattle.std.proofs.lemmas.Bool.{cond_both}
use Rattle.w32_base.specs.declared.call.Reply.{Reply}
use Rattle.w32_base.specs.declared.call.Reply.TheVariants as reply
use Rattle.layer_spec.specs.Rows.{MainWord, is_live_kind}
use Rattle.layer_spec.specs.Decoding.{main_of}
use Rattle.roster.specs.declared.wake.Wake.{Wake}
use Rattle.roster.specs.declared.wake.Wake.TheVariants as wake
use Rattle.roster.specs.Turns.{quietly, Lowers, all_by_word, all_by_done}
use Rattle.roster.specs.Wake.{wake_posted, wake_looked, wake_opened, wake_copied, wake_put, wake_after, wake_rank}

looked_rank : (o : Option MainWord) → wake_rank (wake_looked o) < 7
looked_rank None = omega arith
looked_rank (Some m) =
    cond_both (is_live_kind m.kind) (wake.Opening m.image) wake.Done (λ x. wake_rank x < 7) (λ e. omega arith)
    (λ e. omega arith)

opened_rank : (r : Reply) → wake_rank (wake_opened r) < 6
opened_rank (reply.Handle process) = omega arith
opened_rank reply.Unknown = omega arith
opened_rank _ = omega arith

copied_rank : (process : ℕ) (r : Reply) → wake_rank (wake_copied process r) < 5
copied_rank process (reply.Handle pipe) = omega arith
copied_rank process reply.Gone = omega arith
copied_rank process reply.BadHandle = omega arith
copied_rank process _ = omega arith

put_rank : (process pipe : ℕ) (r : Reply) → wake_rank (wake_put process pipe r) < 4
put_rank process pipe reply.Done = omega arith
put_rank process pipe reply.Full = omega arith
put_rank process pipe reply.NoReader = omega arith
put_rank process pipe _ = omega arith

-- each turn lowers the rank
pub wake_lowers : (p : Wake) (r : Reply) → Lowers wake_rank wake_posted p r (quietly (wake_after p r))
wake_lowers wake.Setting r =
    λ _. all_by_done (λ x. wake_rank x < 2) wake.Rest wake.Done (omega arith) (omega arith) r
wake_lowers (wake.Looking row) r = λ _.
    all_by_word (λ x r. wake_rank x < 7) wake.Rest (λ w. wake_looked (main_of w)) (λ r. omega arith)
    (λ w. looked_rank (main_of w)) r
wake_lowers (wake.Opening image) r = λ _. opened_rank r
wake_lowers (wake.Copying process) r = λ _. copied_rank process r
wake_lowers (wake.Putting process pipe) r = λ _. put_rank process pipe r
wake_lowers (wake.ClosingPipe process pipe) r =
    λ _. all_by_done (λ x. wake_rank x < 3) wake.Rest (wake.Closing process) (omega arith) (omega arith) r
wake_lowers (wake.Closing process) r =
    λ _. all_by_done (λ x. wake_rank x < 2) wake.Rest wake.Done (omega arith) (omega arith) r
wake_lowers wake.Done r = λ keeps. absurd (let never : true ≡ false = keeps in cc)
wake_lowers wake.Rest r = λ keeps. absurd (let never : true ≡ false = keeps in cc)
