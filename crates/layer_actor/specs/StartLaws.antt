-- A start comes to its end.
use Rattle.std.specs.Prelude.{◌≡◌, ℕ, ◌+◌, ◌<◌, true, false, None}
use Rattle.std.proofs.Common.{arith}
use Rattle.std.proofs.lemmas.Bool.{cond_both}
use Rattle.w32_base.specs.declared.call.Reply.{Reply}
use Rattle.w32_base.specs.declared.call.Reply.TheVariants as reply
use Rattle.w32_base.specs.declared.own.Own.{Own}
use Rattle.w32_base.specs.Part.{may_keep_rank}
use Rattle.roster.specs.Turns.{quietly, Lowers}
use Rattle.layer_actor.specs.declared.start.StartStep.{StartStep}
use Rattle.layer_actor.specs.declared.start.StartStep.TheVariants as start
use Rattle.layer_actor.specs.declared.start.Start.{Start}
use Rattle.layer_actor.specs.Start.{start_step_posted, start_posted, is_first, start_opened, start_step_after}
use Rattle.layer_actor.specs.Start.{start_after, start_rank_by, start_rank}

opened_rank : (behind : ℕ) (own : Own) → start_rank_by behind (start_opened own) < 10 + behind
opened_rank behind own =
    cond_both (is_first own) start.MakingWake start.Rest (λ x. start_rank_by behind x < 10 + behind) (λ _. omega arith)
    (λ _. omega arith)

-- each turn of a step lowers the rank, also where so many follow the start
pub start_step_lowers : (behind image : ℕ) (s : StartStep) (own : Own) (r : Reply)
    → may_keep_rank (start_step_posted image s) r None ≡ false
    → start_rank_by behind (start_step_after s own r) < start_rank_by behind s
start_step_lowers behind image start.Opening own (reply.Word w) = λ _. opened_rank behind own
start_step_lowers behind image start.Opening own r = λ _. omega arith
start_step_lowers behind image start.MakingWake own (reply.Handle h) = λ _. omega arith
start_step_lowers behind image start.MakingWake own r = λ _. omega arith
start_step_lowers behind image start.MakingMutex own (reply.Handle h) = λ _. omega arith
start_step_lowers behind image start.MakingMutex own r = λ _. omega arith
start_step_lowers behind image start.MakingPipe own (reply.Two reads writes) = λ _. omega arith
start_step_lowers behind image start.MakingPipe own r = λ _. omega arith
start_step_lowers behind image start.MakingChange own (reply.Handle h) = λ _. omega arith
start_step_lowers behind image start.MakingChange own r = λ _. omega arith
start_step_lowers behind image start.OpeningItself own (reply.Handle h) = λ _. omega arith
start_step_lowers behind image start.OpeningItself own r = λ _. omega arith
start_step_lowers behind image (start.ResumingSignals process) own (reply.Count n) = λ _. omega arith
start_step_lowers behind image (start.ResumingSignals process) own r = λ _. omega arith
start_step_lowers behind image (start.ResumingWatcher process) own (reply.Count n) = λ _. omega arith
start_step_lowers behind image (start.ResumingWatcher process) own r = λ _. omega arith
start_step_lowers behind image (start.Closing process) own reply.Done = λ _. omega arith
start_step_lowers behind image (start.Closing process) own r = λ _. omega arith
start_step_lowers behind image start.Done own r = λ keeps. absurd (let never : true ≡ false = keeps in cc)
start_step_lowers behind image start.Rest own r = λ keeps. absurd (let never : true ≡ false = keeps in cc)

pub start_lowers : (p : Start) (own : Own) (r : Reply)
    → Lowers start_rank start_posted p r (quietly (start_after p own r))
start_lowers p own r = start_step_lowers 0 p.image p.step own r
