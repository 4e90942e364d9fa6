-- The starter comes to its last wait.
use Rattle.std.specs.Prelude.{◌≡◌, ◌<◌, true, false}
use Rattle.std.proofs.Common.{arith}
use Rattle.w32_base.specs.declared.call.Reply.{Reply}
use Rattle.w32_base.specs.declared.call.Reply.TheVariants as reply
use Rattle.w32_base.specs.Part.{may_keep_rank}
use Rattle.roster.specs.Turns.{Turn, quietly, Lowers, all_by_word}
use Rattle.job_control.specs.declared.starter.Starter.{Starter}
use Rattle.job_control.specs.declared.starter.Starter.TheVariants as starter
use Rattle.job_control.specs.Starter.{starter_posted, starter_after, starter_rank}

-- each turn lowers the rank, but for a wait and for the event
pub starter_lowers : (p : Starter) (r : Reply) → Lowers starter_rank starter_posted p r (starter_after p r)
starter_lowers starter.Opening r =
    all_by_word
    (λ (t : Turn Starter) r. may_keep_rank (starter_posted starter.Opening) r t.event ≡ false
    → starter_rank t.part < 4) (quietly starter.Rest) (λ w. quietly starter.Waiting) (λ r _. omega arith)
    (λ w _. omega arith) r
starter_lowers starter.Waiting r = λ keeps. absurd (let never : true ≡ false = keeps in cc)
starter_lowers starter.Asking (reply.Code n) = λ keeps. absurd (let never : true ≡ false = keeps in cc)
starter_lowers starter.Asking r = λ _. omega arith
starter_lowers starter.Over r = λ keeps. absurd (let never : true ≡ false = keeps in cc)
starter_lowers starter.Rest r = λ keeps. absurd (let never : true ≡ false = keeps in cc)

pub starter_goes_on : (p : Starter) → 0 < starter_rank p
starter_goes_on starter.Opening = omega arith
starter_goes_on starter.Waiting = omega arith
starter_goes_on starter.Asking = omega arith
starter_goes_on starter.Over = omega arith
starter_goes_on starter.Rest = omega arith
