-- The parts that take the roster mutex and let it go come to their ends.
use Rattle.std.specs.Prelude.{◌≡◌, ◌<◌, true, false}
use Rattle.std.proofs.Common.{arith}
use Rattle.w32_base.specs.declared.call.Reply.{Reply}
use Rattle.roster.specs.declared.hold.Hold.{Hold}
use Rattle.roster.specs.declared.hold.Hold.TheVariants as hold
use Rattle.roster.specs.declared.release.Let.{Let}
use Rattle.roster.specs.declared.release.Let.TheVariants as release
use Rattle.roster.specs.Turns.{quietly, Lowers, all_by_done}
use Rattle.roster.specs.Mutex.{hold_posted, let_posted, hold_after, let_after, hold_rank, let_rank}

pub hold_lowers : (p : Hold) (r : Reply) → Lowers hold_rank hold_posted p r (quietly (hold_after p r))
hold_lowers hold.Waiting r = λ keeps. absurd (let never : true ≡ false = keeps in cc)
hold_lowers hold.Held r = λ keeps. absurd (let never : true ≡ false = keeps in cc)
hold_lowers hold.Rest r = λ keeps. absurd (let never : true ≡ false = keeps in cc)

pub let_lowers : (p : Let) (r : Reply) → Lowers let_rank let_posted p r (quietly (let_after p r))
let_lowers release.Releasing r =
    λ _. all_by_done (λ x. let_rank x < 2) release.Rest release.Released (omega arith) (omega arith) r
let_lowers release.Released r = λ keeps. absurd (let never : true ≡ false = keeps in cc)
let_lowers release.Rest r = λ keeps. absurd (let never : true ≡ false = keeps in cc)
