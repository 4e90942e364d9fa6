-- How a `check` ends, by what was judged and told.
use Rattle.std.proofs.Common.{ℕ, inl, inr}
use Rattle.run_check.specs.declared.judging.Judged.{Judged}
use Rattle.cyg_cli.specs.Outside.{Outside, source_of}
use Rattle.cyg_cli.specs.Checks.{IsJudged, IsTold, Checks, Untold, Told, ToldInPart}

pub told_ends : (j : Judged) (before after : Outside) (status : ℕ) → IsJudged (source_of before) (source_of after) j
    → IsTold j before.held after.held before.write_faults after.write_faults status → Checks before after status
told_ends j before after status is (inl (s, app, same)) = Told j is app same s
told_ends j before after status is (inr (inl (s, app, one))) = ToldInPart j is app one s
told_ends j before after status is (inr (inr (s, held, same))) =
    Untold j is (record { held = held; faults = same }) s
