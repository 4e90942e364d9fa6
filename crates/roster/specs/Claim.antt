-- Claiming a row for a child: one is added to the number of claimed rows, and the next row after those that were
-- claimed before is held. Where there is no such row, the claim stands, and no row is held.
use Rattle.std.specs.Prelude.{ℕ, ◌+◌, nat_eq, nat_lt, if◌then◌else◌, Option, Some, None}
use Rattle.w32_base.specs.declared.call.Call.{Call}
use Rattle.w32_base.specs.declared.call.Call.TheVariants as call
use Rattle.w32_base.specs.declared.call.Reply.{Reply}
use Rattle.w32_base.specs.declared.setup.Setup.{Setup}
use Rattle.layer_spec.specs.Rows.{main_place}
use Rattle.layer_spec.specs.Transitions.{Hold}
use Rattle.roster.specs.declared.claim.Claim.{Claim}
use Rattle.roster.specs.declared.claim.Claim.TheVariants as claim
use Rattle.roster.specs.Turns.{section_handle, rest_call, by_word}
use Rattle.roster.specs.Words.{changed_word}

-- the call that each step posts
abbrev pub claim_posted : Claim → Call
claim_posted claim.Adding = call.FetchAdd section_handle 0 1
claim_posted (claim.Looking row) = call.Load section_handle (main_place row)
claim_posted (claim.Holding row old new) = call.CompareExchange section_handle (main_place row) old new
claim_posted (claim.Claimed row) = rest_call
claim_posted claim.NoRow = rest_call
claim_posted claim.Rest = rest_call

-- with the number of rows that were claimed before, of so many in all
abbrev pub claim_counted : ℕ → ℕ → Claim
claim_counted rows n = if nat_lt n rows then claim.Looking (n + 1) else claim.NoRow

-- a claimed row is free, so that it can be held
abbrev pub claim_held : ℕ → ℕ → Option ℕ → Claim
claim_held row old (Some new) = claim.Holding row old new
claim_held row old None = claim.Rest

abbrev pub claim_looked : ℕ → ℕ → Claim
claim_looked row w = claim_held row w (changed_word Hold w)

abbrev pub claim_tried : ℕ → ℕ → ℕ → Claim
claim_tried row old w = if nat_eq w old then claim.Claimed row else claim_looked row w

-- where each step goes with a reply
abbrev pub claim_after : Setup → Claim → Reply → Claim
claim_after setup claim.Adding r = by_word claim.Rest (claim_counted setup.limits.rows) r
claim_after setup (claim.Looking row) r = by_word claim.Rest (claim_looked row) r
claim_after setup (claim.Holding row old new) r = by_word claim.Rest (claim_tried row old) r
claim_after setup (claim.Claimed row) r = claim.Claimed row
claim_after setup claim.NoRow r = claim.NoRow
claim_after setup claim.Rest r = claim.Rest

-- how many turns are left at most, but for another word found by the compare-exchange
abbrev pub claim_rank : Claim → ℕ
claim_rank claim.Adding = 4
claim_rank (claim.Looking row) = 3
claim_rank (claim.Holding row old new) = 2
claim_rank (claim.Claimed row) = 0
claim_rank claim.NoRow = 0
claim_rank claim.Rest = 1

-- the row that was claimed and is held
abbrev pub claim_answer : Claim → Option ℕ
claim_answer (claim.Claimed row) = Some row
claim_answer claim.Adding = None
claim_answer (claim.Looking row) = None
claim_answer (claim.Holding row old new) = None
claim_answer claim.NoRow = None
claim_answer claim.Rest = None
