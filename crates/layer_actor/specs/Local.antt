-- A block of local instructions: it is carried out by the call, and its length is the event's.
use Rattle.std.specs.Prelude.{◌≡◌, ℕ, ◌+◌, pos, true, false, Some}
use Rattle.std.proofs.Common.{arith}
use Rattle.w32_base.specs.declared.call.Call.{Call}
use Rattle.w32_base.specs.declared.call.Call.TheVariants as call
use Rattle.w32_base.specs.declared.call.Reply.{Reply}
use Rattle.w32_base.specs.declared.call.Reply.TheVariants as reply
use Rattle.w32_base.specs.declared.event.Event.TheVariants as event
use Rattle.roster.specs.Turns.{Turn, quietly, rest_call, Lowers}
use Rattle.layer_actor.specs.declared.local.Local.{Local}
use Rattle.layer_actor.specs.declared.local.Local.TheVariants as local

-- the call that each step posts
abbrev pub local_posted : Local → Call
local_posted (local.Running row) = call.Run
local_posted local.Done = rest_call
local_posted local.Rest = rest_call

abbrev pub local_ran : (row : ℕ) → Reply → Turn Local
local_ran row (reply.Ran n) = record { part = local.Done; event = Some (event.Run (row + 1) (pos n)) }
local_ran row _ = quietly local.Rest

-- where each step goes with a reply
abbrev pub local_after : Local → Reply → Turn Local
local_after (local.Running row) r = local_ran row r
local_after local.Done r = quietly local.Done
local_after local.Rest r = quietly local.Rest

-- how many turns are left at most, where so many follow the block
abbrev pub local_rank_by : (behind : ℕ) → Local → ℕ
local_rank_by behind (local.Running row) = 2
local_rank_by behind local.Done = behind
local_rank_by behind local.Rest = 1

abbrev pub local_rank : Local → ℕ
local_rank = local_rank_by 0

pub local_lowers : (behind : ℕ) (p : Local) (r : Reply)
    → Lowers (local_rank_by behind) local_posted p r (local_after p r)
local_lowers behind (local.Running row) (reply.Ran n) = λ keeps. absurd (let never : true ≡ false = keeps in cc)
local_lowers behind (local.Running row) r = λ _. omega arith
local_lowers behind local.Done r = λ keeps. absurd (let never : true ≡ false = keeps in cc)
local_lowers behind local.Rest r = λ keeps. absurd (let never : true ≡ false = keeps in cc)
