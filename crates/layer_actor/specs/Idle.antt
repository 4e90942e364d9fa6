-- A thread whose part isn't built: it looks at the number of claimed rows, and then rests.
use Rattle.std.specs.Prelude.{ℕ}
use Rattle.w32_base.specs.declared.call.Call.{Call}
use Rattle.w32_base.specs.declared.call.Call.TheVariants as call
use Rattle.roster.specs.Turns.{section_handle, rest_call}
use Rattle.layer_actor.specs.declared.idle.Idle.{Idle}
use Rattle.layer_actor.specs.declared.idle.Idle.TheVariants as idle

-- the call that each step posts
abbrev pub idle_posted : Idle → Call
idle_posted idle.Opening = call.Load section_handle 0
idle_posted idle.Resting = rest_call

abbrev pub idle_rank : Idle → ℕ
idle_rank idle.Opening = 2
idle_rank idle.Resting = 1
