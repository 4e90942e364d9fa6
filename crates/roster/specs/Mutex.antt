-- Taking the roster mutex, and letting it go.
use Rattle.std.specs.Prelude.{ℕ, [], ◌∷◌}
use Rattle.w32_base.specs.declared.call.Call.{Call}
use Rattle.w32_base.specs.declared.call.Call.TheVariants as call
use Rattle.w32_base.specs.declared.call.Reply.{Reply}
use Rattle.w32_base.specs.declared.call.Reply.TheVariants as reply
use Rattle.roster.specs.declared.hold.Hold.{Hold}
use Rattle.roster.specs.declared.hold.Hold.TheVariants as hold
use Rattle.roster.specs.declared.release.Let.{Let}
use Rattle.roster.specs.declared.release.Let.TheVariants as release
use Rattle.roster.specs.Turns.{roster_handle, rest_call, by_done}

-- the calls
abbrev pub hold_posted : Hold → Call
hold_posted hold.Waiting = call.WaitAny (roster_handle ∷ [])
hold_posted hold.Held = rest_call
hold_posted hold.Rest = rest_call

abbrev pub let_posted : Let → Call
let_posted release.Releasing = call.Release roster_handle
let_posted release.Released = rest_call
let_posted release.Rest = rest_call

-- the mutex is taken, also where the one who held it last has ended
abbrev pub hold_woken : Reply → Hold
hold_woken (reply.Woke place) = hold.Held
hold_woken (reply.Abandoned place) = hold.Held
hold_woken _ = hold.Rest

-- where each step goes with a reply
abbrev pub hold_after : Hold → Reply → Hold
hold_after hold.Waiting r = hold_woken r
hold_after hold.Held r = hold.Held
hold_after hold.Rest r = hold.Rest

abbrev pub let_after : Let → Reply → Let
let_after release.Releasing r = by_done release.Rest release.Released r
let_after release.Released r = release.Released
let_after release.Rest r = release.Rest

-- how many turns are left at most
abbrev pub hold_rank : Hold → ℕ
hold_rank hold.Waiting = 2
hold_rank hold.Held = 0
hold_rank hold.Rest = 1

abbrev pub let_rank : Let → ℕ
let_rank release.Releasing = 2
let_rank release.Released = 0
let_rank release.Rest = 1
