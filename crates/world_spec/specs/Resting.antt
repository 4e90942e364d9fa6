-- The part of a thread that has nothing to do: it looks at the number of claimed rows, as every thread does first, and
-- then rests for ever, in a wait that is never ready. It is the simplest part that serves a thread for its whole life.
use Rattle.std.specs.Prelude.{◌≡◌, ℕ, Bool, true, false, if◌then◌else◌, List, [], None}
use Rattle.w32_base.specs.declared.call.Call.{Call}
use Rattle.w32_base.specs.declared.call.Call.TheVariants as call
use Rattle.w32_base.specs.declared.call.Reply.{Reply}
use Rattle.w32_base.specs.declared.own.Own.{Own}
use Rattle.w32_base.specs.declared.part.After.{After}
use Rattle.w32_base.specs.declared.setup.Setup.{Setup}
use Rattle.win32_spec.specs.Making.{opening_call}
use Rattle.layer_spec.specs.Moment.{Moment, Seen}

-- the thread that it serves, and whether it has looked
pub record Resting : Type 0 where
  pub slot : ℕ
  pub thread : ℕ
  pub rests : Bool

abbrev pub resting_posted : Resting → Call
resting_posted p = if p.rests then call.WaitAny [] else opening_call

-- it goes on to rest, leaves the bytes alone and gives no event
pub record RestingGoes (p : Resting) (old : Own) (setup : Setup) (reply : Reply) (q : Resting) (new : Own)
    (answer : After)
    : Type 0 where
  pub part : q ≡ record p { rests = true }
  pub own : new ≡ old
  pub event : answer.event ≡ None

abbrev pub IsRestingOpening : Resting → Type 0
IsRestingOpening p = p.rests ≡ false

-- It knows nothing, and needs to know nothing.
abbrev pub RestingClause : {A : Type 0} → List (Seen A) → Moment A → ℕ → Resting → Type 0
RestingClause past now w p = Unit {0}
