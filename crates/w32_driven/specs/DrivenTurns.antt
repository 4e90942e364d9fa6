-- What a turn of a machine that is driven by parts came to.
use Rattle.std.specs.Prelude.{ℕ, Option, Some, None}
use Rattle.w32_base.specs.declared.call.Call.{Call}
use Rattle.w32_base.specs.declared.entry.Outcome.{Outcome}
use Rattle.w32_base.specs.declared.entry.Outcome.TheVariants as outcome
use Rattle.w32_base.specs.declared.event.Event.{Event}
use Rattle.w32_base.specs.declared.call.Reply.{Reply}
use Rattle.w32_base.specs.declared.own.Own.{Own}
use Rattle.w32_base.specs.declared.part.After.{After}
use Rattle.w32_base.specs.declared.setup.Setup.{Setup}
use Rattle.script_spec.specs.declared.script.Script.{Script}
use Rattle.win32_spec.specs.State.{Win32State}
use Rattle.win32_spec.specs.Driven.{Parts}
use Rattle.win32_spec.specs.Driven as driven
use Rattle.w32_driven.specs.declared.driven.DrivenTurn.{DrivenTurn}
use Rattle.w32_driven.specs.declared.driven.DrivenTurn.TheVariants.{Idle, Done}

-- the call that was carried out
abbrev pub called_by : DrivenTurn → Option Call
called_by Idle = None
called_by (Done call reply event) = Some call

-- what came of it
abbrev pub came_by : DrivenTurn → Outcome
came_by Idle = outcome.Idle
came_by (Done call reply event) = outcome.Step reply

-- the event that stands in it
abbrev pub event_by : DrivenTurn → Option Event
event_by Idle = None
event_by (Done call reply event) = event

-- the thread of a place was ready, and its turn came to this
module _ {P : Type 0} (posted_of : P → Call) (goes : P → Own → Setup → Reply → P → Own → After → Type 0)
    (opening : P → Type 0) (slot_of thread_of_part : P → ℕ) where
  abbrev pub DoneBy : Script → Win32State → Parts P → ℕ → ℕ → DrivenTurn → Win32State → Parts P → Type 0
  DoneBy script s parts slot t Idle new after = ⊥
  DoneBy script s parts slot t (Done call reply event) new after =
      driven.DrivenTurn posted_of goes opening slot_of thread_of_part script s parts slot t call reply event new after
