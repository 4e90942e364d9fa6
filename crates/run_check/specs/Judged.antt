-- Which verdict a list of events has.
use Rattle.std.specs.Prelude.{◌≡◌, ℕ, ◌+◌, List, ◌∷◌, ◌++◌, length, None}
use Rattle.w32_base.specs.declared.event.Event.{Event}
use Rattle.script_spec.specs.declared.script.Script.{Script}
use Rattle.posix_spec.specs.State.{PosixState}
use Rattle.posix_spec.specs.Opening.{opening_of}
use Rattle.posix_spec.specs.Run.{PosixRun}
use Rattle.posix_spec.specs.Step.{posix_step}
use Rattle.posix_model.specs.declared.rule.Rule.{Rule}
use Rattle.posix_model.specs.Rules.{rule_of}
use Rattle.run_check.specs.declared.verdict.Verdict.{Verdict}
use Rattle.run_check.specs.declared.verdict.Verdict.TheVariants as verdict

-- the events are a run from where the script begins
pub record IsRunOf (script : Script) (events : List Event) : Type 0 where
  pub state : PosixState
  pub run : PosixRun script (opening_of script) events state

-- The events before one are such a run, and this one is no step in the state that they lead to. It stands one line
-- further down than its number, which counts from 1.
pub record IsStoppedAt (script : Script) (events : List Event) (line : ℕ) (rule : Rule) : Type 0 where
  pub before : List Event
  pub event : Event
  pub rest : List Event
  pub parts : events ≡ before ++ event ∷ rest
  pub state : PosixState
  pub run : PosixRun script (opening_of script) before state
  pub no_step : posix_step script state event ≡ None
  pub line_is : line ≡ length before + 2
  pub rule_is : rule ≡ rule_of event

abbrev pub IsVerdict : Script → List Event → Verdict → Type 0
IsVerdict script events verdict.Yes = IsRunOf script events
IsVerdict script events (verdict.No line rule) = IsStoppedAt script events line rule
