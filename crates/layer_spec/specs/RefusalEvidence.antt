-- What shows the cause of a refusal that no process's own state decides: EAGAIN of fork and exec, and ENOENT of exec
-- (POSIX.1-2017, XSH fork, exec).
use Rattle.std.specs.Prelude.{◌≡◌, ◌≢◌, ℕ, ◌≤◌, ℤ, pos, true, false, List, Some, slice_get}
use Rattle.w32_base.specs.Names.{is_among}
use Rattle.w32_base.specs.Setup.{program_names}
use Rattle.w32_base.specs.declared.event.ForkCause.{ForkCause}
use Rattle.w32_base.specs.declared.event.ForkCause.TheVariants as fork_cause
use Rattle.w32_base.specs.declared.event.ExecCause.{ExecCause}
use Rattle.w32_base.specs.declared.event.ExecCause.TheVariants as exec_cause
use Rattle.w32_base.specs.declared.instr.Instr.TheVariants as instr
use Rattle.w32_base.specs.declared.setup.Module.{Module}
use Rattle.script_spec.specs.declared.script.Script.{Script}
use Rattle.vm_spec.specs.Step.{CallInstruction}
use Rattle.posix_spec.specs.State.{Record, record_of}
use Rattle.posix_spec.specs.Conditions.{next_of}
use Rattle.layer_spec.specs.Moment.{SomeSeen, HistoryStep, seen_with}
use Rattle.layer_spec.specs.Owners.{call_up_to}
use Rattle.layer_spec.specs.Turns.{has_ended, was_ended}
use Rattle.layer_spec.specs.CallsDone.{ClaimsRow, FindsNoSlot, PlacesModule, HasMade}
use Rattle.layer_spec.specs.ImageEvidence.{base_wanted, ArePlacedAlike}

-- each row was claimed before
pub record AreRowsClaimed {A : Type 0} (script : Script) (step : HistoryStep A) (p : ℕ) : Type 0 where
  pub claimed : ℕ
  pub claims : SomeSeen (ClaimsRow p claimed) (call_up_to step p)
  pub all : script.setup.limits.rows ≤ claimed

-- The process that p made in this call placed this module elsewhere than p, and no module before it, and it has ended.
pub record IsPlacedElsewhere {A : Type 0} (script : Script) (step : HistoryStep A) (p : ℕ) (name : List ℕ)
    (found wanted : ℤ) : Type 0 where
  pub child : ℕ
  pub made : HasMade p child (call_up_to step p)
  pub place : ℕ
  pub module_there : Module
  pub known : slice_get script.setup.modules place ≡ Some module_there
  pub named : module_there.name ≡ name
  pub before_it : ArePlacedAlike step p child place
  pub base : ℕ
  pub answered : SomeSeen (PlacesModule child place base) (seen_with step)
  pub elsewhere : base ≢ base_wanted step.before.win32 p place
  pub told : (found ≡ pos base) × (wanted ≡ pos (base_wanted step.before.win32 p place))
  pub ended : has_ended step.before.win32 child ≡ true

-- p made this process in this call, and an `end` ended it.
pub record IsEndedOutside {A : Type 0} (step : HistoryStep A) (p : ℕ) (w : ℤ) : Type 0 where
  pub image : ℕ
  pub told : w ≡ pos image
  pub made : HasMade p image (call_up_to step p)
  pub ended : was_ended step.past image ≡ true

-- No program of the script has the name that p's exec asks for.
pub record HasNoProgram {A : Type 0} (script : Script) (step : HistoryStep A) (p : ℕ) : Type 0 where
  pub caller : Record
  pub known : record_of step.before.posix p ≡ Some caller
  pub name : List ℕ
  pub next : next_of script caller ≡ CallInstruction (instr.Exec name)
  pub absent : is_among name (program_names script.setup.programs) ≡ false

-- a fork is refused for its cause; whether there are too many children is the POSIX machine's to say
abbrev pub ForkRefusalHasCause : {A : Type 0} → Script → HistoryStep A → ℕ → ForkCause → Type 0
ForkRefusalHasCause script step p fork_cause.Children = Unit {0}
ForkRefusalHasCause script step p fork_cause.Rows = AreRowsClaimed script step p
ForkRefusalHasCause script step p fork_cause.Slot = SomeSeen (FindsNoSlot p) (call_up_to step p)
ForkRefusalHasCause script step p (fork_cause.Placed name found wanted) =
    IsPlacedElsewhere script step p name found wanted
ForkRefusalHasCause script step p (fork_cause.Ended w) = IsEndedOutside step p w

-- and so is an exec
abbrev pub ExecRefusalHasCause : {A : Type 0} → Script → HistoryStep A → ℕ → ExecCause → Type 0
ExecRefusalHasCause script step p exec_cause.NoEntry = HasNoProgram script step p
ExecRefusalHasCause script step p exec_cause.Slot = SomeSeen (FindsNoSlot p) (call_up_to step p)
ExecRefusalHasCause script step p (exec_cause.Ended w) = IsEndedOutside step p w
