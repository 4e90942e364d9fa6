-- The clause of a kill of one process, as far as it is built: for a check only. It looks at the target's main word
-- while the kill is next in the caller's program.
use Rattle.std.specs.Prelude.{◌≡◌, ℕ, ◌+◌, ◌≤◌, pos, List, None}
use Rattle.w32_base.specs.declared.instr.Instr.TheVariants as instr
use Rattle.w32_base.specs.declared.instr.Operand.{Operand}
use Rattle.script_spec.specs.declared.script.Script.{Script}
use Rattle.vm_spec.specs.Image.{image_of, value_of}
use Rattle.vm_spec.specs.Step.{CallInstruction}
use Rattle.win32_spec.specs.Lookup.{memory_by}
use Rattle.layer_spec.specs.Moment.{Moment, Seen}
use Rattle.layer_spec.specs.Words.{row_of}
use Rattle.world_spec.specs.Notes.{IsBetweenCalls, IsAtNext}
use Rattle.kill_calls.specs.declared.one.KillStep.{KillStep}
use Rattle.kill_calls.specs.declared.one.KillStep.TheVariants as kill
use Rattle.kill_calls.specs.declared.one.KillOne.{KillOne}

-- the row of the process that calls
abbrev pub own_row : KillOne → ℕ
own_row p = row_of p.by

-- A kill is next in the process that calls. In its memory the target is the process with the target's row, one of the
-- script's, and the signal is 0.
pub record IsAtCheck {A : Type 0} (script : Script) (now : Moment A) (w : ℕ) (p : KillOne) : Type 0 where
  pub target_operand : Operand
  pub signal_operand : Operand
  pub next : IsAtNext script now w (own_row p) (CallInstruction (instr.Kill target_operand signal_operand))
  pub target_is : value_of (image_of (memory_by now.win32 w)) target_operand ≡ pos (p.target + 1)
  pub signal_is : value_of (image_of (memory_by now.win32 w)) signal_operand ≡ pos 0
  pub no_signal : p.signal ≡ None
  pub by_is : p.by ≡ own_row p + 1
  pub from : 1 ≤ p.target
  pub within : p.target ≤ script.setup.limits.rows

-- A kill with a signal isn't built, so no part stands at its steps.
abbrev pub KillStepClause : {A : Type 0} → Script → Moment A → ℕ → KillOne → KillStep → Type 0
KillStepClause script now w p kill.Checking = IsAtCheck script now w p
KillStepClause script now w p (kill.Posting x) = ⊥
KillStepClause script now w p (kill.Ending x) = ⊥
KillStepClause script now w p kill.Done = IsBetweenCalls now w (own_row p)
KillStepClause script now w p kill.Rest = Unit {0}

abbrev pub KillClause : {A : Type 0} → Script → List (Seen A) → Moment A → ℕ → KillOne → Type 0
KillClause script past now w p = KillStepClause script now w p p.step
