-- The clause of a get of the process with a row, and that it outlasts each step beside the main thread.
use Rattle.std.proofs.Common.{◌≡◌, ℕ, ◌+◌, ◌≤◌, true, List, ◌∙◌}
use Rattle.w32_base.specs.declared.instr.Instr.{Instr}
use Rattle.w32_base.specs.declared.instr.Instr.TheVariants as instr
use Rattle.w32_base.specs.declared.call.Reply.{Reply}
use Rattle.w32_base.specs.declared.own.Own.{Own}
use Rattle.w32_base.specs.declared.part.After.{After}
use Rattle.w32_base.specs.declared.setup.Setup.{Setup}
use Rattle.script_spec.specs.declared.script.Script.{Script}
use Rattle.vm_spec.specs.Step.{CallInstruction}
use Rattle.layer_spec.specs.Moment.{Moment, Seen, HistoryStep, seen_with}
use Rattle.layer_spec.specs.Turns.{is_live_process}
use Rattle.layer_turns.specs.OwnTurns.{WentOn}
use Rattle.world_spec.specs.Notes.{IsBetweenCalls, IsAtNext}
use Rattle.world_spec.specs.NotesBeside.{between-stays, next-stays, next-kept}
use Rattle.world_spec.specs.SeenStep.{IsSeenStep, IsBeside}
use Rattle.layer_actor.specs.declared.gets.Asked.{Asked}
use Rattle.layer_actor.specs.declared.gets.Asked.TheVariants as asked
use Rattle.layer_actor.specs.declared.gets.GetStep.{GetStep}
use Rattle.layer_actor.specs.declared.gets.GetStep.TheVariants as get
use Rattle.layer_actor.specs.declared.gets.Gets.{Gets}
use Rattle.layer_actor.specs.Gets.{get_after}

-- where it goes: by its table
abbrev pub GetsGoes : Gets → Own → Setup → Reply → Gets → Own → After → Type 0
GetsGoes p old setup reply q new answer = WentOn (get_after p old reply) q new answer

abbrev pub gets_thread : Gets → ℕ
gets_thread p = 0

-- the instruction that asks for it
abbrev pub get_instr : Asked → Instr
get_instr asked.Parent = instr.GetPpid
get_instr asked.Group = instr.GetPgid
get_instr asked.Session = instr.GetSid

-- The program is at getppid, and the raw parent of its process is the process of a row.
pub record IsAtParent {A : Type 0} (script : Script) (now : Moment A) (w row parent : ℕ) : Type 0 where
  pub at : IsAtNext script now w row (CallInstruction instr.GetPpid)
  pub from : 1 ≤ parent
  pub parent_is : at.noted.parent ≡ parent + 1

-- Before the look at the own group word it is at the call that asks. Before the look at the parent it has found who
-- that is, which stays. After the call it is between two calls.
abbrev pub GetClause : {A : Type 0} → Script → (row : ℕ) → Moment A → ℕ → Asked → GetStep → Type 0
GetClause script row now w a get.Grouping = IsAtNext script now w row (CallInstruction (get_instr a))
GetClause script row now w a (get.Parent parent) = (a ≡ asked.Parent) × IsAtParent script now w row parent
GetClause script row now w a get.Done = IsBetweenCalls now w row
GetClause script row now w a get.Rest = Unit {0}

abbrev pub GetsClause : {A : Type 0} → Script → (row : ℕ) → List (Seen A) → Moment A → ℕ → Gets → Type 0
GetsClause script row past now w p = (p.row ≡ row) × GetClause script row now w p.asked p.step

module _ {A : Type 0} (script : Script) (row : ℕ) (step : HistoryStep A) (seen : IsSeenStep script step) (w : ℕ)
    (beside : IsBeside step w 0) (before : is_live_process step.before.win32 w ≡ true)
    (after : is_live_process step.after.win32 w ≡ true) where
  get_outlasts : (a : Asked) (s : GetStep) → GetClause script row step.before w a s
      → GetClause script row step.after w a s
  get_outlasts a get.Grouping h = next-stays script step seen w row (CallInstruction
      (get_instr a)) beside before after h
  get_outlasts a (get.Parent parent) h =
      let k = next-kept script step seen w row (CallInstruction instr.GetPpid) beside before h.1.at in
      (h.0, record { at = k.0; from = h.1.from; parent_is = k.1.parent ∙ h.1.parent_is })
  get_outlasts a get.Done h = between-stays script step seen w row beside before after h
  get_outlasts a get.Rest h = tt

  pub gets-outlasts : (part : Gets) → GetsClause script row step.past step.before w part
      → GetsClause script row (seen_with step) step.after w part
  gets-outlasts part h = (h.0, get_outlasts part.asked part.step h.1)
