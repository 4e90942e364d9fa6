-- To which thread a handle was answered last: while it names something it isn't answered again, so that thread stays
-- the same.
use Rattle.std.proofs.Common.{◌≡◌, ℕ, Bool, true, false, ◌&&◌, Option, Some, None, refl, sym, ap}
use Rattle.std.proofs.Common.{◌∙◌, subst}
use Rattle.std.proofs.lemmas.Bool.{eqb-true}
use Rattle.w32_base.specs.declared.call.Call.{Call}
use Rattle.w32_base.specs.declared.entry.Directive.{Directive}
use Rattle.w32_base.specs.declared.entry.Directive.TheVariants as directive
use Rattle.w32_base.specs.declared.entry.Outcome.{Outcome}
use Rattle.script_spec.specs.declared.script.Script.{Script}
use Rattle.win32_spec.specs.CallEffects.{by_bool}
use Rattle.win32_spec.specs.Lookup.{process_in}
use Rattle.win32_spec.specs.LookupLaws.{and_true, not_none}
use Rattle.win32_spec.specs.Named.{named_by}
use Rattle.win32_spec.specs.Ready.{is_ready}
use Rattle.win32_spec.specs.Run.{ReadyTurn, StepBy}
use Rattle.win32_spec.specs.State.{Win32State}
use Rattle.layer_spec.specs.Moment.{HistoryStep, seen_with}
use Rattle.layer_spec.specs.Turns.{is_process, is_process_turn}
use Rattle.world_spec.specs.Made.{is_handle_answered, opener_of}
use Rattle.world_spec.specs.OpenLawsAnswers.{answered-free}
use Rattle.world_spec.specs.SeenStep.{IsSeenStep}

module _ (script : Script) (s : Win32State) (v h names : ℕ) (named : named_by s v h ≡ Some names) (called : Option Call)
    (came : Outcome) (new : Win32State) where
  not_in_turn : (slot t : ℕ) → ReadyTurn script s slot t called came new
      → (is_process (process_in s.processes slot) v && is_handle_answered came h) ≡ true → ⊥
  not_in_turn slot t turn both =
      let is = and_true (is_process (process_in s.processes slot) v) (is_handle_answered came h) both in
      let number : turn.process.number ≡ v =
      eqb-true turn.process.number v (ap (λ o. is_process o v) (sym turn.posted.thread.process) ∙ is.0) in
      not_none (named_by s v h) names named
      (subst (λ w. named_by s w h ≡ None) number
      (answered-free script s turn.process.number t turn.reply turn.mid turn.thread.posted turn.posted.step h
      (ap (λ o. is_handle_answered o h) (sym turn.answered) ∙ is.1)))

  -- a handle that names something isn't answered as a new one to its process
  not_answered : (d : Directive) → StepBy script s d called came new
      → (is_process_turn s d v && is_handle_answered came h) ≡ false
  not_answered (directive.Turn slot t) step =
      by_bool (is_ready s slot t)
      (λ ready turn. by_test (is_process (process_in s.processes slot) v && is_handle_answered came h)
      (not_in_turn slot t turn))
      (λ idle rest. no_answer (is_process (process_in s.processes slot) v)
      (ap (λ o. is_handle_answered o h) rest.1)) step
    where
      by_test : (b : Bool) → (b ≡ true → ⊥) → b ≡ false
      by_test true never = absurd (never refl)
      by_test false never = refl

      no_answer : (b : Bool) → is_handle_answered came h ≡ false → (b && is_handle_answered came h) ≡ false
      no_answer true e = e
      no_answer false e = refl
  not_answered (directive.End slot) step = refl
  not_answered (directive.Key b) step = refl

pub opener-stays : {A : Type 0} → (script : Script) (step : HistoryStep A) → IsSeenStep script step → (v h names : ℕ)
    → named_by step.before.win32 v h ≡ Some names → opener_of (seen_with step) v h ≡ opener_of step.past v h
opener-stays script step seen v h names named =
    rw (not_answered script step.before.win32 v h names named step.entry.call step.entry.outcome step.after.win32
    step.entry.directive seen.win32) refl
