-- The clause of a kill of one process outlasts each step beside it.
use Rattle.std.proofs.Common.{◌≡◌, ℕ, true, ap, ◌∙◌}
use Rattle.script_spec.specs.declared.script.Script.{Script}
use Rattle.vm_spec.specs.Image.{value_of}
use Rattle.win32_spec.specs.MemoryEffects.{HaveRegisters}
use Rattle.layer_spec.specs.Moment.{HistoryStep, seen_with}
use Rattle.layer_spec.specs.Turns.{is_live_process}
use Rattle.world_spec.specs.ImageLaws.{image-stays, own-named}
use Rattle.world_spec.specs.NotesBeside.{between-stays, next-stays}
use Rattle.world_spec.specs.SeenStep.{IsSeenStep, IsBeside}
use Rattle.kill_calls.specs.KillClause.{own_row, IsAtCheck, KillStepClause, KillClause}
use Rattle.kill_calls.specs.declared.one.KillStep.{KillStep}
use Rattle.kill_calls.specs.declared.one.KillStep.TheVariants as kill
use Rattle.kill_calls.specs.declared.one.KillOne.{KillOne}

module _ {A : Type 0} (script : Script) (registers : HaveRegisters script) (step : HistoryStep A)
    (seen : IsSeenStep script step) (w : ℕ) (beside : IsBeside step w 0)
    (before : is_live_process step.before.win32 w ≡ true) (after : is_live_process step.after.win32 w ≡ true) where
  check_stays : (p : KillOne) → IsAtCheck script step.before w p → IsAtCheck script step.after w p
  check_stays p h =
      let image = image-stays script registers step seen w beside
      (own-named step.before.win32 w (own_row p) h.next.own) before after in
      record {
        target_operand = h.target_operand;
        signal_operand = h.signal_operand;
        next = next-stays script step seen w (own_row p) _ beside before after h.next;
        target_is = ap (λ i. value_of i h.target_operand) image ∙ h.target_is;
        signal_is = ap (λ i. value_of i h.signal_operand) image ∙ h.signal_is;
        no_signal = h.no_signal;
        by_is = h.by_is;
        from = h.from;
        within = h.within;
      }

  by_step : (p : KillOne) (s : KillStep) → KillStepClause script step.before w p s
      → KillStepClause script step.after w p s
  by_step p kill.Checking h = check_stays p h
  by_step p (kill.Posting x) h = h
  by_step p (kill.Ending x) h = h
  by_step p kill.Done h = between-stays script step seen w (own_row p) beside before after h
  by_step p kill.Rest h = tt

  pub kill-outlasts : (p : KillOne) → KillClause script step.past step.before w p
      → KillClause script (seen_with step) step.after w p
  kill-outlasts p h = by_step p p.step h
