-- The clause of a claim outlasts each step beside it.
use Rattle.std.proofs.Common.{inr, ℕ, ap, ◌∙◌}
use Rattle.script_spec.specs.declared.script.Script.{Script}
use Rattle.layer_spec.specs.Decoding.{main_of}
use Rattle.layer_spec.specs.Moment.{HistoryStep, seen_with}
use Rattle.roster.specs.declared.claim.Claim.{Claim}
use Rattle.roster.specs.declared.claim.Claim.TheVariants as claim
use Rattle.world_spec.specs.BesideLaws.{claim-stays}
use Rattle.world_spec.specs.ClaimClause.{HasClaimed, HoldsRow, ClaimClause}
use Rattle.world_spec.specs.Facts.{is_open_main}
use Rattle.world_spec.specs.SeenStep.{IsSeenStep, IsBeside}

module _ {A : Type 0} (script : Script) (step : HistoryStep A) (seen : IsSeenStep script step) (w : ℕ)
    (beside : IsBeside step w 0) where
  -- a blank row that was claimed stays blank
  has_claimed : (row : ℕ) → HasClaimed script step.past step.before.win32 w row
      → HasClaimed script (seen_with step) step.after.win32 w row
  has_claimed row h =
      let stays = claim-stays script step seen w row beside h.claimed
      (ap (λ x. is_open_main (main_of x)) h.blank.main) in
      record {
        from = h.from;
        within = h.within;
        claimed = inr h.claimed;
        blank = record {
          main = stays.main ∙ h.blank.main;
          group = stays.group ∙ h.blank.group;
          exit = stays.exit ∙ h.blank.exit;
        };
      }

  -- a row that it holds stays held
  holds_row : (row : ℕ) → HoldsRow step.past step.before.win32 w row → HoldsRow (seen_with step) step.after.win32 w row
  holds_row row h =
      let stays = claim-stays script step seen w row beside h.claimed (ap is_open_main h.main) in
      record {
        claimed = inr h.claimed;
        main = ap main_of stays.main ∙ h.main;
        group = stays.group ∙ h.group;
        exit = stays.exit ∙ h.exit;
      }

  pub claim-outlasts : (p : Claim) → ClaimClause script step.past step.before w p
      → ClaimClause script (seen_with step) step.after w p
  claim-outlasts claim.Adding h = tt
  claim-outlasts (claim.Looking row) h = has_claimed row h
  claim-outlasts (claim.Holding row old new) h = (has_claimed row h.0, h.1)
  claim-outlasts (claim.Claimed row) h = holds_row row h
  claim-outlasts claim.NoRow h = tt
  claim-outlasts claim.Rest h = tt
