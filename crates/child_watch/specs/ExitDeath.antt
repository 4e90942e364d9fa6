-- The death of a process that is at its end: the event is a step of the POSIX machine, and the exit word shows it.
use Rattle.std.specs.Prelude.{pos, ℤ}
use Rattle.std.proofs.Common.{◌≡◌, ℕ, ◌+◌, ◌^◌, ◌<◌, Bool, true, false, ◌&&◌, ◌||◌, not}
use Rattle.std.proofs.Common.{if◌then◌else◌, Some, None, refl, sym, ap, ◌∙◌, subst, arith}
use Rattle.std.specs.Option.{unwrap_or}
use Rattle.std.proofs.lemmas.Bool.{and_from}
use Rattle.w32_base.specs.declared.event.Event.TheVariants as event
use Rattle.w32_base.specs.declared.instr.Instr.TheVariants as instr
use Rattle.script_spec.specs.declared.script.Script.{Script}
use Rattle.vm_spec.specs.Image.{Image, value_of}
use Rattle.vm_spec.specs.Step.{Upcoming, CallInstruction, low_byte}
use Rattle.win32_spec.specs.LookupLaws.{same, before, or_left}
use Rattle.posix_spec.specs.CallLaws.{none_some}
use Rattle.vm_spec.specs.Frames.{has_frame_room}
use Rattle.posix_spec.specs.Conditions.{next_of, may_go_on}
use Rattle.posix_spec.specs.Pending.{is_running, awaits_handler}
use Rattle.posix_spec.specs.SignalActs.{is_this}
use Rattle.posix_spec.specs.DeathSteps.{is_fault as is_fault_next, exit_status, may_die, died, die_step}
use Rattle.posix_spec.specs.Numbers.{for_value}
use Rattle.posix_spec.specs.Run.{PosixStep}
use Rattle.posix_spec.specs.State.{Record}
use Rattle.posix_spec.specs.Step.{posix_step}
use Rattle.layer_spec.specs.DeathEvidence.{DeathIsTrue, ExitWordTells, exit_told}
use Rattle.layer_spec.specs.Decoding.{main_image, exit_fields}
use Rattle.layer_spec.specs.Moment.{Moment, HistoryStep}
use Rattle.layer_spec.specs.OtherLaws.{exit_fields_back}
use Rattle.layer_spec.specs.Rows.{ExitWord}
use Rattle.layer_spec.specs.Words.{row_of, main_at, exit_at}
use Rattle.child_watch.specs.declared.ending.Ending.{Ending}
use Rattle.child_watch.specs.declared.ending.Ending.TheVariants as ending
use Rattle.child_watch.specs.Ending.{status_of, is_fault, death_of, word_of}
use Rattle.child_watch.specs.ExitClause.{EndsAt, IsToEnd}

low_byte_small : (z : ℤ) → low_byte z < 256
low_byte_small z = omega arith

exit_small : (u : Upcoming) (image : Image) (v : ℕ) → exit_status u image ≡ Some v → v < 512
exit_small (CallInstruction (instr.Exit x)) image v e = omega
    (arith, ap (λ o. unwrap_or o 0) e, low_byte_small (value_of image x))
exit_small _ image v e = absurd (none_some v e)

-- the status of an ending is below 512
pub ending-small : (e : Ending) (next : Upcoming) (image : Image) → EndsAt e next image → status_of e < 512
ending-small (ending.Exit code) next image h = exit_small next image code h
ending-small (ending.Signal signal) next image h = absurd h
ending-small ending.Fault next image h = omega arith

image_small : (w : ℕ) → main_image w < 2 ^ 19
image_small w = omega arith

module _ {A : Type 0} (script : Script) (now : Moment A) (w row image : ℕ) (e : Ending)
    (h : IsToEnd script now w row image e) where
  abbrev r : Record
  r = h.at.noted

  back : row_of (row + 1) ≡ row
  back = omega arith

  may : may_die script r (status_of e) (death_of e) ≡ true
  may = by_ending e h.ends
    where
      goes_on : may_go_on r ≡ true
      goes_on = and_from (is_running r.life) (not r.due) (ap is_running h.at.runs) (ap not h.at.not_due)

      by_ending : (x : Ending) → EndsAt x h.next r.image → may_die script r (status_of x) (death_of x) ≡ true
      by_ending (ending.Exit code) ends =
          and_from (may_go_on r) (is_this code (exit_status (next_of script r) r.image)) goes_on
          (ap (is_this code) (ap (λ u. exit_status u r.image) h.at.next_is ∙ ends) ∙ same code code refl)
      by_ending (ending.Signal signal) ends = absurd ends
      by_ending ending.Fault ends =
          let at : is_fault_next (next_of script r) ≡ true = ap is_fault_next (h.at.next_is ∙ ends) in
          and_from (is_running r.life)
          ((not r.due && is_fault_next (next_of script r)) || (not (has_frame_room r.image) && awaits_handler r))
          (ap is_running h.at.runs)
          (or_left (not r.due && is_fault_next (next_of script r)) (not (has_frame_room r.image) && awaits_handler r)
          (and_from (not r.due) (is_fault_next (next_of script r)) (ap not h.at.not_due) at))

  -- The event is a step of the POSIX machine.
  pub die-step : PosixStep script now.posix (event.Die (row + 1) (pos (status_of e)) (death_of e))
      (died now.posix (row + 1) (status_of e) r.parent)
  unfolding posix_step
  die-step =
      ap (λ o. for_value o (die_step script now.posix (row + 1) (death_of e) (status_of e))) h.at.found
      ∙ ap (λ b. if b then Some (died now.posix (row + 1) (status_of e) r.parent) else None) may

  -- What the exit word tells, once it carries the image.
  told_by_word : exit_at now.win32 row ≡ word_of image e
      → exit_told now.win32 (row + 1) ≡ record { status = status_of e; image = image; fault = is_fault e }
  told_by_word word =
      ap (λ k. exit_fields (exit_at now.win32 k)) back
      ∙ (ap exit_fields word
      ∙ exit_fields_back (status_of e) image (is_fault e) (word_of image e)
      (ending-small e h.next r.image h.ends)
      (subst (λ k. k < 2 ^ 19) (h.at.own.image ∙ sym h.names) (image_small (main_at now.win32 row))) refl)

  -- It shows that the death is true.
  pub death-true : (step : HistoryStep A) → step.before.win32 ≡ now.win32 → exit_at now.win32 row ≡ word_of image e
      → DeathIsTrue step (row + 1) (pos (status_of e)) (death_of e)
  death-true step before word = by_ending e refl h.ends
    where
      tells : (fault : Bool) → is_fault e ≡ fault
          → ExitWordTells step.before.win32 (row + 1) (pos (status_of e)) fault
      tells fault is = subst (λ s. ExitWordTells s (row + 1) (pos (status_of e)) fault) (sym before) (
          let told = told_by_word word in
          record {
            image = ap (λ (x : ExitWord). x.image) told
                ∙ (h.names ∙ (sym h.at.own.image ∙ ap (λ k. main_image (main_at now.win32 k)) (sym back)));
            status = ap (λ (x : ExitWord). pos x.status) (sym told);
            by_fault = ap (λ (x : ExitWord). x.fault) told ∙ is;
          })

      by_ending : (x : Ending) → e ≡ x → EndsAt x h.next r.image
          → DeathIsTrue step (row + 1) (pos (status_of e)) (death_of e)
      by_ending (ending.Exit code) is ends =
          subst (λ d. DeathIsTrue step (row + 1) (pos (status_of e)) d) (sym (ap death_of is))
          (tells false (ap is_fault is))
      by_ending (ending.Signal signal) is ends = absurd ends
      by_ending ending.Fault is ends =
          subst (λ d. DeathIsTrue step (row + 1) (pos (status_of e)) d) (sym (ap death_of is))
          (tells true (ap is_fault is))
