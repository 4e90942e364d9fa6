-- What the words and the status of the top call say, by the way in which it ended.
use Rattle.std.proofs.Common.{◌≡◌, ◌≢◌, ℕ, refl, ap, subst, List, [], arith, inl, inr}
use Rattle.w32_base.specs.declared.entry.Entry.{Entry}
use Rattle.w32_base.specs.declared.entry.End.{End}
use Rattle.w32_base.specs.declared.entry.View.{View}
use Rattle.script_spec.specs.declared.script.Script.{Script}
use Rattle.world_gen.specs.Forks.{IsForking}
use Rattle.cyg_io.specs.Counts.{Rose, RoseBy}
use Rattle.cyg_cli.specs.Outside.{Outside}
use Rattle.cyg_cli.specs.Top.{Ends, OtherWords, Ran, Checked, Made, MadeInPart, NotMade, IsUntouched, IsMaking}
use Rattle.cyg_cli.specs.Checks.{Checks, IsDenied}
use Rattle.cyg_cli.specs.Runs.{RunEnds, IsRunOf}
use Rattle.cyg_cli.specs.declared.commands.Command.TheVariants.{Run, Check, Make}
use Rattle.cyg_cli.specs.Commands.{Asks, IsNoCommand}
use Rattle.cyg_cli.proofs.Asked.{run_no_make, run_no_check, check_no_make, no_command, same_make, same_view}
use Rattle.cyg_cli.proofs.CheckStatuses as check
use Rattle.cyg_cli.proofs.RunStatuses as run

as_before : (before after : Outside) → after ≡ before → IsUntouched before after
as_before before after e = rw e (record { left = refl; read_faults = refl; given = refl; ends = refl })

module _ (IsJournal : Script → List Entry → End → Type 0) (words : List (List ℕ)) (before after : Outside) (status : ℕ)
    (entries : List Entry) where
  -- what words of `run` come to
  pub run_told : Ends IsJournal words before after status entries → (v : View) → Asks words (Run v)
      → RunEnds IsJournal v before after status entries
  run_told (OtherWords w same s none) v is = absurd (no_command words (Run v) w is)
  run_told (Ran other w ends) v is =
      subst (λ x. RunEnds IsJournal x before after status entries) (same_view words other v w is) ends
  run_told (Checked w c none) v is = absurd (run_no_check words v is w)
  run_told (Made n script w forks same app s none) v is = absurd (run_no_make words v n is w)
  run_told (MadeInPart n script w forks same app up s none) v is = absurd (run_no_make words v n is w)
  run_told (NotMade n w same s none) v is = absurd (run_no_make words v n is w)

  -- what words of `check` come to
  pub check_told : Ends IsJournal words before after status entries → Asks words Check
      → Checks before after status × (entries ≡ [])
  check_told (OtherWords w same s none) is = absurd (no_command words Check w is)
  check_told (Ran v w ends) is = absurd (run_no_check words v w is)
  check_told (Checked w c none) is = (c, none)
  check_told (Made n script w forks same app s none) is = absurd (check_no_make words n is w)
  check_told (MadeInPart n script w forks same app up s none) is = absurd (check_no_make words n is w)
  check_told (NotMade n w same s none) is = absurd (check_no_make words n is w)

  -- what words of `make` come to
  abbrev MakesOf : ℕ → Type 0
  MakesOf n = IsMaking n before.held after.held before.write_faults after.write_faults status entries
      × IsUntouched before after

  pub made_told : Ends IsJournal words before after status entries → (n : ℕ) → Asks words (Make n) → MakesOf n
  made_told (OtherWords w same s none) n is = absurd (no_command words (Make n) w is)
  made_told (Ran v w ends) n is = absurd (run_no_make words v n w is)
  made_told (Checked w c none) n is = absurd (check_no_make words n w is)
  made_told (Made m script w forks same app s none) n is =
      (inl (script, subst (λ k. IsForking k script) (same_make words m n w is) forks, s, app, none), same)
  made_told (MadeInPart m script w forks same app up s none) n is =
      (inr (inl (script, subst (λ k. IsForking k script) (same_make words m n w is) forks, s, app, up, none)), same)
  made_told (NotMade m w same s none) n is =
      (inr (inr (s, ap (λ o. o.held) same, ap (λ o. o.write_faults) same, none)), as_before before after same)

  -- 2 is the answer exactly where the words are no command's
  pub other_told : Ends IsJournal words before after status entries
      → (status ≡ 2 → IsNoCommand words) × (IsNoCommand words → status ≡ 2)
  other_told (OtherWords w same s none) = ((λ t. w), (λ no. s))
  other_told (Ran v w ends) = (
    (λ t. absurd (run.not_two IsJournal v before after status entries ends t)),
    (λ no. absurd (no_command words (Run v) no w)),
  )
  other_told (Checked w c none) =
      ((λ t. absurd (check.not_two before after status c t)), (λ no. absurd (no_command words Check no w)))
  other_told (Made n script w forks same app s none) =
      ((λ t. absurd (omega (arith, t, s))), (λ no. absurd (no_command words (Make n) no w)))
  other_told (MadeInPart n script w forks same app up s none) =
      ((λ t. absurd (omega (arith, t, s))), (λ no. absurd (no_command words (Make n) no w)))
  other_told (NotMade n w same s none) =
      ((λ t. absurd (omega (arith, t, s))), (λ no. absurd (no_command words (Make n) no w)))

  -- nothing is then read or written
  pub untouched : Ends IsJournal words before after status entries → status ≡ 2 → after ≡ before
  untouched (OtherWords w same s none) t = same
  untouched (Ran v w ends) t = absurd (run.not_two IsJournal v before after status entries ends t)
  untouched (Checked w c none) t = absurd (check.not_two before after status c t)
  untouched (Made n script w forks same app s none) t = absurd (omega (arith, t, s))
  untouched (MadeInPart n script w forks same app up s none) t = absurd (omega (arith, t, s))
  untouched (NotMade n w same s none) t = absurd (omega (arith, t, s))

  -- 4 comes with a fault of the source, 5 with one of the sink, and with 4 and 7 nothing is written
  pub at_four : Ends IsJournal words before after status entries → status ≡ 4
      → Rose before.read_faults after.read_faults × (after.held ≡ before.held)
  at_four (OtherWords w same s none) t = absurd (omega (arith, t, s))
  at_four (Ran v w ends) t = run.at_four IsJournal v before after status entries ends t
  at_four (Checked w c none) t = check.at_four before after status c t
  at_four (Made n script w forks same app s none) t = absurd (omega (arith, t, s))
  at_four (MadeInPart n script w forks same app up s none) t = absurd (omega (arith, t, s))
  at_four (NotMade n w same s none) t = absurd (omega (arith, t, s))

  pub at_five : Ends IsJournal words before after status entries → status ≡ 5
      → Rose before.write_faults after.write_faults
  at_five (OtherWords w same s none) t = absurd (omega (arith, t, s))
  at_five (Ran v w ends) t = run.at_five IsJournal v before after status entries ends t
  at_five (Checked w c none) t = check.at_five before after status c t
  at_five (Made n script w forks same app s none) t = absurd (omega (arith, t, s))
  at_five (MadeInPart n script w forks same app up s none) t = up
  at_five (NotMade n w same s none) t = absurd (omega (arith, t, s))

  pub at_seven : Ends IsJournal words before after status entries → status ≡ 7
      → (after.held ≡ before.held) × (entries ≡ [])
  at_seven (OtherWords w same s none) t = absurd (omega (arith, t, s))
  at_seven (Ran v w ends) t = run.at_seven IsJournal v before after status entries ends t
  at_seven (Checked w c none) t = (check.at_seven before after status c t, none)
  at_seven (Made n script w forks same app s none) t = absurd (omega (arith, t, s))
  at_seven (MadeInPart n script w forks same app up s none) t = absurd (omega (arith, t, s))
  at_seven (NotMade n w same s none) t = (ap (λ o. o.held) same, none)

  -- 6 comes where the source was read to its end
  pub at_six : Ends IsJournal words before after status entries → status ≡ 6 → RoseBy 1 before.ends after.ends
  at_six (OtherWords w same s none) t = absurd (omega (arith, t, s))
  at_six (Ran v w ends) t = run.ended IsJournal v before after status entries ends (inr t)
  at_six (Checked w c none) t = absurd (check.not_six before after status c t)
  at_six (Made n script w forks same app s none) t = absurd (omega (arith, t, s))
  at_six (MadeInPart n script w forks same app up s none) t = absurd (omega (arith, t, s))
  at_six (NotMade n w same s none) t = absurd (omega (arith, t, s))

  -- a journal that is answered is a run's
  pub journal_told : Ends IsJournal words before after status entries → entries ≢ []
      → IsRunOf IsJournal before.left entries
  journal_told (OtherWords w same s none) some = absurd (some none)
  journal_told (Ran v w ends) some = run.journal_told IsJournal v before after status entries ends some
  journal_told (Checked w c none) some = absurd (some none)
  journal_told (Made n script w forks same app s none) some = absurd (some none)
  journal_told (MadeInPart n script w forks same app up s none) some = absurd (some none)
  journal_told (NotMade n w same s none) some = absurd (some none)

  -- 1 is a status of `check` alone
  asks_check : Ends IsJournal words before after status entries → status ≡ 1 → Asks words Check
  asks_check (OtherWords w same s none) t = absurd (omega (arith, t, s))
  asks_check (Ran v w ends) t = absurd (run.not_one IsJournal v before after status entries ends t)
  asks_check (Checked w c none) t = w
  asks_check (Made n script w forks same app s none) t = absurd (omega (arith, t, s))
  asks_check (MadeInPart n script w forks same app up s none) t = absurd (omega (arith, t, s))
  asks_check (NotMade n w same s none) t = absurd (omega (arith, t, s))

  pub denied_told : Ends IsJournal words before after status entries → status ≡ 1
      → Asks words Check × IsDenied before.left before.held after.held
  denied_told ends one =
      let is = asks_check ends one in
      (is, check.denied before after status (check_told ends is).0 one)
