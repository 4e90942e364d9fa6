-- The ways in which the top call ends, by what its parts did.
use Rattle.std.proofs.Common.{◌≡◌, ℕ, List, [], Option, inl, inr, sym, ◌∙◌, subst}
use Rattle.w32_base.specs.declared.entry.Entry.{Entry}
use Rattle.w32_base.specs.declared.entry.End.{End}
use Rattle.cyg_io.specs.Counts.{Rose}
use Rattle.cyg_io.specs.Sink.{AppendsPart}
use Rattle.std.specs.Io.KnownBytes.{Appends}
use Rattle.script_spec.specs.declared.script.Script.{Script}
use Rattle.script_spec.specs.Print.{print_of}
use Rattle.world_gen.specs.Forks.{IsForking}
use Rattle.cyg_cli.specs.declared.commands.Command.TheVariants.{Check, Make}
use Rattle.cyg_cli.specs.Commands.{Asks}
use Rattle.cyg_cli.specs.Checks.{Checks}
use Rattle.cyg_cli.specs.Outside.{Outside}
use Rattle.cyg_cli.specs.Top.{Ends, Checked, Made, MadeInPart, NotMade, IsUntouched, IsMaking}

module _ (IsJournal : Script → List Entry → End → Type 0) where
  -- a text of a script and a log was looked at
  pub checked_ends : (words : List (List ℕ)) (before after : Outside) (checked status : ℕ) (entries : List Entry)
      → Asks words Check → Checks before after checked → status ≡ checked → entries ≡ []
      → Ends IsJournal words before after status entries
  checked_ends words before after checked status entries w ends s none =
      Checked w (subst (Checks before after) (sym s) ends) none

  -- a script was made, over a source that nobody read
  pub making_ends : (n : ℕ) (words : List (List ℕ)) (before after : Outside) (status : ℕ) (entries : List Entry)
      → Asks words (Make n) → IsUntouched before after
      → IsMaking n before.held after.held before.write_faults after.write_faults status entries
      → (after.held ≡ before.held → after.write_faults ≡ before.write_faults → after ≡ before)
      → Ends IsJournal words before after status entries
  making_ends n words before after status entries w same (inl (script, forks, s, app, none)) same_all =
      Made n script w forks same app s none
  making_ends n words before after status entries w same (inr (inl (script, forks, s, app, up, none))) same_all =
      MadeInPart n script w forks same app up s none
  making_ends n words before after status entries w same (inr (inr (s, held, faults, none))) same_all =
      NotMade n w (same_all held faults) s none

-- the print of a script was written whole, by what was sent
pub made_whole : (n : ℕ) (script : Script) (text sent : List ℕ) (before after : Option (List ℕ)) (faults now status : ℕ)
    (entries : List Entry) → IsForking n script → text ≡ print_of script → sent ≡ text → Appends before after sent
    → status ≡ 0 → entries ≡ [] → IsMaking n before after faults now status entries
made_whole n script text sent before after faults now status entries forks print is whole done none =
    inl (script, forks, done, subst (Appends before after) (is ∙ print) whole, none)

-- some first bytes of it were
pub made_part : (n : ℕ) (script : Script) (text sent : List ℕ) (before after : Option (List ℕ)) (faults now status : ℕ)
    (entries : List Entry) → IsForking n script → text ≡ print_of script → sent ≡ text → AppendsPart before after sent
    → Rose faults now → status ≡ 5 → entries ≡ [] → IsMaking n before after faults now status entries
made_part n script text sent before after faults now status entries forks print is part rose failed none =
    inr (inl (script, forks, failed, subst (AppendsPart before after) (is ∙ print) part, rose, none))
