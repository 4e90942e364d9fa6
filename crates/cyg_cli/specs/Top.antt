-- How the top call ends.
use Rattle.std.specs.Prelude.{◌≡◌, ℕ, ◌⊎◌, List, [], Option}
use Rattle.std.specs.Io.KnownBytes.{Appends}
use Rattle.w32_base.specs.declared.entry.Entry.{Entry}
use Rattle.w32_base.specs.declared.entry.End.{End}
use Rattle.w32_base.specs.declared.entry.View.{View}
use Rattle.script_spec.specs.declared.script.Script.{Script}
use Rattle.script_spec.specs.Print.{print_of}
use Rattle.world_gen.specs.Forks.{IsForking}
use Rattle.cyg_io.specs.Counts.{Rose}
use Rattle.cyg_io.specs.Sink.{AppendsPart}
use Rattle.cyg_cli.specs.declared.commands.Command.TheVariants.{Run, Check, Make}
use Rattle.cyg_cli.specs.Commands.{Asks, IsNoCommand}
use Rattle.cyg_cli.specs.Outside.{Outside}
use Rattle.cyg_cli.specs.Checks.{Checks}
use Rattle.cyg_cli.specs.Runs.{RunEnds}

-- the source is as it was
pub record IsUntouched (before after : Outside) : Type 0 where
  pub left : after.left ≡ before.left
  pub read_faults : after.read_faults ≡ before.read_faults
  pub given : after.given ≡ before.given
  pub ends : after.ends ≡ before.ends

-- The ways in which the top call ends, with its status and its journal. `IsJournal` says which entries, with an end,
-- are the journal of a run of a script.
pub data Ends (IsJournal : Script → List Entry → End → Type 0) (words : List (List ℕ)) (before after : Outside)
    (status : ℕ) (entries : List Entry) : Type 0 where
  -- the words aren't accepted, and nothing is read or written
  OtherWords : IsNoCommand words → after ≡ before → status ≡ 2 → entries ≡ []
      → Ends IsJournal words before after status entries
  -- a script was read, and run or refused
  Ran : (v : View) → Asks words (Run v) → RunEnds IsJournal v before after status entries
      → Ends IsJournal words before after status entries
  -- a text of a script and a log was read, and what it is was written
  Checked : Asks words Check → Checks before after status → entries ≡ []
      → Ends IsJournal words before after status entries
  -- the script of so many forks was written; the source isn't read
  Made : (n : ℕ) (script : Script) → Asks words (Make n) → IsForking n script → IsUntouched before after
      → Appends before.held after.held (print_of script) → status ≡ 0 → entries ≡ []
      → Ends IsJournal words before after status entries
  -- the sink had a fault in it
  MadeInPart : (n : ℕ) (script : Script) → Asks words (Make n) → IsForking n script → IsUntouched before after
      → AppendsPart before.held after.held (print_of script) → Rose before.write_faults after.write_faults → status ≡ 5
      → entries ≡ [] → Ends IsJournal words before after status entries
  -- memory ran out before anything was written of it
  NotMade : (n : ℕ) → Asks words (Make n) → after ≡ before → status ≡ 7 → entries ≡ []
      → Ends IsJournal words before after status entries

-- the script of so many forks was written, or a part of it where the sink had a fault, or memory ran out before
abbrev pub IsMaking : ℕ → Option (List ℕ) → Option (List ℕ) → ℕ → ℕ → ℕ → List Entry → Type 0
IsMaking n before after faults now status entries =
    ((script : Script) × IsForking n script × (status ≡ 0) × Appends before after (print_of script) × (entries ≡ []))
    ⊎ ((script : Script) × IsForking n script × (status ≡ 5) × AppendsPart before after (print_of script)
    × Rose faults now × (entries ≡ []))
    ⊎ ((status ≡ 7) × (after ≡ before) × (now ≡ faults) × (entries ≡ []))
