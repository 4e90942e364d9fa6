-- What a run of a script does to the sink, with its status and its journal.
use Rattle.std.specs.Prelude.{◌≡◌, ℕ, Bool, true, false, ◌⊎◌, List, [], Option}
use Rattle.std.specs.Io.KnownBytes.{Appends}
use Rattle.w32_base.specs.declared.entry.Entry.{Entry}
use Rattle.w32_base.specs.declared.entry.End.{End}
use Rattle.w32_base.specs.declared.entry.End.TheVariants.{Quiet, Given, Budget}
use Rattle.w32_base.specs.declared.entry.View.{View}
use Rattle.log_spec.specs.Views.{log_text}
use Rattle.cyg_io.specs.Counts.{Rose}
use Rattle.cyg_io.specs.Sink.{AppendsPart}
use Rattle.cyg_runs.specs.declared.refusal.Refusal.{Refusal}
use Rattle.cyg_runs.specs.declared.refusal.Refusal.TheVariants as refusal
use Rattle.cyg_runs.specs.Refusals.{refusal_line}

-- the status of a run that ended so
abbrev pub status_of : End → ℕ
status_of Quiet = 0
status_of Given = 0
status_of Budget = 6

-- the line of a refusal was written; or a part of it, where the sink had a fault; or memory ran out before
abbrev pub IsRefusal : Refusal → Option (List ℕ) → Option (List ℕ) → ℕ → ℕ → ℕ → List Entry → Type 0
IsRefusal r before after faults now status entries =
    ((status ≡ 3) × Appends before after (refusal_line r) × (entries ≡ []))
    ⊎ ((status ≡ 5) × AppendsPart before after (refusal_line r) × Rose faults now × (entries ≡ []))
    ⊎ ((status ≡ 7) × (after ≡ before) × (entries ≡ []))

-- the log was written, or a part of it where the sink had a fault
abbrev pub IsLogOf : View → List Entry → End → Option (List ℕ) → Option (List ℕ) → ℕ → ℕ → ℕ → List Entry → Type 0
IsLogOf v ran end before after faults now status entries =
    ((status ≡ status_of end) × Appends before after (log_text v ran end) × (entries ≡ ran))
    ⊎ ((status ≡ 5) × AppendsPart before after (log_text v ran end) × Rose faults now × (entries ≡ ran))

-- What a run comes to of a script for which the parts are built or not. `IsJournal` says which entries, with an end,
-- are the journal of a run of the script.
pub data RunsScript (IsJournal : List Entry → End → Type 0) (built : Bool) (v : View) (before after : Option (List ℕ))
    (faults now status : ℕ) (entries : List Entry) : Type 0 where
  -- it is refused
  Unbuilt : built ≡ false → IsRefusal refusal.Unbuilt before after faults now status entries
      → RunsScript IsJournal built v before after faults now status entries
  -- the log of a run of it was written
  Ran : (ran : List Entry) (end : End) → built ≡ true → IsJournal ran end
      → IsLogOf v ran end before after faults now status entries
      → RunsScript IsJournal built v before after faults now status entries
  -- memory ran out before the first directive
  Left : built ≡ true → status ≡ 7 → after ≡ before → entries ≡ []
      → RunsScript IsJournal built v before after faults now status entries
