-- How a run of a script ends, from the bytes of its text to those of its log.
use Rattle.std.specs.Prelude.{◌≡◌, ℕ, ◌≤◌, ◌⊎◌, true, false, List, [], length, Option, IfSome}
use Rattle.std.specs.Io.KnownBytes.{Appends}
use Rattle.w32_base.specs.declared.entry.Entry.{Entry}
use Rattle.w32_base.specs.declared.entry.End.{End}
use Rattle.w32_base.specs.declared.entry.View.{View}
use Rattle.script_spec.specs.declared.fault.Kind.TheVariants.{Large}
use Rattle.script_spec.specs.declared.script.Script.{Script}
use Rattle.script_spec.specs.FirstFault.{IsFirstFault}
use Rattle.script_spec.specs.Grammar.{IsScript}
use Rattle.log_spec.specs.Views.{log_text}
use Rattle.layer_actor.specs.Built.{is_built}
use Rattle.cyg_io.specs.Counts.{Rose, RoseBy}
use Rattle.cyg_io.specs.Source.{Draws, DrawsUpTo}
use Rattle.cyg_io.specs.Sink.{AppendsPart}
use Rattle.cyg_runs.specs.declared.refusal.Refusal.{Refusal}
use Rattle.cyg_runs.specs.declared.refusal.Refusal.TheVariants as refusal
use Rattle.cyg_runs.specs.Refusals.{refusal_line}
use Rattle.cyg_runs.specs.Runs.{status_of}
use Rattle.cyg_cli.specs.Outside.{Outside, Supply, source_of, IsUnwritten}

-- What a text that isn't run is: it has this first fault; or it is a script's, of which a word isn't built.
abbrev pub IsRefused : List ℕ → Refusal → Type 0
IsRefused text (refusal.Fault line kind) = IsFirstFault text line kind
IsRefused text refusal.Unbuilt = (script : Script) × IsScript text script × (is_built script ≡ false)

-- The source was read to its end, and this text is what it gave, of no more bytes than a script may have. Where it told
-- its bytes, it gave all of them.
pub record Reads (before after : Supply) (text : List ℕ) : Type 0 where
  pub told : IfSome before.left (λ left. text ≡ left)
  pub few : length text ≤ 1048576
  pub drawn : Draws (length text) before.left after.left before.given after.given
  pub ended : RoseBy 1 before.ends after.ends

-- a text was read that is refused so
pub record ReadsRefused (before after : Supply) (r : Refusal) : Type 0 where
  pub text : List ℕ
  pub reads : Reads before after text
  pub is : IsRefused text r

-- One byte more was read than a script may have, which is the fault of line 0.
pub record ReadsTooMany (before after : Supply) (r : Refusal) : Type 0 where
  pub drawn : Draws 1048577 before.left after.left before.given after.given
  pub ends : after.ends ≡ before.ends
  pub is : r ≡ refusal.Fault 0 Large

-- the source had no fault, and what was read of it is refused so
pub record Refuses (before after : Supply) (r : Refusal) : Type 0 where
  pub faults : after.faults ≡ before.faults
  pub read : ReadsRefused before after r ⊎ ReadsTooMany before after r

-- the source had no fault, and what was read of it is the text of this script, of which every word is built
pub record ReadsBuilt (before after : Supply) (script : Script) : Type 0 where
  pub faults : after.faults ≡ before.faults
  pub text : List ℕ
  pub reads : Reads before after text
  pub spells : IsScript text script
  pub built : is_built script ≡ true

-- the source had a fault before it answered its end
pub record IsCutOff (before after : Supply) : Type 0 where
  pub fault : RoseBy 1 before.faults after.faults
  pub drawn : DrawsUpTo 1048576 before.left after.left before.given after.given
  pub ends : after.ends ≡ before.ends

-- the source had no fault, and so much of it was read at most
pub record IsReadInPart (before after : Supply) : Type 0 where
  pub faults : after.faults ≡ before.faults
  pub drawn : DrawsUpTo 1048577 before.left after.left before.given after.given

-- The ways in which a run ends that writes this view, with its status and its journal. `IsJournal` says which entries,
-- with an end, are the journal of a run of a script.
pub data RunEnds (IsJournal : Script → List Entry → End → Type 0) (v : View) (before after : Outside) (status : ℕ)
    (entries : List Entry) : Type 0 where
  -- the source had a fault, and nothing is written
  Unread : IsCutOff (source_of before) (source_of after) → IsUnwritten before after → status ≡ 4 → entries ≡ []
      → RunEnds IsJournal v before after status entries
  -- memory ran out before the first directive, and nothing is written
  NoMemory : IsReadInPart (source_of before) (source_of after) → after.held ≡ before.held → status ≡ 7 → entries ≡ []
      → RunEnds IsJournal v before after status entries
  -- the line that says why the text is refused was written
  Refused : (r : Refusal) → Refuses (source_of before) (source_of after) r
      → Appends before.held after.held (refusal_line r) → status ≡ 3 → entries ≡ []
      → RunEnds IsJournal v before after status entries
  -- the sink had a fault in it
  RefusedInPart : (r : Refusal) → Refuses (source_of before) (source_of after) r
      → AppendsPart before.held after.held (refusal_line r) → Rose before.write_faults after.write_faults → status ≡ 5
      → entries ≡ [] → RunEnds IsJournal v before after status entries
  -- the script was run, and the log of its journal was written
  Logged : (script : Script) (end : End) → ReadsBuilt (source_of before) (source_of after) script
      → IsJournal script entries end → Appends before.held after.held (log_text v entries end) → status ≡ status_of end
      → RunEnds IsJournal v before after status entries
  -- the sink had a fault in the log
  LoggedInPart : (script : Script) (end : End) → ReadsBuilt (source_of before) (source_of after) script
      → IsJournal script entries end → AppendsPart before.held after.held (log_text v entries end)
      → Rose before.write_faults after.write_faults → status ≡ 5 → RunEnds IsJournal v before after status entries

-- A line that says why a text is refused was written whole. Where the source told its bytes, they are refused so.
pub record IsDeclined (left before now : Option (List ℕ)) : Type 0 where
  pub cause : Refusal
  pub written : Appends before now (refusal_line cause)
  pub text : IfSome left (λ text. IsRefused text cause)

-- These are the entries of the journal of a run of a script, of which every word is built. Where the source told its
-- bytes, they are that script's text.
pub record IsRunOf (IsJournal : Script → List Entry → End → Type 0) (left : Option (List ℕ)) (entries : List Entry)
    : Type 0 where
  pub script : Script
  pub end : End
  pub text : IfSome left (λ text. IsScript text script)
  pub built : is_built script ≡ true
  pub journal : IsJournal script entries end

-- The log of such a journal was written whole in this view, with the status of its end.
pub record IsLogged (IsJournal : Script → List Entry → End → Type 0) (v : View) (left before now : Option (List ℕ))
    (status : ℕ) (entries : List Entry) : Type 0 where
  pub run : IsRunOf IsJournal left entries
  pub written : Appends before now (log_text v entries run.end)
  pub status_is : status ≡ status_of run.end

-- the source was read to its end, or to one byte past the limit
abbrev pub IsRead : (ends ends_now given given_now : ℕ) → Type 0
IsRead ends ends_now given given_now = RoseBy 1 ends ends_now ⊎ RoseBy 1048577 given given_now

-- If the text is a script's of which every word is built, it was run to the end of its schedule; or until the journal
-- had as many entries as its budget; or memory ran out. If it is refused, it was; or memory ran out.
pub record IsRunOrShort (status : ℕ) (entries : List Entry) (text : List ℕ) : Type 0 where
  pub runs : (script : Script) → IsScript text script → is_built script ≡ true
      → (status ≡ 0) ⊎ ((status ≡ 6) × (length entries ≡ script.setup.limits.budget)) ⊎ (status ≡ 7)
  pub refuses : (r : Refusal) → IsRefused text r → (status ≡ 3) ⊎ (status ≡ 7)

-- a status that goes with a line that was written whole, or that of memory that ran out
abbrev pub IsRunStatus : ℕ → Type 0
IsRunStatus status = (status ≡ 0) ⊎ (status ≡ 3) ⊎ (status ≡ 6) ⊎ (status ≡ 7)
