-- How a run ends, by what was read and what was written.
use Rattle.std.proofs.Common.{◌≡◌, ℕ, List, [], inl, inr, ◌⊎◌, subst, arith}
use Rattle.std.specs.Prelude.{Bool, length}
use Rattle.w32_base.specs.declared.entry.Entry.{Entry}
use Rattle.w32_base.specs.declared.entry.End.{End}
use Rattle.w32_base.specs.declared.entry.View.{View}
use Rattle.script_spec.specs.declared.fault.Kind.{Kind}
use Rattle.script_spec.specs.declared.script.Script.{Script}
use Rattle.script_spec.specs.FirstFault.{IsFirstFault}
use Rattle.script_spec.specs.Grammar.{IsScript}
use Rattle.layer_actor.specs.Built.{is_built}
use Rattle.cyg_io.specs.Source.{DrawsUpTo}
use Rattle.cyg_runs.specs.declared.refusal.Refusal.{Refusal}
use Rattle.cyg_runs.specs.declared.refusal.Refusal.TheVariants as refusal
use Rattle.cyg_runs.specs.Runs.{IsRefusal, IsLogOf, RunsScript}
use Rattle.cyg_runs.specs.Runs as ran
use Rattle.cyg_cli.specs.Outside.{Outside, Supply, source_of}
use Rattle.cyg_cli.specs.Runs.{Reads, ReadsRefused, ReadsTooMany, Refuses, ReadsBuilt, IsReadInPart, RunEnds}
use Rattle.cyg_cli.specs.Runs.{NoMemory, Refused, RefusedInPart, Logged, LoggedInPart}

-- no more than one byte past the limit was read
up_to : (before after : Supply) (text : List ℕ) → Reads before after text
    → DrawsUpTo 1048577 before.left after.left before.given after.given
up_to before after text h = (length text, omega (arith, h.few), h.drawn)

refuses_in_part : (before after : Supply) (r : Refusal) → Refuses before after r → IsReadInPart before after
refuses_in_part before after r h = record { faults = h.faults; drawn = by_part h.read }
  where
    by_part : ReadsRefused before after r ⊎ ReadsTooMany before after r
        → DrawsUpTo 1048577 before.left after.left before.given after.given
    by_part (inl x) = up_to before after x.text x.reads
    by_part (inr x) = (1048577, omega arith, x.drawn)

module _ (IsJournal : Script → List Entry → End → Type 0) (v : View) (before after : Outside) (status : ℕ)
    (entries : List Entry) where
  -- memory ran out when a text was read whole
  short_ends : (text : List ℕ) → after.read_faults ≡ before.read_faults
      → Reads (source_of before) (source_of after) text → after.held ≡ before.held → status ≡ 7 → entries ≡ []
      → RunEnds IsJournal v before after status entries
  short_ends text faults reads held s none =
      NoMemory (record { faults = faults; drawn = up_to (source_of before) (source_of after) text reads }) held s none

  pub refusal_ends : (r : Refusal) → Refuses (source_of before) (source_of after) r
      → IsRefusal r before.held after.held before.write_faults after.write_faults status entries
      → RunEnds IsJournal v before after status entries
  refusal_ends r h (inl (s, app, none)) = Refused r h app s none
  refusal_ends r h (inr (inl (s, app, rose, none))) = RefusedInPart r h app rose s none
  refusal_ends r h (inr (inr (s, held, none))) =
      NoMemory (refuses_in_part (source_of before) (source_of after) r h) held s none

  log_ends : (script : Script) (run : List Entry) (end : End) → ReadsBuilt (source_of before) (source_of after) script
      → IsJournal script run end
      → IsLogOf v run end before.held after.held before.write_faults after.write_faults status entries
      → RunEnds IsJournal v before after status entries
  log_ends script run end reads journal (inl (s, app, same)) =
      Logged script end reads (rw same journal) (rw same app) s
  log_ends script run end reads journal (inr (s, app, rose, same)) =
      LoggedInPart script end reads (rw same journal) (rw same app) rose s

  -- a text was read that has a fault, and the line of that fault is what was told
  pub fault_ends : (line : ℕ) (kind : Kind) (text : List ℕ) → after.read_faults ≡ before.read_faults
      → Reads (source_of before) (source_of after) text → IsFirstFault text line kind → (l : ℕ) (k : Kind) → l ≡ line
      → k ≡ kind
      → IsRefusal (refusal.Fault l k) before.held after.held before.write_faults after.write_faults status entries
      → RunEnds IsJournal v before after status entries
  fault_ends line kind text faults reads fault l k same_line same_kind told =
      refusal_ends (refusal.Fault l k)
      (record {
        faults = faults;
        read = inl (record { text = text; reads = reads; is = rw (same_line, same_kind) fault });
      }) told

  run_ends : (script : Script) (text : List ℕ) → after.read_faults ≡ before.read_faults
      → Reads (source_of before) (source_of after) text → IsScript text script
      → RunsScript (IsJournal script) (is_built script) v before.held after.held before.write_faults after.write_faults
      status entries → RunEnds IsJournal v before after status entries
  run_ends script text faults reads spells (ran.Unbuilt unbuilt told) =
      refusal_ends refusal.Unbuilt
      (record {
        faults = faults;
        read = inl (record {
          text = text;
          reads = reads;
          is =
              (script, spells, unbuilt);
        });
      }) told
  run_ends script text faults reads spells (ran.Ran run end built journal told) =
      log_ends script run end
      (record { faults = faults; text = text; reads = reads; spells = spells; built = built }) journal told
  run_ends script text faults reads spells (ran.Left built s held none) = short_ends text faults reads held s none

  -- a script was read, and run where the parts are built for it
  pub script_ends : (script : Script) (text : List ℕ) → after.read_faults ≡ before.read_faults
      → Reads (source_of before) (source_of after) text → IsScript text script → (built : Bool)
      → built ≡ is_built script
      → RunsScript (IsJournal script) built v before.held after.held before.write_faults after.write_faults
      status entries → RunEnds IsJournal v before after status entries
  script_ends script text faults reads spells built is ran =
      run_ends script text faults reads spells
      (subst (λ b. RunsScript (IsJournal script) b v before.held after.held before.write_faults after.write_faults
      status entries) is ran)
