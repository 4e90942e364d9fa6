-- What a text is: a script with a fault, a script and a log with a fault, or a script and a log with its verdict.
use Rattle.std.specs.Prelude.{◌≡◌, ℕ, List, Some}
use Rattle.w32_base.specs.declared.event.Event.{Event}
use Rattle.script_spec.specs.declared.script.Script.{Script}
use Rattle.script_spec.specs.FirstFault.{fault_of}
use Rattle.script_spec.specs.Grammar.{IsScript}
use Rattle.log_spec.specs.EventsText.{IsEventsText, IsLogFault}
use Rattle.run_check.specs.declared.verdict.Verdict.{Verdict}
use Rattle.run_check.specs.declared.judging.Judged.{Judged}
use Rattle.run_check.specs.declared.judging.Judged.TheVariants as judged
use Rattle.run_check.specs.Judged.{IsVerdict}
use Rattle.run_check.specs.Parts.{AreParts}

-- the log is the text of these events, and this is their verdict
pub record HasVerdict (script : Script) (log : List ℕ) (verdict : Verdict) : Type 0 where
  pub events : List Event
  pub log_is : IsEventsText script log events
  pub verdict_is : IsVerdict script events verdict

-- what a log is, given the script
abbrev pub JudgesLog : Script → List ℕ → Judged → Type 0
JudgesLog script log (judged.ScriptFault line kind) = ⊥
JudgesLog script log (judged.LogFault line) = IsLogFault script log line
JudgesLog script log (judged.Verdict verdict) = HasVerdict script log verdict

-- the text is one of a script, and this is what the log is
pub record IsOfScript (text log : List ℕ) (j : Judged) : Type 0 where
  pub script : Script
  pub script_is : IsScript text script
  pub log_is : JudgesLog script log j

-- what a script's text and a log are
abbrev pub JudgesParts : List ℕ → List ℕ → Judged → Type 0
JudgesParts text log (judged.ScriptFault line kind) = fault_of text ≡ Some (line, kind)
JudgesParts text log (judged.LogFault line) = IsOfScript text log (judged.LogFault line)
JudgesParts text log (judged.Verdict verdict) = IsOfScript text log (judged.Verdict verdict)

-- what a text is, by its two parts
pub record Judges (text : List ℕ) (j : Judged) : Type 0 where
  pub script : List ℕ
  pub log : List ℕ
  pub parts : AreParts text script log
  pub judges : JudgesParts script log j
