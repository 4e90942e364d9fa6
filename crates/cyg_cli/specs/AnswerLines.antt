-- The line that says what a text of a script and a log is, and the status that goes with it.
use Rattle.std.specs.Prelude.{ℕ, List, [], ◌∷◌, ◌++◌, codes}
use Rattle.std.specs.Fmt.{decimal}
use Rattle.cyg_runs.specs.declared.refusal.Refusal.TheVariants as refusal
use Rattle.cyg_runs.specs.Refusals.{numbered_line, refusal_line}
use Rattle.posix_model.specs.Rules.{word_of}
use Rattle.run_check.specs.declared.judging.Judged.{Judged}
use Rattle.run_check.specs.declared.judging.Judged.TheVariants as judged
use Rattle.run_check.specs.declared.verdict.Verdict.{Verdict}
use Rattle.run_check.specs.declared.verdict.Verdict.TheVariants as verdict

-- the line of a verdict
abbrev pub verdict_line : Verdict → List ℕ
verdict_line verdict.Yes = codes "yes" ++ 10 ∷ []
verdict_line (verdict.No line rule) = numbered_line (codes "no") line (word_of rule)

-- the line of what a text is
abbrev pub line_of : Judged → List ℕ
line_of (judged.ScriptFault line kind) = refusal_line (refusal.Fault line kind)
line_of (judged.LogFault line) = codes "logfault " ++ decimal line ++ 10 ∷ []
line_of (judged.Verdict v) = verdict_line v

-- the status
abbrev pub answer_status : Judged → ℕ
answer_status (judged.ScriptFault line kind) = 3
answer_status (judged.LogFault line) = 3
answer_status (judged.Verdict verdict.Yes) = 0
answer_status (judged.Verdict (verdict.No line rule)) = 1
