-- How many events a log has, and what follows once its script is read.
use Rattle.std.specs.Prelude.{IfOk, Result, Ok, Err}
use Rattle.std.proofs.Common.{◌≡◌, ℕ, ◌≤◌, List, [], ◌∷◌, ◌++◌, length, ap, arith, length-append}
use Rattle.w32_base.specs.declared.event.Event.{Event}
use Rattle.script_spec.specs.declared.script.Script.{Script}
use Rattle.script_spec.specs.Grammar.{IsScript}
use Rattle.log_spec.specs.Texts.{line}
use Rattle.log_spec.specs.Events.{event_text}
use Rattle.log_spec.specs.Views.{event_lines, end_text, view_text}
use Rattle.w32_base.specs.declared.entry.View.TheVariants as view
use Rattle.log_spec.specs.EventsText.{IsEventsText, events_text}
use Rattle.run_check.specs.declared.judging.Judged.{Judged}
use Rattle.run_check.specs.declared.judging.Judged.TheVariants as judged
use Rattle.run_check.specs.Judging.{JudgesLog, JudgesParts}

lines_count : (events : List Event) → length events ≤ length (event_lines events)
lines_count [] = omega arith
lines_count (e ∷ events) =
    omega (
      arith,
      length-append (line (event_text e)) (event_lines events),
      length-append (event_text e) (10 ∷ []),
      lines_count events,
    )

-- each event has a line
pub events_count : (script : Script) (bytes : List ℕ) (events : List Event) → IsEventsText script bytes events
    → length events ≤ length bytes
unfolding events_text
events_count script bytes events is =
    let size : length bytes ≡ length (events_text events is.end) = ap length is.text in
    omega (
      arith,
      size,
      length-append (line (view_text view.Events)) (event_lines events ++ line (end_text is.end)),
      length-append (event_lines events) (line (end_text is.end)),
      lines_count events,
    )

-- the script is read, and the log is judged by it
pub with_script : (text log : List ℕ) (script : Script) (j : Judged) → IsScript text script → JudgesLog script log j
    → JudgesParts text log j
with_script text log script (judged.ScriptFault line kind) is of = absurd of
with_script text log script (judged.LogFault line) is of =
    record { script = script; script_is = is; log_is = of }
with_script text log script (judged.Verdict verdict) is of =
    record { script = script; script_is = is; log_is = of }

pub if_with_script : {E : Type 0} (text log : List ℕ) (script : Script) (r : Result Judged E) → IsScript text script
    → IfOk r (λ j. JudgesLog script log j) → IfOk r (λ j. JudgesParts text log j)
if_with_script text log script (Ok j) is of = with_script text log script j is of
if_with_script text log script (Err e) is of = of
