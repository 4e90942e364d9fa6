-- What the reader of view `events` answers.
use Rattle.std.specs.Prelude.{◌≡◌, ℕ, ◌+◌, Bool, true, ◌||◌, List, ◌++◌, length, codes}
use Rattle.std.specs.List.{list_all}
use Rattle.w32_base.specs.Names.{is_same}
use Rattle.w32_base.specs.declared.event.Event.{Event}
use Rattle.script_spec.specs.declared.script.Script.{Script}
use Rattle.log_spec.specs.Events.{is_event_within}
use Rattle.log_spec.specs.EventsText.{IsLogFault, lines_text}
use Rattle.log_spec.specs.LogFaults.{front}
use Rattle.log_text.specs.declared.error.LogError.{LogError}
use Rattle.log_text.specs.declared.error.LogError.TheVariants as error

-- the most bytes of a log that is read
abbrev pub most_log_bytes : ℕ
most_log_bytes = 67108864

-- The line is the fault of these bytes. Where memory runs out, nothing is said.
abbrev pub IsFault : Script → List ℕ → LogError → Type 0
IsFault script bytes (error.Fault number) = IsLogFault script bytes number
IsFault script bytes error.Memory = Unit {0}

-- whether a line is the last one of a log
abbrev pub is_end : List ℕ → Bool
is_end text =
    (is_same (codes "done quiet") text || is_same (codes "done given") text) || is_same (codes "done budget") text

-- The first line and those of the events are read, and the number of the next line.
pub record IsRead (script : Script) (bytes : List ℕ) (done : List Event) (rest : List ℕ) (number : ℕ) : Type 0 where
  pub parts : bytes ≡ lines_text (front done) ++ rest
  pub within : list_all (is_event_within script) done ≡ true
  pub counted : number ≡ length done + 2
