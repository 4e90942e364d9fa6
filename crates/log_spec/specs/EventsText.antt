-- The texts that the reader of view `events` takes, and the fault of every other text.
use Rattle.std.specs.Prelude.{◌≡◌, ℕ, ◌+◌, Bool, true, not, nat_eq, List, ◌++◌, length, flat_map}
use Rattle.std.specs.List.{list_all}
use Rattle.w32_base.specs.declared.event.Event.{Event}
use Rattle.w32_base.specs.declared.entry.End.{End}
use Rattle.w32_base.specs.declared.entry.View.TheVariants as view
use Rattle.script_spec.specs.declared.script.Script.{Script}
use Rattle.log_spec.specs.Texts.{line}
use Rattle.log_spec.specs.Events.{is_event_within}
use Rattle.log_spec.specs.Views.{event_lines, view_text, end_text}

-- the text of view `events` that says these events
unfoldable pub events_text : List Event → End → List ℕ
events_text events e = line (view_text view.Events) ++ (event_lines events ++ line (end_text e))

-- the bytes are the text of these events, and all that they name is in its range
pub record IsEventsText (script : Script) (bytes : List ℕ) (events : List Event) : Type 0 where
  pub end : End
  pub text : bytes ≡ events_text events end
  pub within : list_all (is_event_within script) events ≡ true

-- a text of the view begins with these bytes
pub record BeginsEventsText (script : Script) (bytes : List ℕ) : Type 0 where
  pub more : List ℕ
  pub events : List Event
  pub is_text : IsEventsText script (bytes ++ more) events

-- whole lines
abbrev pub lines_text : List (List ℕ) → List ℕ
lines_text lines = flat_map line lines

-- no byte of the line is a line's end
abbrev pub is_one_line : List ℕ → Bool
is_one_line text = list_all (λ byte. not (nat_eq byte 10)) text

-- The bytes are no text of the view, and this is the first line that isn't in one; lines count from 1. A text begins
-- with the lines before it, and none with one line more, since that line doesn't fit there or has no end. Where the
-- bytes end with the lines before it, it is the text's last line that is wanting.
pub record IsLogFault (script : Script) (bytes : List ℕ) (number : ℕ) : Type 0 where
  pub lines : List (List ℕ)
  pub rest : List ℕ
  pub parts : bytes ≡ lines_text lines ++ rest
  pub whole : list_all is_one_line lines ≡ true
  pub place : number ≡ length lines + 1
  pub begins : BeginsEventsText script (lines_text lines)
  pub no_text : (events : List Event) → IsEventsText script bytes events → ⊥
  pub stops : (next after : List ℕ) → is_one_line next ≡ true → rest ≡ line next ++ after
      → BeginsEventsText script (lines_text lines ++ line next) → ⊥
