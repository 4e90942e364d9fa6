-- The log of a journal in its three views.
use Rattle.std.specs.Prelude.{ℕ, zero, suc, ◌+◌, Bool, true, false, ◌&&◌, nat_eq, if◌then◌else◌, List, [], ◌∷◌, ◌++◌}
use Rattle.std.specs.Prelude.{flat_map, codes, Option, Some, None}
use Rattle.std.specs.List.{filter_map}
use Rattle.std.specs.Fmt.{decimal}
use Rattle.w32_base.specs.declared.call.Call.{Call}
use Rattle.w32_base.specs.declared.event.Event.{Event}
use Rattle.w32_base.specs.declared.event.Event.TheVariants as event
use Rattle.w32_base.specs.declared.entry.Entry.{Entry}
use Rattle.w32_base.specs.declared.entry.End.{End}
use Rattle.w32_base.specs.declared.entry.End.TheVariants as end
use Rattle.w32_base.specs.declared.entry.View.{View}
use Rattle.w32_base.specs.declared.entry.View.TheVariants as view
use Rattle.tty_spec.specs.Terminal.{opening_terminal}
use Rattle.log_spec.specs.Texts.{line, spaced, bytes_text}
use Rattle.log_spec.specs.Calls.{call_text}
use Rattle.log_spec.specs.Replies.{directive_text, outcome_text}
use Rattle.log_spec.specs.Events.{event_text, actor_of}
use Rattle.log_spec.specs.Output.{output_from}

-- how the run ended, which is a log's last line
abbrev pub end_text : End → List ℕ
end_text end.Quiet = codes "done quiet"
end_text end.Given = codes "done given"
end_text end.Budget = codes "done budget"

-- View `events`: the events in the journal's order, each a line.
abbrev pub events_of : List Entry → List Event
events_of entries = filter_map (λ (entry : Entry). entry.event) entries

abbrev pub event_lines : List Event → List ℕ
event_lines events = flat_map (λ e. line (event_text e)) events

-- View `calls` leaves out these events and no others.
abbrev pub is_call_event : Event → Bool
is_call_event (event.Run p n) = false
is_call_event (event.Look p c) = false
is_call_event (event.Block p) = false
is_call_event (event.Member p q s) = false
is_call_event (event.Discard p s) = false
is_call_event (event.Notify p) = false
is_call_event (event.Collect p) = false
is_call_event (event.Background p s) = false
is_call_event (event.BackgroundDone p) = false
is_call_event _ = true

-- the line of an event, where it stands in view `calls` and its first number is p
abbrev pub call_line : ℕ → Event → List ℕ
call_line p e = if is_call_event e && nat_eq (actor_of e) p then line (event_text e) else []

-- the lines with the first number p, in the journal's order
abbrev pub call_lines_of : ℕ → List Event → List ℕ
call_lines_of p events = flat_map (call_line p) events

-- the lines of the first n numbers, from 0 up; no event has the number 1
abbrev pub call_lines_below : ℕ → List Event → List ℕ
call_lines_below zero events = []
call_lines_below (suc n) events = call_lines_below n events ++ call_lines_of n events

-- View `all`: each entry a line, which begins with its number; `-` stands for no call and no event.
abbrev pub call_or_dash : Option Call → List ℕ
call_or_dash None = codes "-"
call_or_dash (Some c) = call_text c

abbrev pub event_or_dash : Option Event → List ℕ
event_or_dash None = codes "-"
event_or_dash (Some e) = event_text e

abbrev pub entry_text : ℕ → Entry → List ℕ
entry_text number entry = spaced (
    decimal number ∷ directive_text entry.directive ∷ codes "|" ∷ call_or_dash entry.call ∷ codes "|" ∷
    outcome_text entry.outcome ∷ codes "|" ∷ event_or_dash entry.event ∷ [])

-- the lines of entries whose first one has this number
abbrev pub entry_lines : ℕ → List Entry → List ℕ
entry_lines number [] = []
entry_lines number (entry ∷ entries) = line (entry_text number entry) ++ entry_lines (number + 1) entries

-- the lines of a view between a log's first line and its last
abbrev pub view_lines : View → List Entry → List ℕ
view_lines view.All entries = entry_lines 1 entries
view_lines view.Events entries = event_lines (events_of entries)
view_lines view.Calls entries =
    call_lines_below 4002 (events_of entries) ++
    line (spaced (codes "tty" ∷ bytes_text (output_from opening_terminal entries) ∷ []))

abbrev pub view_text : View → List ℕ
view_text view.All = codes "log all"
view_text view.Events = codes "log events"
view_text view.Calls = codes "log calls"

-- the log of a journal in a view: its first line names the view, its last one says how the run ended
unfoldable pub log_text : View → List Entry → End → List ℕ
log_text v entries e = line (view_text v) ++ (view_lines v entries ++ line (end_text e))
