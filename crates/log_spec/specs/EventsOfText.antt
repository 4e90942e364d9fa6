-- A text of view `events` says one list of events, the log of a journal in that view is one, and a text has at most one
-- fault.
use Rattle.std.specs.Prelude.{◌≡◌, ℕ, ◌-◌, true, List, [], ◌∷◌, ◌++◌, map, length, take, drop, codes}
use Rattle.std.specs.List.{list_all}
use Rattle.std.proofs.Common.{refl, arith, sym, ap, ◌∙◌, append_assoc, length-append}
use Rattle.std.proofs.Math.Seq.{take-append_seam}
use Rattle.w32_base.specs.declared.event.Event.{Event}
use Rattle.w32_base.specs.declared.entry.Entry.{Entry}
use Rattle.w32_base.specs.declared.entry.End.{End}
use Rattle.w32_base.specs.declared.entry.End.TheVariants as end
use Rattle.w32_base.specs.declared.entry.View.TheVariants as view
use Rattle.script_spec.specs.declared.script.Script.{Script}
use Rattle.log_spec.specs.Texts.{line}
use Rattle.log_spec.specs.Events.{event_text, is_event_within}
use Rattle.log_spec.specs.Views.{events_of, event_lines, end_text, log_text}
use Rattle.log_spec.specs.EventsText.{IsEventsText, events_text}
use Rattle.log_spec.specs.EventsRead.{event_in, event_in_line, events_in, lines_in}
use Rattle.log_spec.specs.EventsReadLaws.{parts}
use Rattle.log_spec.specs.EventsReadBack.{read_back}
use Rattle.log_spec.specs.LineLaws.{line_is_parted}
use Rattle.log_spec.specs.EventsTextLaws.{event_words, event_has_no_end}

-- an event's line is read back
pub event_is_read : (script : Script) (e : Event) → is_event_within script e ≡ true → event_in_line (event_text e) ≡ e
event_is_read script e h = ap event_in (event_words script e h) ∙ read_back script e h

event_lines_are_parted : (script : Script) (events : List Event) (rest : List ℕ)
    → list_all (is_event_within script) events ≡ true
    → lines_in (event_lines events ++ rest) ≡ map event_text events ++ lines_in rest
event_lines_are_parted script [] rest h = refl
event_lines_are_parted script (e ∷ events) rest h =
    let two = parts (is_event_within script e) (list_all (is_event_within script) events) h in
    ap lines_in (append_assoc (line (event_text e)) (event_lines events) rest)
    ∙ (line_is_parted (event_text e) (event_lines events ++ rest) (event_has_no_end script e two.0)
    ∙ ap (λ (more : List (List ℕ)). event_text e ∷ more) (event_lines_are_parted script events rest two.1))

end_is_parted : (e : End) → lines_in (line (end_text e)) ≡ end_text e ∷ [] ∷ []
end_is_parted end.Quiet = refl
end_is_parted end.Given = refl
end_is_parted end.Budget = refl

pub text_is_parted : (script : Script) (events : List Event) (e : End) → list_all (is_event_within script) events ≡ true
    → lines_in (events_text events e) ≡ (codes "log events" ∷ map event_text events) ++ end_text e ∷ [] ∷ []
unfolding events_text
text_is_parted script events e h =
    line_is_parted (codes "log events") (event_lines events ++ line (end_text e)) refl
    ∙ ap (λ (more : List (List ℕ)). codes "log events" ∷ more)
    (event_lines_are_parted script events (line (end_text e)) h
    ∙ ap (λ (more : List (List ℕ)). map event_text events ++ more) (end_is_parted e))

events_are_read : (script : Script) (events : List Event) → list_all (is_event_within script) events ≡ true
    → map event_in_line (map event_text events) ≡ events
events_are_read script [] h = refl
events_are_read script (e ∷ events) h =
    let two = parts (is_event_within script e) (list_all (is_event_within script) events) h in
    let first = event_is_read script e two.0 in
    let rest = events_are_read script events two.1 in
    cc (first, rest)

-- without the last two
front : (lines : List (List ℕ)) (x y : List ℕ)
    → take (length (lines ++ x ∷ y ∷ []) - 2) (lines ++ x ∷ y ∷ []) ≡ lines
front lines x y =
    let size : length (lines ++ x ∷ y ∷ []) - 2 ≡ length lines = omega (arith, length-append lines (x ∷ y ∷ [])) in
    ap (λ (n : ℕ). take n (lines ++ x ∷ y ∷ [])) size ∙ take-append_seam lines (x ∷ y ∷ [])

-- the events that a text of view `events` says
pub text_is_read : (script : Script) (bytes : List ℕ) (events : List Event) → IsEventsText script bytes events
    → events_in bytes ≡ events
unfolding events_in
text_is_read script bytes events h =
    let lines = ap lines_in h.text ∙ text_is_parted script events h.end h.within in
    ap (λ (found : List (List ℕ)). map event_in_line (drop 1 (take (length found - 2) found))) lines
    ∙ (ap (λ (found : List (List ℕ)). map event_in_line (drop 1 found))
    (front (codes "log events" ∷ map event_text events) (end_text h.end) [])
    ∙ events_are_read script events h.within)

-- A text says one list of events.
pub one_list_of_events : (script : Script) (bytes : List ℕ) (events others : List Event)
    → IsEventsText script bytes events → IsEventsText script bytes others → events ≡ others
one_list_of_events script bytes events others h k =
    sym (text_is_read script bytes events h) ∙ text_is_read script bytes others k

-- No two events in their ranges have one line.
pub one_event_of_line : (script : Script) (e f : Event) → is_event_within script e ≡ true
    → is_event_within script f ≡ true → event_text e ≡ event_text f → e ≡ f
one_event_of_line script e f h k same =
    sym (event_is_read script e h) ∙ (ap event_in_line same ∙ event_is_read script f k)

-- The log of a journal in view `events` is the text of its events.
pub log_is_events_text : (entries : List Entry) (e : End)
    → log_text view.Events entries e ≡ events_text (events_of entries) e
unfolding log_text events_text
log_is_events_text entries e = refl

pub log_is_read : (script : Script) (entries : List Entry) (e : End)
    → list_all (is_event_within script) (events_of entries) ≡ true
    → IsEventsText script (log_text view.Events entries e) (events_of entries)
log_is_read script entries e h = record { end = e; text = log_is_events_text entries e; within = h }
