-- Where a text of view `events` has its fault.
use Rattle.std.specs.Prelude.{◌≡◌, ℕ, ◌+◌, ◌<◌, true, List, [], ◌∷◌, ◌++◌, map, length, codes}
use Rattle.std.specs.List.{list_all}
use Rattle.std.proofs.Common.{refl, arith, sym, ap, ◌∙◌, append_assoc, append-nil, length-append}
use Rattle.std.proofs.lemmas.List.Folds.{list_all-append}
use Rattle.w32_base.specs.declared.event.Event.{Event}
use Rattle.w32_base.specs.declared.entry.End.{End}
use Rattle.w32_base.specs.declared.entry.End.TheVariants as end
use Rattle.script_spec.specs.declared.script.Script.{Script}
use Rattle.log_spec.specs.Texts.{line}
use Rattle.log_spec.specs.Events.{event_text, is_event_within}
use Rattle.log_spec.specs.Views.{event_lines, end_text}
use Rattle.log_spec.specs.EventsText.{IsEventsText, BeginsEventsText, IsLogFault, lines_text, is_one_line, events_text}
use Rattle.log_spec.specs.EventsRead.{lines_in, event_in_line}
use Rattle.log_spec.specs.EventsReadLaws.{parts, together}
use Rattle.log_spec.specs.EventsTextLaws.{only_part, event_has_no_end}
use Rattle.log_spec.specs.EventsOfText.{text_is_parted, event_is_read}
use Rattle.log_spec.specs.LineLaws.{line_is_parted, whole_are_parted, with_line, begins_apart, first_is, rest_is}
use Rattle.log_spec.specs.LineLaws.{parts_some, open_stops}

-- the lines of a text before its last one
abbrev pub front : List Event → List (List ℕ)
front events = codes "log events" ∷ map event_text events

pub front_is_whole : (script : Script) (events : List Event) → list_all (is_event_within script) events ≡ true
    → list_all is_one_line (map event_text events) ≡ true
front_is_whole script [] h = refl
front_is_whole script (e ∷ events) h =
    let two = parts (is_event_within script e) (list_all (is_event_within script) events) h in
    together (is_one_line (event_text e)) _ (event_has_no_end script e two.0) (front_is_whole script events two.1)

pub lines_of_events : (events : List Event) → lines_text (map event_text events) ≡ event_lines events
lines_of_events [] = refl
lines_of_events (e ∷ events) = ap (λ (more : List ℕ). line (event_text e) ++ more) (lines_of_events events)

-- the last line of a text isn't one of an event
pub end_is_no_event : (script : Script) (f : Event) (e : End) → is_event_within script f ≡ true
    → event_text f ≡ end_text e → ⊥
end_is_no_event script f e h same =
    other e (sym (ap event_text (sym (event_is_read script f h) ∙ ap event_in_line same)) ∙ same)
  where
    other : (e : End) → event_text (event_in_line (end_text e)) ≡ end_text e → ⊥
    other end.Quiet h = begins_apart _ _ refl h
    other end.Given h = begins_apart _ _ refl h
    other end.Budget h = begins_apart _ _ refl h

pub end_is_one_line : (e : End) → is_one_line (end_text e) ≡ true
end_is_one_line end.Quiet = refl
end_is_one_line end.Given = refl
end_is_one_line end.Budget = refl

-- what may stand behind the first lines of a text's event lines
pub data Follows (script : Script) (next : List ℕ) (tail : List (List ℕ)) : Type 0 where
  AnEvent : (f : Event) → is_event_within script f ≡ true → next ≡ event_text f → 0 < length tail
      → Follows script next tail
  TheEnd : (e : End) → next ≡ end_text e → tail ≡ [] ∷ [] → Follows script next tail

pub follows : (script : Script) (done events : List Event) (next : List ℕ) (tail : List (List ℕ)) (e : End)
    → list_all (is_event_within script) done ≡ true → list_all (is_event_within script) events ≡ true
    → map event_text done ++ next ∷ tail ≡ map event_text events ++ end_text e ∷ [] ∷ [] → Follows script next tail
follows script [] [] next tail e h k same = TheEnd e (cc same) (cc same)
follows script [] (f ∷ events) next tail e h k same =
    let two = parts (is_event_within script f) (list_all (is_event_within script) events) k in
    let tail_is : tail ≡ map event_text events ++ end_text e ∷ [] ∷ [] = cc same in
    let size = length-append (map event_text events) (end_text e ∷ [] ∷ []) in
    AnEvent f two.0 (cc same) (omega (arith, ap length tail_is, size))
follows script (d ∷ done) [] next tail e h k same =
    let two = parts (is_event_within script d) (list_all (is_event_within script) done) h in
    absurd (end_is_no_event script d e two.0 (cc same))
follows script (d ∷ done) (f ∷ events) next tail e h k same =
    follows script done events next tail e
    (parts (is_event_within script d) (list_all (is_event_within script) done) h).1
    (parts (is_event_within script f) (list_all (is_event_within script) events) k).1
    (cc same)

-- the lines of a text
pub text_lines : (script : Script) (bytes : List ℕ) (events : List Event) (h : IsEventsText script bytes events)
    → lines_in bytes ≡ codes "log events" ∷ (map event_text events ++ end_text h.end ∷ [] ∷ [])
text_lines script bytes events h = ap lines_in h.text ∙ text_is_parted script events h.end h.within

-- the bytes behind the first lines of a text, where a text begins with them
pub behind : (script : Script) (done : List Event) (rest bytes : List ℕ) (next : List ℕ) (tail : List (List ℕ))
    (events : List Event) → list_all (is_event_within script) done ≡ true
    → bytes ≡ lines_text (front done) ++ rest → lines_in rest ≡ next ∷ tail → IsEventsText script bytes events
    → Follows script next tail
behind script done rest bytes next tail events h bytes_are rest_is text =
    let parted = ap lines_in bytes_are ∙ whole_are_parted (front done) rest (front_is_whole script done h) in
    let whole : codes "log events" ∷ (map event_text done ++ next ∷ tail)
    ≡ codes "log events" ∷ (map event_text events ++ end_text text.end ∷ [] ∷ []) =
    ap (λ (more : List (List ℕ)). front done ++ more) (sym rest_is)
    ∙ (sym parted ∙ text_lines script bytes events text) in
    follows script done events next tail text.end h text.within (tail_is _ _ whole)
  where
    tail_is : (xs ys : List (List ℕ)) → codes "log events" ∷ xs ≡ codes "log events" ∷ ys → xs ≡ ys
    tail_is xs ys same = cc same

-- a text begins with the first lines of its events, and with all its lines
pub front_begins : (script : Script) (done : List Event) → list_all (is_event_within script) done ≡ true
    → BeginsEventsText script (lines_text (front done))
unfolding events_text
front_begins script done h = record {
  more = line (end_text end.Quiet);
  events = done;
  is_text = record {
    end = end.Quiet;
    text = append_assoc (line (codes "log events")) (lines_text (map event_text done)) (line (end_text end.Quiet))
        ∙ ap (λ (lines : List ℕ). line (codes "log events") ++ (lines ++ line (end_text end.Quiet)))
        (lines_of_events done);
    within = h;
  };
}

pub lines_end : (events : List Event) (e : End)
    → lines_text (map event_text events ++ end_text e ∷ []) ≡ event_lines events ++ line (end_text e)
lines_end [] e = append-nil (line (end_text e))
lines_end (f ∷ events) e =
    ap (λ (more : List ℕ). line (event_text f) ++ more) (lines_end events e)
    ∙ sym (append_assoc (line (event_text f)) (event_lines events) (line (end_text e)))

pub whole_text : (script : Script) (done : List Event) (e : End) → list_all (is_event_within script) done ≡ true
    → IsEventsText script (lines_text (front done ++ end_text e ∷ [])) done
unfolding events_text
whole_text script done e h = record {
  end = e;
  text = ap (λ (lines : List ℕ). line (codes "log events") ++ lines) (lines_end done e);
  within = h;
}

-- a line that is neither an event's nor the last one of a text
pub record IsUnfit (script : Script) (text : List ℕ) : Type 0 where
  pub no_event : (f : Event) → is_event_within script f ≡ true → text ≡ event_text f → ⊥
  pub no_end : (e : End) → text ≡ end_text e → ⊥

pub unfit_follows : (script : Script) (next : List ℕ) (tail : List (List ℕ)) → IsUnfit script next
    → Follows script next tail → ⊥
unfit_follows script next tail bad (AnEvent f h is more) = bad.no_event f h is
unfit_follows script next tail bad (TheEnd e is last) = bad.no_end e is

-- a line that doesn't fit behind the first lines of a text is its fault
pub unfit_fault : (script : Script) (done : List Event) (next after : List ℕ)
    → list_all (is_event_within script) done ≡ true
    → is_one_line next ≡ true → IsUnfit script next
    → IsLogFault script (lines_text (front done) ++ (line next ++ after)) (length (front done) + 1)
unfit_fault script done next after h one bad =
    record {
      lines = front done;
      rest = line next ++ after;
      parts = refl;
      whole = front_is_whole script done h;
      place = refl;
      begins = front_begins script done h;
      no_text = λ events text. unfit_follows script next (lines_in after) bad
          (behind script done (line next ++ after) _ next (lines_in after) events h refl
          (line_is_parted next after one) text);
      stops = λ other more one_other same begun.
          let is : next ≡ other = first_is next other (lines_in after) (lines_in more)
          (sym (line_is_parted next after one) ∙ (ap lines_in same ∙ line_is_parted other more one_other)) in
          unfit_follows script other (lines_in begun.more)
          (record { no_event = λ f within e. bad.no_event f within (is ∙ e); no_end = λ x e. bad.no_end x (is ∙ e) })
          (behind script done (line other ++ begun.more) _ other (lines_in begun.more) begun.events h
          (append_assoc (lines_text (front done)) (line other) begun.more)
          (line_is_parted other begun.more one_other) begun.is_text);
    }

-- a piece without an end, or nothing at all, is a fault there too
pub nothing_follows : (script : Script) (next : List ℕ) → Follows script next [] → ⊥
nothing_follows script next (AnEvent f h is more) = omega arith
nothing_follows script next (TheEnd e is last) = cc last

pub open_fault : (script : Script) (done : List Event) (rest : List ℕ) → list_all (is_event_within script) done ≡ true
    → is_one_line rest ≡ true
    → IsLogFault script (lines_text (front done) ++ rest) (length (front done) + 1)
open_fault script done rest h one =
    record {
      lines = front done;
      rest = rest;
      parts = refl;
      whole = front_is_whole script done h;
      place = refl;
      begins = front_begins script done h;
      no_text = λ events text. nothing_follows script rest
          (behind script done rest _ rest [] events h refl (only_part 10 rest one) text);
      stops = λ next after one_next same begun. open_stops rest next after one one_next same;
    }

pub end_follows : (script : Script) (e : End) (tail : List (List ℕ)) → (tail ≡ [] ∷ [] → ⊥)
    → Follows script (end_text e) tail → ⊥
end_follows script e tail more (AnEvent f h is some) = end_is_no_event script f e h (sym is)
end_follows script e tail more (TheEnd x is last) = more last

pub end_fault : (script : Script) (done : List Event) (e : End) (rest : List ℕ)
    → list_all (is_event_within script) done ≡ true
    → (lines_in rest ≡ [] ∷ [] → ⊥)
    → IsLogFault script (lines_text (front done ++ end_text e ∷ []) ++ rest)
    (length (front done ++ end_text e ∷ []) + 1)
unfolding whole_text
end_fault script done e rest h more =
    record {
      lines = front done ++ end_text e ∷ [];
      rest = rest;
      parts = refl;
      whole = list_all-append is_one_line (front done) (end_text e ∷ [])
          ∙ together (list_all is_one_line (front done)) _ (front_is_whole script done h)
          (together (is_one_line (end_text e)) true (end_is_one_line e) refl);
      place = refl;
      begins = record {
        more = [];
        events = done;
        is_text = record {
          end = e;
          text = append-nil (lines_text (front done ++ end_text e ∷ [])) ∙ (whole_text script done e h).text;
          within = h;
        };
      };
      no_text = λ events text. end_follows script e (lines_in rest) more
          (behind script done (line (end_text e) ++ rest) _ (end_text e) (lines_in rest) events h
          (with_line (front done) (end_text e) rest) (line_is_parted (end_text e) rest (end_is_one_line e)) text);
      stops = λ next after one_next same begun.
          let behind_is : (lines_text (front done ++ end_text e ∷ []) ++ line next) ++ begun.more
          ≡ lines_text (front done) ++ (line (end_text e) ++ (line next ++ begun.more)) =
          append_assoc (lines_text (front done ++ end_text e ∷ [])) (line next) begun.more
          ∙ with_line (front done) (end_text e) (line next ++ begun.more) in
          end_follows script e (next ∷ lines_in begun.more)
          (λ last. parts_some begun.more (rest_is next [] (lines_in begun.more) [] last))
          (behind script done (line (end_text e) ++ (line next ++ begun.more)) _ (end_text e)
          (next ∷ lines_in begun.more)
          begun.events h behind_is
          (line_is_parted (end_text e) (line next ++ begun.more) (end_is_one_line e)
          ∙ ap (λ (tail : List (List ℕ)). end_text e ∷ tail) (line_is_parted next begun.more one_next))
          begun.is_text);
    }

-- a text that doesn't begin with its first line
pub nothing_begins : (script : Script) → BeginsEventsText script []
nothing_begins script = record {
  more = events_text [] end.Quiet;
  events = [];
  is_text = record { end = end.Quiet; text = refl; within = refl };
}

pub bare_fault : (script : Script) (rest : List ℕ) → is_one_line rest ≡ true → IsLogFault script rest 1
bare_fault script rest one =
    record {
      lines = [];
      rest = rest;
      parts = refl;
      whole = refl;
      place = refl;
      begins = nothing_begins script;
      no_text = λ events text.
          let behind_it = rest_is rest _ [] _ (sym (only_part 10 rest one) ∙ text_lines script rest events text) in
          let size = sym (length-append (map event_text events) (end_text text.end ∷ [] ∷ []))
          ∙ ap length (sym behind_it) in
          omega arith;
      stops = λ next after one_next same begun. open_stops rest next after one one_next same;
    }

pub header_fault : (script : Script) (text after : List ℕ) → is_one_line text ≡ true → (text ≡ codes "log events" → ⊥)
    → IsLogFault script (line text ++ after) 1
header_fault script text after one other =
    record {
      lines = [];
      rest = line text ++ after;
      parts = refl;
      whole = refl;
      place = refl;
      begins = nothing_begins script;
      no_text = λ events said. other (first_is text _ (lines_in after) _
          (sym (line_is_parted text after one) ∙ text_lines script _ events said));
      stops = λ next behind_next one_next same begun.
          let is : text ≡ next = first_is text next (lines_in after) (lines_in behind_next)
          (sym (line_is_parted text after one) ∙ (ap lines_in same ∙ line_is_parted next behind_next one_next)) in
          other (is ∙ first_is next _ (lines_in begun.more) _
          (sym (line_is_parted next begun.more one_next) ∙ text_lines script _ begun.events begun.is_text));
    }
