-- The lines of a log, read one after the other.
use Rattle.std.proofs.Common.{◌≡◌, ℕ, ◌+◌, Bool, true, false, ◌||◌, List, [], ◌∷◌, ◌++◌, length, Some}
use Rattle.std.proofs.Common.{None}
use Rattle.std.proofs.Common.{refl, sym, ap, subst, ◌∙◌, arith, inl, inr, append-nil, length-append}
use Rattle.std.specs.Prelude.{codes, ◌==◌}
use Rattle.std.proofs.lemmas.Bool.Decides.{nat_tests}
use Rattle.std.specs.List.{list_all, join_with_byte}
use Rattle.std.proofs.lemmas.Bool.{or_cases, or_parts}
use Rattle.std.proofs.lemmas.List.{length-map, map-append}
use Rattle.std.proofs.lemmas.List.Folds.{list_all-append}
use Rattle.std.proofs.lemmas.List.Splits.{join_with_byte-slice_split}
use Rattle.std.proofs.lemmas.Option.{same_Some, none-some}
use Rattle.w32_base.specs.Names.{is_same}
use Rattle.w32_base.specs.declared.event.Event.{Event}
use Rattle.w32_base.specs.declared.entry.End.{End}
use Rattle.w32_base.specs.declared.entry.End.TheVariants as end
use Rattle.script_spec.specs.declared.script.Script.{Script}
use Rattle.log_spec.specs.Texts.{line}
use Rattle.log_spec.specs.Events.{event_text, is_event_within}
use Rattle.log_spec.specs.EventsRead.{words_in, lines_in}
use Rattle.log_spec.specs.EventsReadLaws.{together}
use Rattle.log_spec.specs.EventsText.{IsEventsText, IsLogFault, lines_text, is_one_line}
use Rattle.log_spec.specs.Views.{end_text}
use Rattle.log_spec.specs.LineLaws.{same_is, not_same, with_line}
use Rattle.log_spec.specs.LogFaults.{front, whole_text, unfit_fault, open_fault, end_fault, bare_fault, header_fault}
use Rattle.log_text.specs.ReadEvents.{event_of_words}
use Rattle.log_text.specs.ReadLogs.{is_end, IsRead}
use Rattle.log_text.proofs.ReadEvents.{line_found}

-- the event that a line's words say is the one whose text the line is, if there is one
same_event : (script : Script) (text : List ℕ) (event e : Event) → Some event ≡ event_of_words (words_in text)
    → is_event_within script e ≡ true → text ≡ event_text e → event ≡ e
same_event script text event e found h is =
    same_Some event e (found ∙ (ap (λ (t : List ℕ). event_of_words (words_in t)) is ∙ line_found script e h))

pub none_said : (script : Script) (text : List ℕ) → None ≡ event_of_words (words_in text) → (e : Event)
    → is_event_within script e ≡ true → text ≡ event_text e → ⊥
none_said script text found e h is =
    none-some e (found ∙ (ap (λ (t : List ℕ). event_of_words (words_in t)) is ∙ line_found script e h))

pub other_said : (script : Script) (text : List ℕ) (event : Event) (r : Bool)
    → ((is_event_within script event ≡ true) × (text ≡ event_text event) → r ≡ true) → r ≡ false
    → Some event ≡ event_of_words (words_in text) → (e : Event)
    → is_event_within script e ≡ true → text ≡ event_text e → ⊥
other_said script text event r is_line other found e h is =
    let same : event ≡ e = same_event script text event e found h is in
    let holds : r ≡ true = is_line (
      subst (λ (f : Event). is_event_within script f ≡ true) (sym same) h,
      subst (λ (f : Event). text ≡ event_text f) (sym same) is,
    ) in
    cc

-- whether a line is the last one
pub ended : (text : List ℕ) → is_end text ≡ true → (e : End) × (text ≡ end_text e)
ended text h =
    elim (or_cases (is_same (codes "done quiet") text || is_same (codes "done given") text) _ h) [
      | inl two ↦ elim (or_cases (is_same (codes "done quiet") text) _ two) [
        | inl quiet ↦ (end.Quiet, sym (same_is _ _ quiet))
        | inr given ↦ (end.Given, sym (same_is _ _ given))
      ]
      | inr budget ↦ (end.Budget, sym (same_is _ _ budget))
    ]

pub not_ended : (text : List ℕ) → is_end text ≡ false → (e : End) → text ≡ end_text e → ⊥
not_ended text h end.Quiet is = not_same _ _ (or_parts _ _ (or_parts _ _ h).0).0 (sym is)
not_ended text h end.Given is = not_same _ _ (or_parts _ _ (or_parts _ _ h).0).1 (sym is)
not_ended text h end.Budget is = not_same _ _ (or_parts _ _ h).1 (sym is)

fault_at : (script : Script) (a b : List ℕ) (m n : ℕ) → a ≡ b → m ≡ n → IsLogFault script a m → IsLogFault script b n
fault_at script a b m n e p f =
    subst (IsLogFault script b) p (subst (λ (x : List ℕ). IsLogFault script x m) e f)

-- the first line
pub no_first : (bytes : List ℕ) → is_one_line bytes ≡ true → (script : Script) → IsLogFault script bytes 1
no_first bytes one script = bare_fault script bytes one

pub other_first : (bytes text rest : List ℕ) → bytes ≡ line text ++ rest → is_one_line text ≡ true
    → is_same (codes "log events") text ≡ false → (script : Script) → IsLogFault script bytes 1
other_first bytes text rest is one other script =
    fault_at script (line text ++ rest) bytes 1 1 (sym is) refl
    (header_fault script text rest one (λ same. not_same (codes "log events") text other (sym same)))

pub right_first : (bytes text rest : List ℕ) → bytes ≡ line text ++ rest → is_same (codes "log events") text ≡ true
    → bytes ≡ line (codes "log events") ++ rest
right_first bytes text rest is same =
    is ∙ ap (λ (t : List ℕ). line t ++ rest) (sym (same_is (codes "log events") text same))

pub opening : (script : Script) (bytes rest : List ℕ) → bytes ≡ line (codes "log events") ++ rest
    → IsRead script bytes [] rest 2
opening script bytes rest is = record {
  parts = is ∙ ap (λ (l : List ℕ). l ++ rest) (sym (append-nil (line (codes "log events"))));
  within = refl;
  counted = refl;
}

place : (done : List Event) → length (front done) + 1 ≡ length done + 2
place done = omega (arith, length-map done event_text)

-- a line that wants its end
pub no_line : (script : Script) (bytes : List ℕ) (done : List Event) (rest : List ℕ) (number : ℕ)
    → IsRead script bytes done rest number → is_one_line rest ≡ true → IsLogFault script bytes number
no_line script bytes done rest number r one =
    fault_at script _ bytes _ number (sym r.parts) (place done ∙ sym r.counted)
    (open_fault script done rest r.within one)

-- a line that says neither an event nor an end
pub unfit : (script : Script) (bytes : List ℕ) (done : List Event) (rest text after : List ℕ) (number : ℕ)
    → IsRead script bytes done rest number → rest ≡ line text ++ after → is_one_line text ≡ true
    → is_end text ≡ false → ((e : Event) → is_event_within script e ≡ true → text ≡ event_text e → ⊥)
    → IsLogFault script bytes number
unfit script bytes done rest text after number r is one no_end no_event =
    fault_at script _ bytes _ number
    (sym (r.parts ∙ ap (λ (l : List ℕ). lines_text (front done) ++ l) is)) (place done ∙ sym r.counted)
    (unfit_fault script done text after r.within one
    (record { no_event = no_event; no_end = not_ended text no_end }))

-- the last line, with nothing behind it
pub whole : (script : Script) (bytes : List ℕ) (done : List Event) (rest text after : List ℕ) (number : ℕ)
    → IsRead script bytes done rest number → rest ≡ line text ++ after → is_end text ≡ true → after ≡ []
    → IsEventsText script bytes done
whole script bytes done rest text after number r is last_line none =
    let e = ended text last_line in
    let last : rest ≡ line (end_text e.0) ++ [] =
    is ∙ (ap (λ (t : List ℕ). line t ++ after) e.1 ∙ ap (λ (l : List ℕ). line (end_text e.0) ++ l) none) in
    let all : bytes ≡ lines_text (front done ++ end_text e.0 ∷ []) =
    r.parts ∙ (ap (λ (l : List ℕ). lines_text (front done) ++ l) last
    ∙ (sym (with_line (front done) (end_text e.0) []) ∙ append-nil (lines_text (front done ++ end_text e.0 ∷ [])))) in
    subst (λ (b : List ℕ). IsEventsText script b done) (sym all) (whole_text script done e.0 r.within)

only_empty : (bytes : List ℕ) → lines_in bytes ≡ [] ∷ [] → bytes ≡ []
only_empty bytes h = sym (join_with_byte-slice_split 10 bytes) ∙ ap (join_with_byte 10) h

end_place : (done : List Event) (text : List ℕ) → length (front done ++ text ∷ []) + 1 ≡ length done + 3
end_place done text = omega (arith, length-append (front done) (text ∷ []), length-map done event_text)

-- the last line, with something behind it
pub more : (script : Script) (bytes : List ℕ) (done : List Event) (rest text after : List ℕ) (number : ℕ)
    → IsRead script bytes done rest number → rest ≡ line text ++ after → is_end text ≡ true → (after ≡ [] → ⊥)
    → IsLogFault script bytes (number + 1)
more script bytes done rest text after number r is last_line some =
    let e = ended text last_line in
    let last : rest ≡ line (end_text e.0) ++ after = is ∙ ap (λ (t : List ℕ). line t ++ after) e.1 in
    let counted : length done + 3 ≡ number + 1 = omega (arith, r.counted) in
    fault_at script _ bytes _ (number + 1)
    (sym (r.parts ∙ (ap (λ (l : List ℕ). lines_text (front done) ++ l) last
    ∙ sym (with_line (front done) (end_text e.0) after))))
    (end_place done (end_text e.0) ∙ counted)
    (end_fault script done e.0 after r.within (λ none. some (only_empty after none)))

-- an event's line
pub next_read : (script : Script) (bytes : List ℕ) (done : List Event) (rest text after : List ℕ) (number : ℕ)
    (e : Event)
    → IsRead script bytes done rest number → rest ≡ line text ++ after → is_event_within script e ≡ true
    → text ≡ event_text e → IsRead script bytes (done ++ e ∷ []) after (number + 1)
next_read script bytes done rest text after number e r is h said = record {
  parts = r.parts
      ∙ (ap (λ (l : List ℕ). lines_text (front done) ++ l) (is ∙ ap (λ (t : List ℕ). line t ++ after) said)
      ∙ (sym (with_line (front done) (event_text e) after)
      ∙ ap (λ (lines : List (List ℕ)). lines_text (codes "log events" ∷ lines) ++ after)
      (sym (map-append event_text done (e ∷ [])))));
  within = list_all-append (is_event_within script) done (e ∷ [])
      ∙ together (list_all (is_event_within script) done) _ r.within (together (is_event_within script e) true h refl);
  counted = omega (arith, r.counted, length-append done (e ∷ []));
}

-- whether bytes are left
pub nothing_left : (xs : List ℕ) → (length xs == 0) ≡ true → xs ≡ []
nothing_left [] h = refl
nothing_left (x ∷ xs) h = absurd (grind (arith, nat_tests))

pub something_left : (xs : List ℕ) → (length xs == 0) ≡ false → xs ≡ [] → ⊥
something_left xs h none = let nothing : (length xs == 0) ≡ true = rw none refl in cc
