-- Every text is a text of view `events` or has a fault.
use Rattle.std.specs.Prelude.{◌≡◌, ℕ, ◌+◌, Bool, true, false, nat_eq, List, [], ◌∷◌, ◌++◌, length, codes}
use Rattle.std.specs.List.{list_all}
use Rattle.std.proofs.Common.{refl, arith, sym, ap, subst, ◌∙◌, append_assoc, append-nil, length-append}
use Rattle.std.proofs.lemmas.List.Folds.{list_all-append}
use Rattle.std.proofs.lemmas.List.{map-append}
use Rattle.std.proofs.lemmas.List.Splits.{length-slice_split}
use Rattle.w32_base.specs.Names.{is_same}
use Rattle.w32_base.specs.declared.event.Event.{Event}
use Rattle.w32_base.specs.declared.entry.End.{End}
use Rattle.w32_base.specs.declared.entry.End.TheVariants as end
use Rattle.script_spec.specs.declared.script.Script.{Script}
use Rattle.log_spec.specs.Texts.{line}
use Rattle.log_spec.specs.Events.{event_text, is_event_within}
use Rattle.log_spec.specs.Views.{end_text}
use Rattle.log_spec.specs.EventsText.{IsEventsText, IsLogFault, lines_text, is_one_line}
use Rattle.log_spec.specs.EventsRead.{lines_in, event_in_line}
use Rattle.log_spec.specs.EventsReadLaws.{parts, together}
use Rattle.log_spec.specs.EventsTextLaws.{only_part}
use Rattle.log_spec.specs.EventsOfText.{event_is_read}
use Rattle.log_spec.specs.LineLaws.{same_is, not_same, whole_are_parted, with_line, rest_is, part}
use Rattle.log_spec.specs.LogFaults.{front, whole_text, unfit_fault, open_fault, end_fault, bare_fault, header_fault}

-- what the bytes are: a text of the view, or one with a fault
pub data Verdict (script : Script) (bytes : List ℕ) : Type 0 where
  IsText : (events : List Event) → IsEventsText script bytes events → Verdict script bytes
  HasFault : (number : ℕ) → IsLogFault script bytes number → Verdict script bytes

verdict_at : (script : Script) (bytes other : List ℕ) → bytes ≡ other → Verdict script bytes → Verdict script other
verdict_at script bytes other same verdict = subst (Verdict script) same verdict

-- whether a line is the last one of a text
data EndTest (text : List ℕ) : Type 0 where
  Ends : (e : End) → text ≡ end_text e → EndTest text
  EndsNot : ((e : End) → text ≡ end_text e → ⊥) → EndTest text

end_test : (text : List ℕ) → EndTest text
end_test text =
    by_tests
    (is_same text (end_text end.Quiet)) (is_same text (end_text end.Given)) (is_same text (end_text end.Budget))
    refl refl refl
  where
    by_tests : (a b c : Bool) → is_same text (end_text end.Quiet) ≡ a → is_same text (end_text end.Given) ≡ b
        → is_same text (end_text end.Budget) ≡ c → EndTest text
    by_tests true b c p q r = Ends end.Quiet (same_is _ _ p)
    by_tests false true c p q r = Ends end.Given (same_is _ _ q)
    by_tests false false true p q r = Ends end.Budget (same_is _ _ r)
    by_tests false false false p q r = EndsNot none
      where
        none : (e : End) → text ≡ end_text e → ⊥
        none end.Quiet = not_same _ _ p
        none end.Given = not_same _ _ q
        none end.Budget = not_same _ _ r

-- whether a line is an event's
data EventTest (script : Script) (text : List ℕ) : Type 0 where
  Says : (e : Event) → is_event_within script e ≡ true → text ≡ event_text e → EventTest script text
  SaysNone : ((e : Event) → is_event_within script e ≡ true → text ≡ event_text e → ⊥) → EventTest script text

event_test : (script : Script) (text : List ℕ) → EventTest script text
event_test script text =
    by_tests
    (is_same text (event_text (event_in_line text))) (is_event_within script (event_in_line text))
    refl refl
  where
    read : (e : Event) → is_event_within script e ≡ true → text ≡ event_text e → event_in_line text ≡ e
    read e h same = ap event_in_line same ∙ event_is_read script e h

    by_tests : (a b : Bool) → is_same text (event_text (event_in_line text)) ≡ a
        → is_event_within script (event_in_line text) ≡ b → EventTest script text
    by_tests true true p q = Says (event_in_line text) q (same_is _ _ p)
    by_tests true false p q = SaysNone (λ e h same.
        let found = ap (is_event_within script) (sym (read e h same)) ∙ q in grind arith)
    by_tests false b p q = SaysNone (λ e h same. not_same _ _ p (same ∙ ap event_text (sym (read e h same))))

-- what stands behind the last line of a text
end_decided : (script : Script) (done : List Event) (e : End) (lines : List (List ℕ)) (rest : List ℕ)
    → list_all (is_event_within script) done ≡ true → list_all is_one_line lines ≡ true → is_one_line rest ≡ true
    → Verdict script (lines_text (front done) ++ (line (end_text e) ++ (lines_text lines ++ rest)))
end_decided script done e [] [] h k one =
    verdict_at script _ _
    (sym (append-nil (lines_text (front done ++ end_text e ∷ []))) ∙ with_line (front done) (end_text e) [])
    (IsText done (whole_text script done e h))
end_decided script done e [] (b ∷ rest) h k one =
    verdict_at script _ _ (with_line (front done) (end_text e) (b ∷ rest))
    (HasFault _ (end_fault script done e (b ∷ rest) h
    (λ last. cc (sym (only_part 10 (b ∷ rest) one) ∙ last))))
end_decided script done e (text ∷ lines) rest h k one =
    verdict_at script _ _ (with_line (front done) (end_text e) (lines_text (text ∷ lines) ++ rest))
    (HasFault _ (end_fault script done e (lines_text (text ∷ lines) ++ rest) h
    (λ last.
    let none : lines ++ lines_in rest ≡ [] =
    rest_is text [] (lines ++ lines_in rest) [] (sym (whole_are_parted (text ∷ lines) rest k) ∙ last) in
    let size : length lines + length (lines_in rest) ≡ 0 =
    sym (length-append lines (lines_in rest)) ∙ ap length none in
    let some = length-slice_split (λ byte. nat_eq byte 10) rest in
    omega arith)))

-- what stands behind the first lines of a text
decided : (script : Script) (done : List Event) (lines : List (List ℕ)) (rest : List ℕ)
    → list_all (is_event_within script) done ≡ true → list_all is_one_line lines ≡ true → is_one_line rest ≡ true
    → Verdict script (lines_text (front done) ++ (lines_text lines ++ rest))
decided script done [] rest h k one = HasFault _ (open_fault script done rest h one)
decided script done (text ∷ lines) rest h k one =
    let two = parts (is_one_line text) (list_all is_one_line lines) k in
    let behind_it = ap (λ (more : List ℕ). lines_text (front done) ++ more)
    (sym (append_assoc (line text) (lines_text lines) rest)) in
    let with_text = λ (other : List ℕ). lines_text (front done) ++ (line other ++ (lines_text lines ++ rest)) in
    elim (end_test text) [
      | Ends e is ↦
          verdict_at script _ _ (ap with_text (sym is) ∙ behind_it) (end_decided script done e lines rest h two.1 one)
      | EndsNot no_end ↦ elim (event_test script text) [
        | Says e within is ↦
            verdict_at script _ _
            (ap (λ (more : List (List ℕ)). lines_text (codes "log events" ∷ more) ++ (lines_text lines ++ rest))
            (map-append event_text done (e ∷ []))
            ∙ (with_line (front done) (event_text e) (lines_text lines ++ rest) ∙ (ap with_text (sym is) ∙ behind_it)))
            (decided script (done ++ e ∷ []) lines rest (list_all-append (is_event_within script) done (e ∷ [])
            ∙ together (list_all (is_event_within script) done) _ h
            (together (is_event_within script e) true within refl))
            two.1 one)
        | SaysNone no_event ↦
            verdict_at script _ _ behind_it
            (HasFault _ (unfit_fault script done text (lines_text lines ++ rest) h two.0
            (record { no_event = no_event; no_end = no_end })))
      ]
    ]

by_header : (script : Script) (lines : List (List ℕ)) (rest : List ℕ) → list_all is_one_line lines ≡ true
    → is_one_line rest ≡ true → Verdict script (lines_text lines ++ rest)
by_header script [] rest h k = HasFault 1 (bare_fault script rest k)
by_header script (text ∷ lines) rest h k = by_test (is_same text (codes "log events")) refl
  where
    two : (is_one_line text ≡ true) × (list_all is_one_line lines ≡ true)
    two = parts (is_one_line text) (list_all is_one_line lines) h

    by_test : (t : Bool) → is_same text (codes "log events") ≡ t
        → Verdict script ((line text ++ lines_text lines) ++ rest)
    by_test true is =
        let joined = λ (first : List ℕ). line first ++ (lines_text lines ++ rest) in
        verdict_at script _ _
        (ap joined (sym (same_is text (codes "log events") is))
        ∙ sym (append_assoc (line text) (lines_text lines) rest))
        (decided script [] lines rest refl two.1 k)
    by_test false is =
        verdict_at script _ _ (sym (append_assoc (line text) (lines_text lines) rest))
        (HasFault 1 (header_fault script text (lines_text lines ++ rest) two.0
        (not_same text (codes "log events") is)))

-- Every text is a text of view `events` or has a fault.
pub text_or_fault : (script : Script) (bytes : List ℕ) → Verdict script bytes
text_or_fault script bytes =
    let parted = part bytes in
    verdict_at script _ _ parted.bytes_are (by_header script parted.lines parted.rest parted.whole parted.one)
