-- The lines of views `all` and `events`, as entries are added, and a whole log.
use Rattle.std.proofs.Common.{◌≡◌, ℕ, suc, ◌+◌, ◌<◌, List, [], ◌∷◌, ◌++◌, length, take, drop, get_or, Option, None}
use Rattle.std.proofs.Common.{Some}
use Rattle.std.proofs.Common.{Result, Ok, Err, OnOk, OnErr, refl, sym, ap, ◌∙◌, arith, append_assoc}
use Rattle.std.proofs.Common.{append-nil, inl}
use Rattle.std.proofs.Common.{take-append-drop, length-take}
use Rattle.w32_base.specs.declared.event.Event.{Event}
use Rattle.w32_base.specs.declared.entry.Entry.{Entry}
use Rattle.w32_base.specs.declared.entry.End.{End}
use Rattle.w32_base.specs.declared.entry.View.{View}
use Rattle.w32_base.specs.declared.entry.View.TheVariants as view
use Rattle.cyg_io.specs.Sink.{EndsOneLine, TakesOnly}
use Rattle.log_spec.specs.Texts.{line}
use Rattle.log_spec.specs.Views.{view_text, end_text, entry_text, entry_lines, event_lines, events_of, log_text}
use Rattle.log_text.specs.Pieces.{IsPiece, lines_of, event_line}
use Rattle.log_text.specs.Writes.{Told, WritesAll, WritesPart}
use Rattle.log_text.proofs.CallerLines.{entry_more}
use Rattle.log_text.proofs.Writing.{writes_none, writes_both, writes_part, last_whole, last_part, all_weaker}
use Rattle.log_text.proofs.Writing.{part_weaker}
use Rattle.log_text.proofs.Writing.{ok_weaker, err_weaker}

-- lines of entries, and then of more
entry_lines-append : (n : ℕ) (xs ys : List Entry)
    → entry_lines n (xs ++ ys) ≡ entry_lines n xs ++ entry_lines (n + length xs) ys
entry_lines-append n [] ys = let e : n ≡ n + 0 = omega arith in ap (λ (m : ℕ). entry_lines m ys) e
entry_lines-append n (x ∷ xs) ys =
    let e : n + 1 + length xs ≡ n + suc (length xs) = omega arith in
    ap (λ (l : List ℕ). line (entry_text n x) ++ l)
    (entry_lines-append (n + 1) xs ys ∙ ap (λ (m : ℕ). entry_lines (n + 1) xs ++ entry_lines m ys) e)
    ∙ sym (append_assoc (line (entry_text n x)) (entry_lines (n + 1) xs) (entry_lines (n + suc (length xs)) ys))

taken : (entries : List Entry) (i : ℕ) → i < length entries → 1 + length (take i entries) ≡ i + 1
taken entries i h = omega (arith, length-take i entries)

-- the line of one entry more
pub entries_next : (entries : List Entry) (i : ℕ) (e : Entry) (text : List ℕ) → i < length entries
    → e ≡ get_or entries i e → text ≡ entry_text (i + 1) e
    → entry_lines 1 (take (i + 1) entries) ≡ entry_lines 1 (take i entries) ++ line text
entries_next entries i e text h is text_is =
    ap (entry_lines 1) (entry_more entries i e h is) ∙ entry_lines-append 1 (take i entries) (e ∷ [])
    ∙ ap (λ (m : ℕ). entry_lines 1 (take i entries) ++ (line (entry_text m e) ++ [])) (taken entries i h)
    ∙ ap (λ (l : List ℕ). entry_lines 1 (take i entries) ++ l)
    (append-nil (line (entry_text (i + 1) e)) ∙ ap line (sym text_is))

pub entries_at : (entries : List Entry) (i : ℕ) (e : Entry) (text : List ℕ) → i < length entries
    → e ≡ get_or entries i e → text ≡ entry_text (i + 1) e
    → (zs : List ℕ) × (entry_lines 1 entries ≡ entry_lines 1 (take i entries) ++ (line text ++ zs))
entries_at entries i e text h is text_is =
    let rest = entry_lines (1 + length (take (i + 1) entries)) (drop (i + 1) entries) in (
      rest,
      ap (entry_lines 1) (sym (take-append-drop (i + 1) entries))
          ∙ entry_lines-append 1 (take (i + 1) entries) (drop (i + 1) entries)
          ∙ ap (λ (l : List ℕ). l ++ rest) (entries_next entries i e text h is text_is)
          ∙ append_assoc (entry_lines 1 (take i entries)) (line text) rest,
    )

-- lines of events
abbrev lines_of_events : List Entry → List ℕ
lines_of_events entries = event_lines (events_of entries)

one_event : (o : Option Event) (e : Entry) (entries : List Entry) → e.event ≡ o
    → lines_of_events (e ∷ entries) ≡ event_line o ++ lines_of_events entries
one_event None e entries is = rw is refl
one_event (Some f) e entries is = rw is refl

events-append : (xs ys : List Entry) → lines_of_events (xs ++ ys) ≡ lines_of_events xs ++ lines_of_events ys
events-append [] ys = refl
events-append (x ∷ xs) ys =
    one_event x.event x (xs ++ ys) refl ∙ ap (λ (l : List ℕ). event_line x.event ++ l) (events-append xs ys)
    ∙ sym (append_assoc (event_line x.event) (lines_of_events xs) (lines_of_events ys))
    ∙ ap (λ (l : List ℕ). l ++ lines_of_events ys) (sym (one_event x.event x xs refl))

pub events_next : (entries : List Entry) (i : ℕ) (e : Entry) → i < length entries → e ≡ get_or entries i e
    → lines_of_events (take (i + 1) entries) ≡ lines_of_events (take i entries) ++ event_line e.event
events_next entries i e h is =
    ap lines_of_events (entry_more entries i e h is) ∙ events-append (take i entries) (e ∷ [])
    ∙ ap (λ (l : List ℕ). lines_of_events (take i entries) ++ l)
    (one_event e.event e [] refl ∙ append-nil (event_line e.event))

pub events_at : (entries : List Entry) (i : ℕ) (e : Entry) → i < length entries → e ≡ get_or entries i e
    → lines_of_events entries
    ≡ lines_of_events (take i entries) ++ (event_line e.event ++ lines_of_events (drop (i + 1) entries))
events_at entries i e h is =
    ap lines_of_events (sym (take-append-drop (i + 1) entries))
    ∙ events-append (take (i + 1) entries) (drop (i + 1) entries)
    ∙ ap (λ (l : List ℕ). l ++ lines_of_events (drop (i + 1) entries)) (events_next entries i e h is)
    ∙ append_assoc (lines_of_events (take i entries)) (event_line e.event) (lines_of_events (drop (i + 1) entries))

-- a line is a piece of the log in each view
line_is_piece : (v : View) (entries : List Entry) (piece : List ℕ) → EndsOneLine piece → IsPiece v entries piece
line_is_piece view.All entries piece ends = ends
line_is_piece view.Events entries piece ends = ends
line_is_piece view.Calls entries piece ends = inl ends

log_parts : (v : View) (entries : List Entry) (e : End)
    → log_text v entries e ≡ line (view_text v) ++ (lines_of v entries ++ line (end_text e))
unfolding log_text lines_of
log_parts v entries e = refl

-- the log, as it is written
pub log_stopped_first : (v : View) (entries : List Entry) (e : End) (text : List ℕ) (a b : Told) → text ≡ view_text v
    → WritesPart EndsOneLine (line text) a b → WritesPart (IsPiece v entries) (log_text v entries e) a b
log_stopped_first v entries e text a b is part =
    writes_part (IsPiece v entries) [] (line text) (lines_of v entries ++ line (end_text e)) (log_text v entries e)
    a a b
    (log_parts v entries e
    ∙ ap (λ (l : List ℕ). line l ++ (lines_of v entries ++ line (end_text e))) (sym is))
    (writes_none (IsPiece v entries) [] a refl)
    (part_weaker EndsOneLine (IsPiece v entries) (line_is_piece v entries) (line text) a b part)

pub log_stopped : (v : View) (entries : List Entry) (e : End) (text : List ℕ) (a b c : Told) → text ≡ view_text v
    → WritesAll EndsOneLine (line text) a b → WritesPart (IsPiece v entries) (lines_of v entries) b c
    → WritesPart (IsPiece v entries) (log_text v entries e) a c
log_stopped v entries e text a b c is first part =
    writes_part (IsPiece v entries) (line text) (lines_of v entries) (line (end_text e)) (log_text v entries e) a b c
    (log_parts v entries e
    ∙ ap (λ (l : List ℕ). line l ++ (lines_of v entries ++ line (end_text e))) (sym is))
    (all_weaker EndsOneLine (IsPiece v entries) (line_is_piece v entries) (line text) a b first) part

log_begun : (v : View) (entries : List Entry) (text : List ℕ) (a b c : Told)
    → WritesAll EndsOneLine (line text) a b → WritesAll (IsPiece v entries) (lines_of v entries) b c
    → WritesAll (IsPiece v entries) (line text ++ lines_of v entries) a c
log_begun v entries text a b c first second =
    writes_both (IsPiece v entries) (line text) (lines_of v entries) _ a b c refl
    (all_weaker EndsOneLine (IsPiece v entries) (line_is_piece v entries) (line text) a b first) second

log_is : (v : View) (entries : List Entry) (e : End) (text last : List ℕ) → text ≡ view_text v → last ≡ end_text e
    → log_text v entries e ≡ (line text ++ lines_of v entries) ++ line last
log_is v entries e text last is last_is =
    log_parts v entries e
    ∙ ap (λ (l : List ℕ). line l ++ (lines_of v entries ++ line (end_text e))) (sym is)
    ∙ ap (λ (l : List ℕ). line text ++ (lines_of v entries ++ line l)) (sym last_is)
    ∙ sym (append_assoc (line text) (lines_of v entries) (line last))

pub log_whole : {T E : Type 0} (r : Result T E) (v : View) (entries : List Entry) (e : End) (text last : List ℕ)
    (a b c d : Told) → text ≡ view_text v → last ≡ end_text e → WritesAll EndsOneLine (line text) a b
    → WritesAll (IsPiece v entries) (lines_of v entries) b c → OnOk r (WritesAll EndsOneLine (line last) c d)
    → OnOk r (WritesAll (IsPiece v entries) (log_text v entries e) a d)
log_whole r v entries e text last a b c d is last_is first second third =
    last_whole r (IsPiece v entries) (line text ++ lines_of v entries) (line last) (log_text v entries e) a c d
    (log_is v entries e text last is last_is) (log_begun v entries text a b c first second)
    (ok_weaker r (all_weaker EndsOneLine (IsPiece v entries) (line_is_piece v entries) (line last) c d) third)

pub log_part : {T E : Type 0} (r : Result T E) (v : View) (entries : List Entry) (e : End) (text last : List ℕ)
    (a b c d : Told) → text ≡ view_text v → last ≡ end_text e → WritesAll EndsOneLine (line text) a b
    → WritesAll (IsPiece v entries) (lines_of v entries) b c → OnErr r (WritesPart EndsOneLine (line last) c d)
    → OnErr r (WritesPart (IsPiece v entries) (log_text v entries e) a d)
log_part r v entries e text last a b c d is last_is first second third =
    last_part r (IsPiece v entries) (line text ++ lines_of v entries) (line last) (log_text v entries e) a c d
    (log_is v entries e text last is last_is) (log_begun v entries text a b c first second)
    (err_weaker r (part_weaker EndsOneLine (IsPiece v entries) (line_is_piece v entries) (line last) c d) third)

-- the pieces, whatever the answer
pub pieces_of : {T E : Type 0} (r : Result T E) (Q : List ℕ → Type 0) (text : List ℕ) (a b : Told)
    → OnOk r (WritesAll Q text a b) → OnErr r (WritesPart Q text a b) → TakesOnly Q a.pieces b.pieces
pieces_of (Ok x) Q text a b whole part = whole.pieces
pieces_of (Err e) Q text a b whole part = part.pieces

-- a text at the beginning of a line
pub text_at : (start text known given : List ℕ) → start ≡ [] → known ≡ start ++ text → text ≡ given → known ≡ given
text_at start text known given none is text_is = is ∙ ap (λ (l : List ℕ). l ++ text) none ∙ text_is
