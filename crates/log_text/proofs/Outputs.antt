-- The terminal's line, and view `calls` with it.
use Rattle.std.proofs.Common.{◌≡◌, ℕ, ◌+◌, ◌<◌, List, [], ◌∷◌, ◌++◌, length, take, drop, get_or, flat_map, codes}
use Rattle.std.proofs.Common.{Result, OnOk, OnErr, inl, inr, refl, sym, ap, ◌∙◌, subst, append_assoc, arith}
use Rattle.std.proofs.Common.{take-append-drop}
use Rattle.w32_base.specs.declared.entry.Entry.{Entry}
use Rattle.w32_base.specs.declared.entry.View.{View}
use Rattle.w32_base.specs.declared.entry.View.TheVariants as view
use Rattle.tty_spec.specs.Terminal.{opening_terminal}
use Rattle.cyg_io.specs.Sink.{EndsOneLine, IsRestOf}
use Rattle.log_spec.specs.Texts.{line, byte_text, bytes_text}
use Rattle.log_spec.specs.Output.{output_from, shown_by}
use Rattle.log_spec.specs.Views.{entry_lines, event_lines, events_of}
use Rattle.log_spec.specs.CallsViewLaws.{StandsIn}
use Rattle.log_text.specs.Pieces.{IsPiece, terminal_line, lines_of}
use Rattle.log_text.specs.Writes.{Told, WritesAll, WritesPart}
use Rattle.log_text.specs.Callers.{groups_below}
use Rattle.log_text.proofs.Shown.{terminal_from, digits_next, digits_at}
use Rattle.log_text.proofs.Writing.{writes_none, writes_both, writes_part, last_whole, last_part, all_weaker}
use Rattle.log_text.proofs.Writing.{part_weaker}
use Rattle.log_text.proofs.Writing.{ok_weaker, err_weaker}

-- a rest of a part of the whole stands in it
pub rest_stands : (before text after whole piece : List ℕ) → whole ≡ before ++ (text ++ after) → IsRestOf text piece
    → StandsIn whole piece
rest_stands before text after whole piece is (n, short, rest) = record {
  before = before ++ take n text;
  after = after;
  whole = is
      ∙ ap (λ (l : List ℕ). before ++ (l ++ after)) (sym (take-append-drop n text))
      ∙ ap (λ (l : List ℕ). before ++ l) (append_assoc (take n text) (drop n text) after)
      ∙ sym (append_assoc before (take n text) (drop n text ++ after))
      ∙ ap (λ (l : List ℕ). (before ++ take n text) ++ (l ++ after)) (sym rest);
}

-- the digits of what the entries show
abbrev pub digits_of : List Entry → List ℕ
digits_of entries = flat_map byte_text (output_from opening_terminal entries)

-- one entry more was written, or the sink had a fault
pub shown_all : (entries : List Entry) (i : ℕ) (e : Entry) (shown text : List ℕ) (a b c : Told) → i < length entries
    → e ≡ get_or entries i e → shown ≡ shown_by (terminal_from opening_terminal (take i entries)) e.outcome e.event
    → text ≡ flat_map byte_text shown → WritesAll (StandsIn (digits_of entries)) (digits_of (take i entries)) a b
    → WritesAll (IsRestOf text) text b c
    → WritesAll (StandsIn (digits_of entries)) (digits_of (take (i + 1) entries)) a c
shown_all entries i e shown text a b c h is shown_is text_is first second =
    let at = digits_at opening_terminal entries i e shown h is shown_is in
    let whole = at.1 ∙ ap (λ (l : List ℕ). digits_of (take i entries) ++ (l ++ at.0)) (sym text_is) in
    writes_both (StandsIn (digits_of entries)) (digits_of (take i entries)) text _ a b c
    (digits_next opening_terminal entries i e shown h is shown_is
    ∙ ap (λ (l : List ℕ). digits_of (take i entries) ++ l) (sym text_is))
    first
    (all_weaker (IsRestOf text) (StandsIn (digits_of entries))
    (λ piece rest. rest_stands (digits_of (take i entries)) text at.0 (digits_of entries) piece whole rest) text b c
    second)

pub shown_part : (entries : List Entry) (i : ℕ) (e : Entry) (shown text : List ℕ) (a b c : Told) → i < length entries
    → e ≡ get_or entries i e → shown ≡ shown_by (terminal_from opening_terminal (take i entries)) e.outcome e.event
    → text ≡ flat_map byte_text shown → WritesAll (StandsIn (digits_of entries)) (digits_of (take i entries)) a b
    → WritesPart (IsRestOf text) text b c → WritesPart (StandsIn (digits_of entries)) (digits_of entries) a c
shown_part entries i e shown text a b c h is shown_is text_is first second =
    let at = digits_at opening_terminal entries i e shown h is shown_is in
    let whole = at.1 ∙ ap (λ (l : List ℕ). digits_of (take i entries) ++ (l ++ at.0)) (sym text_is) in
    writes_part (StandsIn (digits_of entries)) (digits_of (take i entries)) text at.0 (digits_of entries) a b c whole
    first
    (part_weaker (IsRestOf text) (StandsIn (digits_of entries))
    (λ piece rest. rest_stands (digits_of (take i entries)) text at.0 (digits_of entries) piece whole rest) text b c
    second)

-- the text of what one entry shows
pub shown_text : (start shown slice text : List ℕ) → start ≡ [] → slice ≡ shown
    → text ≡ start ++ flat_map byte_text slice
    → text ≡ flat_map byte_text shown
shown_text start shown slice text none slice_is is =
    is ∙ ap (λ (l : List ℕ). l ++ flat_map byte_text slice) none ∙ ap (flat_map byte_text) slice_is

-- the beginning of the terminal's line stands in it, and the digits do
first_stands : (entries : List Entry) (text piece : List ℕ) → text ≡ codes "tty " → IsRestOf text piece
    → IsPiece view.Calls entries piece
unfolding terminal_line
first_stands entries text piece is rest =
    inr (rest_stands [] text (bytes_text (output_from opening_terminal entries) ++ 10 ∷ []) (terminal_line entries)
    piece (ap (λ (l : List ℕ). l ++ (bytes_text (output_from opening_terminal entries) ++ 10 ∷ [])) (sym is)) rest)

no_bytes : (before piece after : List ℕ) → [] ≡ before ++ (piece ++ after) → piece ≡ []
no_bytes [] [] after is = refl
no_bytes [] (p ∷ piece) after is = absurd (cc is)
no_bytes (b ∷ before) piece after is = absurd (cc is)

digits_stand : (out piece : List ℕ) → StandsIn (flat_map byte_text out) piece
    → StandsIn (codes "tty " ++ (bytes_text out ++ 10 ∷ [])) piece
digits_stand [] piece stands = record {
  before = [];
  after = codes "tty " ++ (bytes_text [] ++ 10 ∷ []);
  whole = ap (λ (l : List ℕ). l ++ (codes "tty " ++ (bytes_text [] ++ 10 ∷ [])))
      (sym (no_bytes stands.before piece stands.after stands.whole));
}
digits_stand (b ∷ out) piece stands = record {
  before = codes "tty " ++ stands.before;
  after = stands.after ++ 10 ∷ [];
  whole = ap (λ (l : List ℕ). codes "tty " ++ l)
      (ap (λ (l : List ℕ). l ++ 10 ∷ []) stands.whole
      ∙ append_assoc stands.before (piece ++ stands.after) (10 ∷ [])
      ∙ ap (λ (l : List ℕ). stands.before ++ l) (append_assoc piece stands.after (10 ∷ [])));
}

shown_stands : (entries : List Entry) (piece : List ℕ) → StandsIn (digits_of entries) piece
    → IsPiece view.Calls entries piece
unfolding terminal_line
shown_stands entries piece stands = inr (digits_stand (output_from opening_terminal entries) piece stands)

-- the parts of the line make it whole
parted : (out last : List ℕ) → (0 < length out → last ≡ []) → (length out ≡ 0 → last ≡ codes "-")
    → codes "tty " ++ (bytes_text out ++ 10 ∷ []) ≡ codes "tty " ++ (flat_map byte_text out ++ line last)
parted [] last some none = ap (λ (l : List ℕ). codes "tty " ++ (l ++ 10 ∷ [])) (sym (none refl))
parted (b ∷ out) last some none =
    ap (λ (l : List ℕ). codes "tty " ++ (flat_map byte_text (b ∷ out) ++ (l ++ 10 ∷ [])))
    (sym (some (omega arith)))

shown_prefix : (out : List ℕ) → (zs : List ℕ) × (bytes_text out ++ 10 ∷ [] ≡ flat_map byte_text out ++ zs)
shown_prefix [] = (codes "-" ++ 10 ∷ [], refl)
shown_prefix (b ∷ out) = (10 ∷ [], refl)

-- the terminal's line, as it is written
pub output_begun : (entries : List Entry) (text : List ℕ) (a b : Told) → text ≡ codes "tty "
    → WritesAll (IsRestOf text) text a b → WritesAll (IsPiece view.Calls entries) (codes "tty ") a b
output_begun entries text a b is first =
    subst (λ (l : List ℕ). WritesAll (IsPiece view.Calls entries) l a b) is
    (all_weaker (IsRestOf text) (IsPiece view.Calls entries) (λ piece rest. first_stands entries text piece is rest)
    text a b first)

pub output_stopped_first : (entries : List Entry) (text : List ℕ) (a b : Told) → text ≡ codes "tty "
    → WritesPart (IsRestOf text) text a b → WritesPart (IsPiece view.Calls entries) (terminal_line entries) a b
unfolding terminal_line
output_stopped_first entries text a b is part =
    writes_part (IsPiece view.Calls entries) [] text (bytes_text (output_from opening_terminal entries) ++ 10 ∷ [])
    (terminal_line entries) a a b
    (ap (λ (l : List ℕ). l ++ (bytes_text (output_from opening_terminal entries) ++ 10 ∷ [])) (sym is))
    (writes_none (IsPiece view.Calls entries) [] a refl)
    (part_weaker (IsRestOf text) (IsPiece view.Calls entries) (λ piece rest. first_stands entries text piece is rest)
    text a b part)

pub output_stopped : (entries : List Entry) (text : List ℕ) (a b c : Told) → text ≡ codes "tty "
    → WritesAll (IsRestOf text) text a b → WritesPart (StandsIn (digits_of entries)) (digits_of entries) b c
    → WritesPart (IsPiece view.Calls entries) (terminal_line entries) a c
unfolding terminal_line
output_stopped entries text a b c is first part =
    let behind = shown_prefix (output_from opening_terminal entries) in
    writes_part (IsPiece view.Calls entries) (codes "tty ") (digits_of entries) behind.0 (terminal_line entries) a b c
    (ap (λ (l : List ℕ). codes "tty " ++ l) behind.1) (output_begun entries text a b is first)
    (part_weaker (StandsIn (digits_of entries)) (IsPiece view.Calls entries) (shown_stands entries) (digits_of entries)
    b c part)

output_shown : (entries : List Entry) (text : List ℕ) (a b c : Told) → text ≡ codes "tty "
    → WritesAll (IsRestOf text) text a b → WritesAll (StandsIn (digits_of entries)) (digits_of entries) b c
    → WritesAll (IsPiece view.Calls entries) (codes "tty " ++ digits_of entries) a c
output_shown entries text a b c is first second =
    writes_both (IsPiece view.Calls entries) (codes "tty ") (digits_of entries) _ a b c refl
    (output_begun entries text a b is first)
    (all_weaker (StandsIn (digits_of entries)) (IsPiece view.Calls entries) (shown_stands entries) (digits_of entries)
    b c second)

output_parts : (entries : List Entry) (last : List ℕ) → (0 < length (output_from opening_terminal entries) → last ≡ [])
    → (length (output_from opening_terminal entries) ≡ 0 → last ≡ codes "-")
    → terminal_line entries ≡ (codes "tty " ++ digits_of entries) ++ line last
unfolding terminal_line
output_parts entries last some none =
    parted (output_from opening_terminal entries) last some none
    ∙ sym (append_assoc (codes "tty ") (digits_of entries) (line last))

pub output_whole : {T E : Type 0} (r : Result T E) (entries : List Entry) (text last : List ℕ) (a b c d : Told)
    → text ≡ codes "tty " → (0 < length (output_from opening_terminal entries) → last ≡ [])
    → (length (output_from opening_terminal entries) ≡ 0 → last ≡ codes "-") → WritesAll (IsRestOf text) text a b
    → WritesAll (StandsIn (digits_of entries)) (digits_of entries) b c
    → OnOk r (WritesAll EndsOneLine (line last) c d)
    → OnOk r (WritesAll (IsPiece view.Calls entries) (terminal_line entries) a d)
output_whole r entries text last a b c d is some none first second third =
    last_whole r (IsPiece view.Calls entries) (codes "tty " ++ digits_of entries) (line last) (terminal_line entries)
    a c d (output_parts entries last some none) (output_shown entries text a b c is first second)
    (ok_weaker r (all_weaker EndsOneLine (IsPiece view.Calls entries) (λ piece ends. inl ends) (line last) c d) third)

pub output_part : {T E : Type 0} (r : Result T E) (entries : List Entry) (text last : List ℕ) (a b c d : Told)
    → text ≡ codes "tty " → (0 < length (output_from opening_terminal entries) → last ≡ [])
    → (length (output_from opening_terminal entries) ≡ 0 → last ≡ codes "-") → WritesAll (IsRestOf text) text a b
    → WritesAll (StandsIn (digits_of entries)) (digits_of entries) b c
    → OnErr r (WritesPart EndsOneLine (line last) c d)
    → OnErr r (WritesPart (IsPiece view.Calls entries) (terminal_line entries) a d)
output_part r entries text last a b c d is some none first second third =
    last_part r (IsPiece view.Calls entries) (codes "tty " ++ digits_of entries) (line last) (terminal_line entries)
    a c d (output_parts entries last some none) (output_shown entries text a b c is first second)
    (err_weaker r (part_weaker EndsOneLine (IsPiece view.Calls entries) (λ piece ends. inl ends) (line last) c d)
    third)

-- the groups, and then the terminal's line
calls_lines : (entries : List Entry) → lines_of view.Calls entries ≡ groups_below 4002 entries ++ terminal_line entries
unfolding lines_of groups_below terminal_line
calls_lines entries = refl

pub calls_stopped : (entries : List Entry) (a b : Told) → WritesPart EndsOneLine (groups_below 4002 entries) a b
    → WritesPart (IsPiece view.Calls entries) (lines_of view.Calls entries) a b
calls_stopped entries a b part =
    writes_part (IsPiece view.Calls entries) [] (groups_below 4002 entries) (terminal_line entries)
    (lines_of view.Calls entries) a a b (calls_lines entries) (writes_none (IsPiece view.Calls entries) [] a refl)
    (part_weaker EndsOneLine (IsPiece view.Calls entries) (λ piece ends. inl ends) (groups_below 4002 entries) a b part)

pub calls_whole : {T E : Type 0} (r : Result T E) (entries : List Entry) (a b c : Told)
    → WritesAll EndsOneLine (groups_below 4002 entries) a b
    → OnOk r (WritesAll (IsPiece view.Calls entries) (terminal_line entries) b c)
    → OnOk r (WritesAll (IsPiece view.Calls entries) (lines_of view.Calls entries) a c)
calls_whole r entries a b c first second =
    last_whole r (IsPiece view.Calls entries) (groups_below 4002 entries) (terminal_line entries)
    (lines_of view.Calls entries) a b c (calls_lines entries)
    (all_weaker EndsOneLine (IsPiece view.Calls entries) (λ piece ends. inl ends) (groups_below 4002 entries) a b first)
    second

pub calls_part : {T E : Type 0} (r : Result T E) (entries : List Entry) (a b c : Told)
    → WritesAll EndsOneLine (groups_below 4002 entries) a b
    → OnErr r (WritesPart (IsPiece view.Calls entries) (terminal_line entries) b c)
    → OnErr r (WritesPart (IsPiece view.Calls entries) (lines_of view.Calls entries) a c)
calls_part r entries a b c first second =
    last_part r (IsPiece view.Calls entries) (groups_below 4002 entries) (terminal_line entries)
    (lines_of view.Calls entries) a b c (calls_lines entries)
    (all_weaker EndsOneLine (IsPiece view.Calls entries) (λ piece ends. inl ends) (groups_below 4002 entries) a b first)
    second

-- the lines of the other views
pub lines_whole : {T E : Type 0} (r : Result T E) (v w : View) (entries : List Entry) (text : List ℕ) (Q : List ℕ
    → Type 0)
    (a b : Told) → v ≡ w → ((piece : List ℕ) → Q piece → IsPiece w entries piece) → lines_of w entries ≡ text
    → OnOk r (WritesAll Q text a b) → OnOk r (WritesAll (IsPiece v entries) (lines_of v entries) a b)
lines_whole r v w entries text Q a b is f text_is h =
    subst (λ (x : View). OnOk r (WritesAll (IsPiece x entries) (lines_of x entries) a b)) (sym is)
    (subst (λ (l : List ℕ). OnOk r (WritesAll (IsPiece w entries) l a b)) (sym text_is)
    (ok_weaker r (all_weaker Q (IsPiece w entries) f text a b) h))

pub lines_part : {T E : Type 0} (r : Result T E) (v w : View) (entries : List Entry) (text : List ℕ) (Q : List ℕ
    → Type 0)
    (a b : Told) → v ≡ w → ((piece : List ℕ) → Q piece → IsPiece w entries piece) → lines_of w entries ≡ text
    → OnErr r (WritesPart Q text a b) → OnErr r (WritesPart (IsPiece v entries) (lines_of v entries) a b)
lines_part r v w entries text Q a b is f text_is h =
    subst (λ (x : View). OnErr r (WritesPart (IsPiece x entries) (lines_of x entries) a b)) (sym is)
    (subst (λ (l : List ℕ). OnErr r (WritesPart (IsPiece w entries) l a b)) (sym text_is)
    (err_weaker r (part_weaker Q (IsPiece w entries) f text a b) h))

pub all_lines : (entries : List Entry) → lines_of view.All entries ≡ entry_lines 1 entries
unfolding lines_of
all_lines entries = refl

pub events_lines : (entries : List Entry) → lines_of view.Events entries ≡ event_lines (events_of entries)
unfolding lines_of
events_lines entries = refl
