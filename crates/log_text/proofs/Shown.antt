-- What the entries show, as entries are added.
use Rattle.std.proofs.Common.{◌≡◌, ℕ, ◌+◌, ◌<◌, List, [], ◌∷◌, ◌++◌, length, take, drop, get_or, flat_map}
use Rattle.std.proofs.Common.{Bool, true, false, not}
use Rattle.std.proofs.Common.{IsTrue, ◌↔◌, length-append}
use Rattle.std.proofs.Common.{sym, ap, ◌∙◌, refl, arith, append_assoc, append-nil, take-append-drop}
use Rattle.std.proofs.lemmas.Grind.{flat_map-append}
use Rattle.w32_base.specs.declared.entry.Entry.{Entry}
use Rattle.tty_spec.specs.Terminal.{Terminal}
use Rattle.log_spec.specs.Texts.{byte_text}
use Rattle.log_spec.specs.Output.{terminal_after, shown_by, output_from}
use Rattle.log_text.proofs.CallerLines.{entry_more}

-- the terminal after the entries
abbrev pub terminal_from : Terminal → List Entry → Terminal
terminal_from terminal [] = terminal
terminal_from terminal (entry ∷ entries) =
    terminal_from (terminal_after terminal entry.call entry.outcome) entries

terminal_from-more : (terminal : Terminal) (xs : List Entry) (e : Entry)
    → terminal_from terminal (xs ++ e ∷ []) ≡ terminal_after (terminal_from terminal xs) e.call e.outcome
terminal_from-more terminal [] e = refl
terminal_from-more terminal (x ∷ xs) e = terminal_from-more (terminal_after terminal x.call x.outcome) xs e

output_from-append : (terminal : Terminal) (xs ys : List Entry)
    → output_from terminal (xs ++ ys) ≡ output_from terminal xs ++ output_from (terminal_from terminal xs) ys
output_from-append terminal [] ys = refl
output_from-append terminal (x ∷ xs) ys =
    ap (λ (l : List ℕ). shown_by terminal x.outcome x.event ++ l)
    (output_from-append (terminal_after terminal x.call x.outcome) xs ys)
    ∙ sym (append_assoc (shown_by terminal x.outcome x.event)
    (output_from (terminal_after terminal x.call x.outcome) xs) _)

-- one entry more
pub terminal_next : (terminal : Terminal) (entries : List Entry) (i : ℕ) (e : Entry) → i < length entries
    → e ≡ get_or entries i e
    → terminal_from terminal (take (i + 1) entries)
    ≡ terminal_after (terminal_from terminal (take i entries)) e.call e.outcome
terminal_next terminal entries i e h is =
    ap (terminal_from terminal) (entry_more entries i e h is) ∙ terminal_from-more terminal (take i entries) e

pub output_next : (terminal : Terminal) (entries : List Entry) (i : ℕ) (e : Entry) → i < length entries
    → e ≡ get_or entries i e
    → output_from terminal (take (i + 1) entries)
    ≡ output_from terminal (take i entries)
    ++ shown_by (terminal_from terminal (take i entries)) e.outcome e.event
output_next terminal entries i e h is =
    ap (output_from terminal) (entry_more entries i e h is) ∙ output_from-append terminal (take i entries) (e ∷ [])
    ∙ ap (λ (l : List ℕ). output_from terminal (take i entries) ++ l)
    (append-nil (shown_by (terminal_from terminal (take i entries)) e.outcome e.event))

-- what one entry shows stands behind what the ones before it show
pub output_at : (terminal : Terminal) (entries : List Entry) (i : ℕ) (e : Entry) → i < length entries
    → e ≡ get_or entries i e
    → (zs : List ℕ) × (output_from terminal entries ≡ output_from terminal (take i entries)
    ++ (shown_by (terminal_from terminal (take i entries)) e.outcome e.event ++ zs))
output_at terminal entries i e h is =
    let rest = output_from (terminal_from terminal (take (i + 1) entries)) (drop (i + 1) entries) in (
      rest,
      ap (output_from terminal) (sym (take-append-drop (i + 1) entries))
          ∙ output_from-append terminal (take (i + 1) entries) (drop (i + 1) entries)
          ∙ ap (λ (l : List ℕ). l ++ rest) (output_next terminal entries i e h is)
          ∙ append_assoc (output_from terminal (take i entries)) _ rest,
    )

-- the same of the digits
pub digits_next : (terminal : Terminal) (entries : List Entry) (i : ℕ) (e : Entry) (shown : List ℕ)
    → i < length entries → e ≡ get_or entries i e
    → shown ≡ shown_by (terminal_from terminal (take i entries)) e.outcome e.event
    → flat_map byte_text (output_from terminal (take (i + 1) entries))
    ≡ flat_map byte_text (output_from terminal (take i entries)) ++ flat_map byte_text shown
digits_next terminal entries i e shown h is shown_is =
    ap (flat_map byte_text)
    (output_next terminal entries i e h is
    ∙ ap (λ (l : List ℕ). output_from terminal (take i entries) ++ l) (sym shown_is))
    ∙ flat_map-append byte_text (output_from terminal (take i entries)) shown

pub digits_at : (terminal : Terminal) (entries : List Entry) (i : ℕ) (e : Entry) (shown : List ℕ)
    → i < length entries → e ≡ get_or entries i e
    → shown ≡ shown_by (terminal_from terminal (take i entries)) e.outcome e.event
    → (zs : List ℕ) × (flat_map byte_text (output_from terminal entries)
    ≡ flat_map byte_text (output_from terminal (take i entries)) ++ (flat_map byte_text shown ++ zs))
digits_at terminal entries i e shown h is shown_is =
    let whole = output_at terminal entries i e h is in (
      flat_map byte_text whole.0,
      ap (flat_map byte_text)
          (whole.1 ∙ ap (λ (l : List ℕ). output_from terminal (take i entries) ++ (l ++ whole.0)) (sym shown_is))
          ∙ flat_map-append byte_text (output_from terminal (take i entries)) (shown ++ whole.0)
          ∙ ap (λ (l : List ℕ). flat_map byte_text (output_from terminal (take i entries)) ++ l)
          (flat_map-append byte_text shown whole.0),
    )

-- what the code knows of an entry, in these words
pub shown_as : (terminal tty : Terminal) (entries : List Entry) (e : Entry) (shown : List ℕ)
    → tty ≡ terminal_from terminal entries → shown ≡ shown_by tty e.outcome e.event
    → shown ≡ shown_by (terminal_from terminal entries) e.outcome e.event
shown_as terminal tty entries e shown is shown_is = shown_is ∙ ap (λ (t : Terminal). shown_by t e.outcome e.event) is

pub terminal_more : (terminal tty new : Terminal) (entries : List Entry) (i : ℕ) (e : Entry) → i < length entries
    → e ≡ get_or entries i e → tty ≡ terminal_from terminal (take i entries)
    → new ≡ terminal_after tty e.call e.outcome → new ≡ terminal_from terminal (take (i + 1) entries)
terminal_more terminal tty new entries i e h is tty_is new_is =
    new_is ∙ ap (λ (t : Terminal). terminal_after t e.call e.outcome) tty_is
    ∙ sym (terminal_next terminal entries i e h is)

-- whether something is shown
pub none_shown : IsTrue false ↔ (0 < 0)
none_shown = (λ e. absurd cc, λ h. absurd (omega arith))

length_more : (terminal : Terminal) (entries : List Entry) (i : ℕ) (e : Entry) (shown : List ℕ) → i < length entries
    → e ≡ get_or entries i e → shown ≡ shown_by (terminal_from terminal (take i entries)) e.outcome e.event
    → length (output_from terminal (take (i + 1) entries))
    ≡ length (output_from terminal (take i entries)) + length shown
length_more terminal entries i e shown h is shown_is =
    ap length (output_next terminal entries i e h is
    ∙ ap (λ (l : List ℕ). output_from terminal (take i entries) ++ l) (sym shown_is))
    ∙ length-append (output_from terminal (take i entries)) shown

pub some_kept : (terminal : Terminal) (entries : List Entry) (i : ℕ) (e : Entry) (shown : List ℕ) (old new : Bool)
    → i < length entries → e ≡ get_or entries i e
    → shown ≡ shown_by (terminal_from terminal (take i entries)) e.outcome e.event
    → (IsTrue old ↔ (0 < length (output_from terminal (take i entries)))) → old ≡ true → new ≡ true
    → IsTrue new ↔ (0 < length (output_from terminal (take (i + 1) entries)))
some_kept terminal entries i e shown old new h is shown_is before old_is new_is =
    let size = length_more terminal entries i e shown h is shown_is in
    (λ t. omega (arith, size, before.0 old_is), λ some. new_is)

size_of : (shown : List ℕ) (none : Bool) → (IsTrue none ↔ (shown ≡ [])) → none ≡ false → 0 < length shown
size_of [] none is none_is = absurd (cc (sym none_is ∙ is.1 refl))
size_of (b ∷ shown) none is none_is = omega arith

pub some_found : (terminal : Terminal) (entries : List Entry) (i : ℕ) (e : Entry) (shown : List ℕ) (old new none : Bool)
    → i < length entries → e ≡ get_or entries i e
    → shown ≡ shown_by (terminal_from terminal (take i entries)) e.outcome e.event
    → (IsTrue old ↔ (0 < length (output_from terminal (take i entries)))) → old ≡ false → new ≡ not none
    → (IsTrue none ↔ (shown ≡ [])) → IsTrue new ↔ (0 < length (output_from terminal (take (i + 1) entries)))
some_found terminal entries i e shown old new true h is shown_is before old_is new_is none_is =
    let size = length_more terminal entries i e shown h is shown_is in
    let empty = ap length (none_is.0 refl) in
    (λ t. absurd (cc (sym t ∙ new_is)), λ some. absurd (cc (sym old_is ∙ before.1 (omega (arith, size, empty, some)))))
some_found terminal entries i e shown old new false h is shown_is before old_is new_is none_is =
    let size = length_more terminal entries i e shown h is shown_is in
    let some = size_of shown false none_is refl in
    (λ t. omega (arith, size, some), λ more. new_is)
