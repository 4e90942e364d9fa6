-- Which fault of one line comes first: of its bytes, then of its place, then of its words, then of a name that stood
-- before, and last of a line more than a limit.
use Rattle.std.proofs.Common.{◌≡◌, ℕ, ◌+◌, ◌≤◌, Bool, true, false, ◌&&◌, ◌||◌, not, nat_le, nat_lt, List, []}
use Rattle.std.proofs.Common.{◌∷◌, length, Option, Some, None, refl, sym, ap, ◌∙◌, inl, inr, arith}
use Rattle.std.specs.Prelude.{if◌then◌else◌}
use Rattle.std.specs.List.{list_all}
use Rattle.std.proofs.lemmas.Bool.{cases_Bool, and_parts, and_from, leb-true, le-leb, lt-leb}
use Rattle.w32_base.specs.Names.{is_same}
use Rattle.w32_base.specs.Name.{is_name}
use Rattle.script_spec.specs.declared.fault.Kind.{Kind}
use Rattle.script_spec.specs.declared.fault.Kind.TheVariants as kind
use Rattle.script_spec.specs.declared.fault.FirstWord.{FirstWord}
use Rattle.script_spec.specs.declared.fault.FirstWord.TheVariants as first
use Rattle.script_spec.specs.declared.fault.Sort.{Sort}
use Rattle.script_spec.specs.declared.fault.Sort.TheVariants as sort
use Rattle.script_spec.specs.Lines.{Line, words_of, is_skipped}
use Rattle.script_spec.specs.Faults.{kind_number, fault_if, least}
use Rattle.script_spec.specs.Numbers.{is_empty, is_canonical, value_of, is_signed_canonical, is_in_32_bits, is_key_byte}
use Rattle.script_spec.specs.Numbers.{is_register, begins_with_r}
use Rattle.script_spec.specs.Fields.{Field, FixedWord, RegisterWord, ValueWord, PlaceWord, NumberWord, NameWord}
use Rattle.script_spec.specs.Fields.{KeyWord, number_fault, signed_fault, field_fault}
use Rattle.script_spec.specs.FirstWords.{first_word, sort_of, sort_of_words, either}
use Rattle.script_spec.specs.Forms.{form_fault, as_form, forms, forms_fault, kept_form}
use Rattle.script_spec.specs.Places.{followers, earliest, sort_number, is_one_of, place_fault, slots_of}
use Rattle.script_spec.specs.LineFaults.{is_printable, bytes_fault, pages_fault, is_named_before, twice_fault, is_full}
use Rattle.script_spec.specs.LineFaults.{written_fault, known_fault, begun_fault, is_header, words_fault, line_fault}

-- a fault, if any, of a kind from one to another
abbrev pub is_kind_within : ℕ → ℕ → Option Kind → Bool
is_kind_within low high None = true
is_kind_within low high (Some k) = nat_le low (kind_number k) && nat_le (kind_number k) high

wider : (low high less more : ℕ) (f : Option Kind) → is_kind_within low high f ≡ true → less ≤ low → high ≤ more
    → is_kind_within less more f ≡ true
wider low high less more None h a b = refl
wider low high less more (Some k) h a b =
    let n = kind_number k in
    let p = and_parts (nat_le low n) (nat_le n high) h in
    let from : low ≤ n = leb-true low n p.0 in
    let to : n ≤ high = leb-true n high p.1 in
    and_from (nat_le less n) (nat_le n more) (le-leb less n (omega arith)) (le-leb n more (omega arith))

chosen-within : (low high : ℕ) (b : Bool) (k o : Kind) → is_kind_within low high (Some k) ≡ true
    → is_kind_within low high (Some o) ≡ true → is_kind_within low high (if b then Some k else Some o) ≡ true
chosen-within low high true k o h g = h
chosen-within low high false k o h g = g

least-within : (low high : ℕ) (x y : Option Kind) → is_kind_within low high x ≡ true
    → is_kind_within low high y ≡ true → is_kind_within low high (least x y) ≡ true
least-within low high None y h g = g
least-within low high (Some k) None h g = h
least-within low high (Some k) (Some o) h g =
    chosen-within low high (nat_le (kind_number k) (kind_number o)) k o h g

if-within : (low high : ℕ) (b : Bool) (x y : Option Kind) → is_kind_within low high x ≡ true
    → is_kind_within low high y ≡ true → is_kind_within low high (if b then x else y) ≡ true
if-within low high true x y h g = h
if-within low high false x y h g = g

pub least-none_right : (x : Option Kind) → least x None ≡ x
least-none_right None = refl
least-none_right (Some k) = refl

-- where each kind of one fault is before those of another one, it comes first
least-either : (low middle next high : ℕ) (x y : Option Kind) → is_kind_within low middle x ≡ true
    → is_kind_within next high y ≡ true → middle ≤ next → least x y ≡ either x y
least-either low middle next high None y h g le = refl
least-either low middle next high (Some k) None h g le = refl
least-either low middle next high (Some k) (Some o) h g le =
    let p = and_parts (nat_le low (kind_number k)) (nat_le (kind_number k) middle) h in
    let q = and_parts (nat_le next (kind_number o)) (nat_le (kind_number o) high) g in
    let a : kind_number k ≤ middle = leb-true (kind_number k) middle p.1 in
    let b : next ≤ kind_number o = leb-true next (kind_number o) q.0 in
    rw (le-leb (kind_number k) (kind_number o) (omega arith)) refl

-- faults of a line's bytes
bytes-within : (l : Line) → is_kind_within 3 5 (bytes_fault l) ≡ true
bytes-within l =
    if-within 3 5 (not l.is_ended) (Some kind.Unfinished)
    (if not (list_all is_printable l.bytes) then Some kind.NotAscii
    else fault_if (nat_lt 200 (length l.bytes)) kind.TooLong) refl
    (if-within 3 5 (not (list_all is_printable l.bytes)) (Some kind.NotAscii)
    (fault_if (nat_lt 200 (length l.bytes)) kind.TooLong) refl
    (if-within 3 5 (nat_lt 200 (length l.bytes)) (Some kind.TooLong) None refl refl))

-- faults of a line's place
place-within : (last this : Sort) → is_kind_within 6 7 (place_fault last this) ≡ true
place-within last this =
    let late : Option Kind = if nat_le (sort_number (earliest last)) (sort_number this) then Some kind.Missing
    else Some kind.Unknown in
    if-within 6 7 (is_one_of (followers last) this) None late refl
    (if-within 6 7 (nat_le (sort_number (earliest last)) (sort_number this)) (Some kind.Missing) (Some kind.Unknown)
    refl refl)

-- faults of words
number-within : (low high : ℕ) (w : List ℕ) → is_kind_within 8 11 (number_fault low high w) ≡ true
number-within low high w =
    let range : Option Kind = fault_if (nat_lt (value_of w) low || nat_lt high (value_of w)) kind.Range in
    if-within 8 11 (is_empty w) (Some kind.Words) (if not (is_canonical w) then Some kind.BadNumber else range) refl
    (if-within 8 11 (not (is_canonical w)) (Some kind.BadNumber) range refl
    (if-within 8 11 (nat_lt (value_of w) low || nat_lt high (value_of w)) (Some kind.Range) None refl refl))

signed-within : (w : List ℕ) → is_kind_within 8 11 (signed_fault w) ≡ true
signed-within w =
    let range : Option Kind = fault_if (not (is_in_32_bits w)) kind.Range in
    if-within 8 11 (is_empty w) (Some kind.Words) (if not (is_signed_canonical w) then Some kind.BadNumber else range)
    refl
    (if-within 8 11 (not (is_signed_canonical w)) (Some kind.BadNumber) range refl
    (if-within 8 11 (not (is_in_32_bits w)) (Some kind.Range) None refl refl))

field-within : (f : Field) (w : List ℕ) → is_kind_within 8 11 (field_fault f w) ≡ true
field-within (FixedWord text) w = if-within 8 11 (not (is_same text w)) (Some kind.Words) None refl refl
field-within RegisterWord w = if-within 8 11 (not (is_register w)) (Some kind.Words) None refl refl
field-within ValueWord w =
    if-within 8 11 (begins_with_r w) (fault_if (not (is_register w)) kind.Words) (signed_fault w)
    (if-within 8 11 (not (is_register w)) (Some kind.Words) None refl refl) (signed-within w)
field-within PlaceWord w = number-within 0 18446744073709551615 w
field-within (NumberWord low high) w = number-within low high w
field-within NameWord w =
    if-within 8 11 (is_empty w) (Some kind.Words) (fault_if (not (is_name w)) kind.BadName) refl
    (if-within 8 11 (not (is_name w)) (Some kind.BadName) None refl refl)
field-within KeyWord w = if-within 8 11 (not (is_key_byte w)) (Some kind.Words) None refl refl

pub form-within : (f : List Field) (ws : List (List ℕ)) → is_kind_within 8 11 (form_fault f ws) ≡ true
form-within [] [] = refl
form-within [] (w ∷ ws) = refl
form-within (f ∷ fs) [] = refl
form-within (f ∷ fs) (w ∷ ws) =
    least-within 8 11 (field_fault f w) (form_fault fs ws) (field-within f w) (form-within fs ws)

as_form-within : (ws : List (List ℕ)) (f : Option (List Field)) → is_kind_within 8 11 (as_form ws f) ≡ true
as_form-within ws None = refl
as_form-within ws (Some f) = form-within f ws

pages-within : (word : FirstWord) (ws : List (List ℕ)) → is_kind_within 8 11 (pages_fault word ws) ≡ true
pages-within first.Module (name ∷ base ∷ size ∷ ws) =
    if-within 8 11 (nat_lt 1024 (value_of base + value_of size)) (Some kind.Range) None refl refl
pages-within _ _ = refl

chosen-either : (b : Bool) (k o : Kind) (z : Option Kind)
    → (if b then Some k else Some o) ≡ either (if b then Some k else Some o) z
chosen-either true k o z = refl
chosen-either false k o z = refl

least_least-either : (low middle next high : ℕ) (x y z : Option Kind) → is_kind_within low middle x ≡ true
    → is_kind_within low middle y ≡ true → is_kind_within next high z ≡ true → middle ≤ next
    → least x (least y z) ≡ either (least x y) z
least_least-either low middle next high x None z h g k le =
    least-either low middle next high x z h k le
    ∙ ap (λ (f : Option Kind). either f z) (sym (least-none_right x))
least_least-either low middle next high None (Some y) z h g k le =
    least-either low middle next high (Some y) z g k le
least_least-either low middle next high (Some x) (Some y) z h g k le =
    ap (least (Some x)) (least-either low middle next high (Some y) z g k le)
    ∙ chosen-either (nat_le (kind_number x) (kind_number y)) x y z

-- faults of the words themselves come before the others
pub written_fault-order : (before : List (List (List ℕ))) (word : FirstWord) (ws : List (List ℕ))
    → written_fault before word ws
    ≡ either (least (forms_fault (forms (slots_of before) word) ws) (pages_fault word ws))
    (either (twice_fault (sort_of word) before ws) (fault_if (is_full (sort_of word) before) kind.TooMany))
written_fault-order before word ws =
    let s = sort_of word in
    let form : Option Kind = forms_fault (forms (slots_of before) word) ws in
    let twice : Bool = is_one_of (sort.Module ∷ sort.Program ∷ []) s && is_named_before s before ws in
    let full : Option Kind = fault_if (is_full s before) kind.TooMany in
    let two = if-within 12 12 twice (Some kind.Twice) None refl refl in
    let many = if-within 13 13 (is_full s before) (Some kind.TooMany) None refl refl in
    let last = least-within 12 13 (twice_fault s before ws) full
    (wider 12 12 12 13 (twice_fault s before ws) two (omega arith) (omega arith))
    (wider 13 13 12 13 full many (omega arith) (omega arith)) in
    least_least-either 8 11 12 13 form (pages_fault word ws) (least (twice_fault s before ws) full)
    (as_form-within ws (kept_form (forms (slots_of before) word) ws)) (pages-within word ws) last (omega arith)
    ∙ ap (λ (f : Option Kind). either (least form (pages_fault word ws)) f)
    (least-either 12 12 13 13 (twice_fault s before ws) full two many (omega arith))

written-within : (before : List (List (List ℕ))) (word : FirstWord) (ws : List (List ℕ))
    → is_kind_within 8 13 (written_fault before word ws) ≡ true
written-within before word ws =
    let s = sort_of word in
    let form : Option Kind = forms_fault (forms (slots_of before) word) ws in
    let twice : Bool = is_one_of (sort.Module ∷ sort.Program ∷ []) s && is_named_before s before ws in
    let full : Option Kind = fault_if (is_full s before) kind.TooMany in
    least-within 8 13 form (least (pages_fault word ws) (least (twice_fault s before ws) full))
    (wider 8 11 8 13 form (as_form-within ws (kept_form (forms (slots_of before) word) ws)) (omega arith) (omega arith))
    (least-within 8 13 (pages_fault word ws) (least (twice_fault s before ws) full)
    (wider 8 11 8 13 (pages_fault word ws) (pages-within word ws) (omega arith) (omega arith))
    (least-within 8 13 (twice_fault s before ws) full (if-within 8 13 twice (Some kind.Twice) None refl refl)
    (if-within 8 13 (is_full s before) (Some kind.TooMany) None refl refl)))

-- a fault of a line's place comes before those of its words
pub known_fault-order : (before : List (List (List ℕ))) (last : Sort) (word : FirstWord) (ws : List (List ℕ))
    → known_fault before (Some last) word ws
    ≡ either (place_fault last (sort_of word)) (written_fault before word ws)
known_fault-order before last word ws =
    least-either 6 7 8 13 (place_fault last (sort_of word)) (written_fault before word ws)
    (place-within last (sort_of word)) (written-within before word ws) (omega arith)

begun-within : (before : List (List (List ℕ))) (last : Option Sort) (word : Option FirstWord) (ws : List (List ℕ))
    → is_kind_within 6 13 (begun_fault before last word ws) ≡ true
begun-within before last None ws = refl
begun-within before None (Some word) ws = refl
begun-within before (Some last) (Some word) ws =
    least-within 6 13 (place_fault last (sort_of word)) (written_fault before word ws)
    (wider 6 7 6 13 (place_fault last (sort_of word)) (place-within last (sort_of word)) (omega arith) (omega arith))
    (wider 8 13 6 13 (written_fault before word ws) (written-within before word ws) (omega arith) (omega arith))

words-within : (one : List (List ℕ)) (before : List (List (List ℕ))) (ws : List (List ℕ))
    → is_kind_within 6 13 (words_fault (one ∷ before) ws) ≡ true
words-within one before [] = refl
words-within one before (w ∷ ws) = begun-within (one ∷ before) (sort_of_words one) (first_word w) ws

-- a line that is skipped has but its bytes
pub line_fault-skipped : (before : List (List (List ℕ))) (l : Line) → is_skipped l.bytes ≡ true
    → line_fault before l ≡ bytes_fault l
line_fault-skipped before l h = rw h (least-none_right (bytes_fault l))

no_header-first : (f : Option Kind) → is_kind_within 3 5 f ≡ true → least f (Some kind.NoHeader) ≡ Some kind.NoHeader
no_header-first None h = refl
no_header-first (Some k) h =
    let low : 3 ≤ kind_number k =
    leb-true 3 (kind_number k) (and_parts (nat_le 3 (kind_number k)) (nat_le (kind_number k) 5) h).0 in
    rw (lt-leb (kind_number k) 2 (omega arith)) refl

-- at the first line that isn't skipped the want of a header comes before its bytes
pub line_fault-header : (l : Line) → is_skipped l.bytes ≡ false
    → line_fault [] l ≡ (if is_header (words_of l.bytes) then bytes_fault l else Some kind.NoHeader)
line_fault-header l h =
    elim (cases_Bool (is_header (words_of l.bytes))) [
      | inl t ↦ rw (h, t) (least-none_right (bytes_fault l))
      | inr t ↦ rw (h, t) (no_header-first (bytes_fault l) (bytes-within l))
    ]

-- at later ones a fault of the bytes comes first
pub line_fault-order : (one : List (List ℕ)) (before : List (List (List ℕ))) (l : Line) → is_skipped l.bytes ≡ false
    → line_fault (one ∷ before) l ≡ either (bytes_fault l) (words_fault (one ∷ before) (words_of l.bytes))
line_fault-order one before l h =
    let ws = words_of l.bytes in
    ap (λ (b : Bool). least (bytes_fault l) (if b then None else words_fault (one ∷ before) ws)) h
    ∙ least-either 3 5 6 13 (bytes_fault l) (words_fault (one ∷ before) ws) (bytes-within l)
    (words-within one before ws) (omega arith)
