-- Which of two faults is the lesser.
use Rattle.std.proofs.Common.{◌≡◌, ℕ, ◌≤◌, ◌<◌, Bool, true, false, ◌&&◌, ◌||◌, not, nat_le, nat_lt, List, [], ◌∷◌}
use Rattle.std.proofs.Common.{Option, Some, None, refl, sym, ap, ◌∙◌, arith, inl, inr}
use Rattle.std.specs.Prelude.{if◌then◌else◌}
use Rattle.std.proofs.lemmas.Bool.{and_parts, and_from, leb-true, le-leb, cases_lt, lt-leb}
use Rattle.w32_base.specs.Name.{is_name}
use Rattle.w32_base.specs.Names.{is_same}
use Rattle.script_spec.specs.declared.fault.FirstWord.{FirstWord}
use Rattle.script_spec.specs.declared.fault.FirstWord.TheVariants as first
use Rattle.script_spec.specs.declared.fault.Kind.{Kind}
use Rattle.script_spec.specs.declared.fault.Kind.TheVariants.{Words, BadNumber, Range, BadName, Twice, TooMany}
use Rattle.script_spec.specs.declared.fault.Kind.TheVariants.{Missing, Unknown}
use Rattle.script_spec.specs.declared.fault.Sort.{Sort}
use Rattle.script_spec.specs.declared.fault.Sort.TheVariants as sort
use Rattle.script_spec.specs.Faults.{least, fault_if, kind_number}
use Rattle.script_spec.specs.Fields.{Field, FixedWord, RegisterWord, ValueWord, PlaceWord, NumberWord, NameWord}
use Rattle.script_spec.specs.Fields.{KeyWord, field_fault, number_fault, signed_fault}
use Rattle.script_spec.specs.FirstWords.{sort_of}
use Rattle.script_spec.specs.Forms.{form_fault, forms_fault, forms, kept_form, as_form, keeps_form}
use Rattle.script_spec.specs.LineFaults.{pages_fault, twice_fault, is_full, written_fault, is_named_before}
use Rattle.script_spec.specs.Numbers.{is_empty, is_canonical, value_of, is_signed_canonical, is_in_32_bits, is_key_byte}
use Rattle.script_spec.specs.Numbers.{is_register, begins_with_r}
use Rattle.script_spec.specs.Places.{is_one_of, place_fault, earliest, followers, sort_number, slots_of}

-- a fault, if it is one, of the kinds from one number to another
abbrev pub is_between : ℕ → ℕ → Option Kind → Bool
is_between low high None = true
is_between low high (Some kind) = nat_le low (kind_number kind) && nat_le (kind_number kind) high

pub between_if : (low high : ℕ) (b : Bool) (x y : Option Kind) → is_between low high x ≡ true
    → is_between low high y ≡ true → is_between low high (if b then x else y) ≡ true
between_if low high true x y h k = h
between_if low high false x y h k = k

pub between_least : (low high : ℕ) (x y : Option Kind) → is_between low high x ≡ true
    → is_between low high y ≡ true → is_between low high (least x y) ≡ true
between_least low high None y h k = k
between_least low high (Some a) None h k = h
between_least low high (Some a) (Some b) h k =
    between_if low high (nat_le (kind_number a) (kind_number b)) (Some a) (Some b) h k

-- a fault before others is the least
pub earlier : (low middle high : ℕ) (a : Kind) (y : Option Kind) → is_between low middle (Some a) ≡ true
    → is_between middle high y ≡ true → least (Some a) y ≡ Some a
earlier low middle high a None h k = refl
earlier low middle high a (Some b) h k =
    let p : kind_number a ≤ middle = leb-true (kind_number a) middle
    (and_parts (nat_le low (kind_number a)) (nat_le (kind_number a) middle) h).1 in
    let q : middle ≤ kind_number b = leb-true middle (kind_number b)
    (and_parts (nat_le middle (kind_number b)) (nat_le (kind_number b) high) k).0 in
    rw (le-leb (kind_number a) (kind_number b) (omega (arith, p, q))) refl

wider : (low high l h : ℕ) (x : Option Kind) → is_between low high x ≡ true → l ≤ low → high ≤ h
    → is_between l h x ≡ true
wider low high l h None e p q = refl
wider low high l h (Some a) e p q =
    let parts = and_parts (nat_le low (kind_number a)) (nat_le (kind_number a) high) e in
    let a0 : low ≤ kind_number a = leb-true low (kind_number a) parts.0 in
    let a1 : kind_number a ≤ high = leb-true (kind_number a) high parts.1 in
    and_from (nat_le l (kind_number a)) (nat_le (kind_number a) h) (le-leb l (kind_number a) (omega (arith, a0, p)))
    (le-leb (kind_number a) h (omega (arith, a1, q)))

pub widened : (low high l h : ℕ) (x : Option Kind) → is_between low high x ≡ true → l ≤ low → high ≤ h
    → is_between l h x ≡ true
widened low high l h x e p q = wider low high l h x e p q

-- ---- three faults

pub least-assoc : (x y z : Option Kind) → least (least x y) z ≡ least x (least y z)
least-assoc None y z = refl
least-assoc (Some a) None z = refl
least-assoc (Some a) (Some b) None =
    elim (nat_le (kind_number a) (kind_number b))
    as (λ t. least (if t then Some a else Some b) None ≡ (if t then Some a else Some b)) [ true ↦ refl | false ↦ refl ]
least-assoc (Some a) (Some b) (Some c) =
    elim (cases_lt (kind_number b) (kind_number a)) [
      | inl ba ↦ elim (cases_lt (kind_number c) (kind_number b)) [
        | inl cb ↦
            let ca : kind_number c < kind_number a = omega (arith, ba, cb) in
            rw (
              lt-leb (kind_number a) (kind_number b) ba,
              lt-leb (kind_number b) (kind_number c) cb,
              lt-leb (kind_number a) (kind_number c) ca,
            ) refl
        | inr bc ↦
            rw (
              lt-leb (kind_number a) (kind_number b) ba,
              le-leb (kind_number b) (kind_number c) bc,
              lt-leb (kind_number a) (kind_number b) ba,
            ) refl
      ]
      | inr ab ↦ elim (cases_lt (kind_number c) (kind_number b)) [
        | inl cb ↦ rw (le-leb (kind_number a) (kind_number b) ab, lt-leb (kind_number b) (kind_number c) cb) refl
        | inr bc ↦
            let ac : kind_number a ≤ kind_number c = omega (arith, ab, bc) in
            rw (
              le-leb (kind_number a) (kind_number b) ab,
              le-leb (kind_number b) (kind_number c) bc,
              le-leb (kind_number a) (kind_number b) ab,
              le-leb (kind_number a) (kind_number c) ac,
            ) refl
      ]
    ]

-- ---- the kinds of what is judged

number_between : (low high : ℕ) (w : List ℕ) → is_between 8 10 (number_fault low high w) ≡ true
number_between low high w =
    between_if 8 10 (is_empty w) (Some Words) _ refl
    (between_if 8 10 (not (is_canonical w)) (Some BadNumber) _ refl
    (between_if 8 10 (nat_lt (value_of w) low || nat_lt high (value_of w)) (Some Range) None refl refl))

signed_between : (w : List ℕ) → is_between 8 11 (signed_fault w) ≡ true
signed_between w =
    between_if 8 11 (is_empty w) (Some Words) _ refl
    (between_if 8 11 (not (is_signed_canonical w)) (Some BadNumber) _ refl
    (between_if 8 11 (not (is_in_32_bits w)) (Some Range) None refl refl))

pub number_field : (low high : ℕ) (w : List ℕ) → is_between 8 10 (field_fault (NumberWord low high) w) ≡ true
number_field low high w = number_between low high w

field_between : (f : Field) (w : List ℕ) → is_between 8 11 (field_fault f w) ≡ true
field_between (FixedWord text) w = between_if 8 11 (not (is_same text w)) (Some Words) None refl refl
field_between RegisterWord w = between_if 8 11 (not (is_register w)) (Some Words) None refl refl
field_between ValueWord w =
    between_if 8 11 (begins_with_r w) (fault_if (not (is_register w)) Words) (signed_fault w)
    (between_if 8 11 (not (is_register w)) (Some Words) None refl refl) (signed_between w)
field_between PlaceWord w =
    wider 8 10 8 11 (number_fault 0 18446744073709551615 w) (number_between 0 18446744073709551615 w) (omega arith)
    (omega arith)
field_between (NumberWord low high) w =
    wider 8 10 8 11 (number_fault low high w) (number_between low high w) (omega arith) (omega arith)
field_between NameWord w =
    between_if 8 11 (is_empty w) (Some Words) _ refl
    (between_if 8 11 (not (is_name w)) (Some BadName) None refl refl)
field_between KeyWord w = between_if 8 11 (not (is_key_byte w)) (Some Words) None refl refl

form_between : (fs : List Field) (ws : List (List ℕ)) → is_between 8 11 (form_fault fs ws) ≡ true
form_between [] [] = refl
form_between [] (w ∷ ws) = refl
form_between (f ∷ fs) [] = refl
form_between (f ∷ fs) (w ∷ ws) =
    between_least 8 11 (field_fault f w) (form_fault fs ws) (field_between f w) (form_between fs ws)

kept_between : (b : Bool) (f : List Field) (o : Option (List Field)) (ws : List (List ℕ))
    → is_between 8 11 (as_form ws o) ≡ true → is_between 8 11 (as_form ws (if b then Some f else o)) ≡ true
kept_between true f o ws h = form_between f ws
kept_between false f o ws h = h

pub forms_between : (fs : List (List Field)) (ws : List (List ℕ)) → is_between 8 11 (forms_fault fs ws) ≡ true
forms_between [] ws = refl
forms_between (f ∷ fs) ws =
    kept_between (keeps_form (form_fault f ws)) f (kept_form fs ws) ws (forms_between fs ws)

pub pages_between : (f : FirstWord) (ws : List (List ℕ)) → is_between 10 10 (pages_fault f ws) ≡ true
pages_between first.Module [] = refl
pages_between first.Module (a ∷ []) = refl
pages_between first.Module (a ∷ b ∷ []) = refl
pages_between first.Module (name ∷ base ∷ size ∷ ws) = between_if 10 10 _ (Some Range) None refl refl
pages_between f ws = refl

pub twice_between : (s : Sort) (before : List (List (List ℕ))) (ws : List (List ℕ))
    → is_between 12 12 (twice_fault s before ws) ≡ true
twice_between s before ws =
    between_if 12 12 (is_one_of (sort.Module ∷ sort.Program ∷ []) s && is_named_before s before ws) (Some Twice) None
    refl refl

pub full_between : (b : Bool) → is_between 13 13 (fault_if b TooMany) ≡ true
full_between b = between_if 13 13 b (Some TooMany) None refl refl

last_between : (word : FirstWord) (before : List (List (List ℕ))) (ws : List (List ℕ))
    → is_between 12 13 (least (twice_fault (sort_of word) before ws) (fault_if (is_full (sort_of word) before) TooMany))
    ≡ true
last_between word before ws =
    between_least 12 13 (twice_fault (sort_of word) before ws) (fault_if (is_full (sort_of word) before) TooMany)
    (wider 12 12 12 13 (twice_fault (sort_of word) before ws) (twice_between (sort_of word) before ws)
    (omega arith) (omega arith))
    (wider 13 13 12 13 (fault_if (is_full (sort_of word) before) TooMany)
    (full_between (is_full (sort_of word) before)) (omega arith) (omega arith))

-- the words after a first word have none of the faults of places
pub written_between : (before : List (List (List ℕ))) (word : FirstWord) (ws : List (List ℕ))
    → is_between 8 13 (written_fault before word ws) ≡ true
written_between before word ws =
    between_least 8 13 (forms_fault (forms (slots_of before) word) ws)
    (least (pages_fault word ws) (least (twice_fault (sort_of word) before ws)
    (fault_if (is_full (sort_of word) before) TooMany)))
    (wider 8 11 8 13 (forms_fault (forms (slots_of before) word) ws)
    (forms_between (forms (slots_of before) word) ws) (omega arith) (omega arith))
    (between_least 8 13 (pages_fault word ws)
    (least (twice_fault (sort_of word) before ws) (fault_if (is_full (sort_of word) before) TooMany))
    (wider 10 10 8 13 (pages_fault word ws) (pages_between word ws) (omega arith) (omega arith))
    (wider 12 13 8 13 (least (twice_fault (sort_of word) before ws) (fault_if (is_full (sort_of word) before) TooMany))
    (last_between word before ws) (omega arith) (omega arith)))

-- a fault of the words alone stands before those of the lines before
pub words_first : (before : List (List (List ℕ))) (word : FirstWord) (ws : List (List ℕ)) (k : Kind)
    → least (forms_fault (forms (slots_of before) word) ws) (pages_fault word ws) ≡ Some k
    → written_fault before word ws ≡ Some k
words_first before word ws k e =
    let f : Option Kind = forms_fault (forms (slots_of before) word) ws in
    let p : Option Kind = pages_fault word ws in
    let rest : Option Kind = least (twice_fault (sort_of word) before ws)
    (fault_if (is_full (sort_of word) before) TooMany) in
    let b : is_between 8 11 (least f p) ≡ true =
    between_least 8 11 f p (forms_between (forms (slots_of before) word) ws)
    (wider 10 10 8 11 p (pages_between word ws) (omega arith) (omega arith)) in
    let c : is_between 8 12 (Some k) ≡ true = wider 8 11 8 12 (Some k) (sym (ap (λ (o : Option Kind).
    is_between 8 11 o) e) ∙ b) (omega arith) (omega arith) in
    sym (least-assoc f p rest) ∙ ap (λ (o : Option Kind). least o rest) e
    ∙ earlier 8 12 13 k rest c (last_between word before ws)

-- words without one have the fault of the lines before
pub words_none : (before : List (List (List ℕ))) (word : FirstWord) (ws : List (List ℕ))
    → least (forms_fault (forms (slots_of before) word) ws) (pages_fault word ws) ≡ None
    → written_fault before word ws
    ≡ least (twice_fault (sort_of word) before ws) (fault_if (is_full (sort_of word) before) TooMany)
words_none before word ws e =
    let rest : Option Kind = least (twice_fault (sort_of word) before ws)
    (fault_if (is_full (sort_of word) before) TooMany) in
    sym (least-assoc (forms_fault (forms (slots_of before) word) ws) (pages_fault word ws) rest)
    ∙ ap (λ (o : Option Kind). least o rest) e

place_between : (b c : Bool) → is_between 6 7 (if b then None else (if c then Some Missing else Some Unknown)) ≡ true
place_between true c = refl
place_between false true = refl
place_between false false = refl

pub places_between : (last this : Sort) → is_between 6 7 (place_fault last this) ≡ true
places_between last this =
    place_between (is_one_of (followers last) this) (nat_le (sort_number (earliest last)) (sort_number this))
