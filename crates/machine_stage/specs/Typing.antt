-- The keys of a schedule, put into the console's queue one after another.
use Rattle.std.proofs.Common.{◌≡◌, ℕ, zero, suc, ◌+◌, ◌≤◌, ◌<◌, List, [], ◌∷◌, ◌++◌, length, length-append, Option}
use Rattle.std.proofs.Common.{Some, None, IfSome, append_assoc, append-nil}
use Rattle.std.proofs.Common.{take, slice_get, refl, sym, ap, ◌∙◌, subst, arith}
use Rattle.w32_base.specs.declared.entry.Directive.TheVariants as directive
use Rattle.script_spec.specs.declared.script.ScheduleLine.TheVariants.{Given, Steps, Settle}
use Rattle.script_spec.specs.declared.script.ScheduleLine.{ScheduleLine}
use Rattle.w32_machine.specs.Contract.{keys_of_line, key_lines}

-- the key that a line gives
abbrev pub key_given : ScheduleLine → Option ℕ
key_given (Given (directive.Key b)) = Some b
key_given (Given (directive.Turn slot t)) = None
key_given (Given (directive.End slot)) = None
key_given (Steps n) = None
key_given Settle = None

-- a key, if any, as a list
abbrev pub listed : Option ℕ → List ℕ
listed None = []
listed (Some b) = b ∷ []

-- the keys that lines give, in their order
abbrev pub keys_typed : List ScheduleLine → List ℕ
keys_typed [] = []
keys_typed (line ∷ lines) = listed (key_given line) ++ keys_typed lines

-- the keys of so many lines are in the queue
abbrev pub IsTypedTo : List ScheduleLine → ℕ → List ℕ → Type 0
IsTypedTo lines n keys = keys ≡ keys_typed (take n lines)

listed_count : (line : ScheduleLine) → length (listed (key_given line)) ≡ keys_of_line line
listed_count (Given (directive.Key b)) = refl
listed_count (Given (directive.Turn slot t)) = refl
listed_count (Given (directive.End slot)) = refl
listed_count (Steps n) = refl
listed_count Settle = refl

typed_count : (lines : List ScheduleLine) → length (keys_typed lines) ≡ key_lines lines
typed_count [] = refl
typed_count (line ∷ lines) =
    omega (arith, length-append (listed (key_given line)) (keys_typed lines), listed_count line, typed_count lines)

-- the keys of a line come behind those of the lines before it
typed_suc : (lines : List ScheduleLine) (n : ℕ) (line : ScheduleLine) → slice_get lines n ≡ Some line
    → (keys_typed (take (suc n) lines) ≡ keys_typed (take n lines) ++ listed (key_given line))
    × (key_lines (take n lines) + keys_of_line line ≤ key_lines lines)
typed_suc [] n line e = absurd (cc)
typed_suc (x ∷ lines) zero line e =
    let same : x ≡ line = cc in
    (append-nil (listed (key_given x)) ∙ ap (λ y. listed (key_given y)) same, omega (arith, ap keys_of_line same))
typed_suc (x ∷ lines) (suc n) line e =
    let rest = typed_suc lines n line e in (
      ap (λ ks. listed (key_given x) ++ ks) rest.0
          ∙ sym (append_assoc (listed (key_given x)) (keys_typed (take n lines)) (listed (key_given line))),
      omega (arith, rest.1),
    )

typed_next : (lines : List ScheduleLine) (n : ℕ) (line : ScheduleLine) → slice_get lines n ≡ Some line
    → (keys_typed (take (n + 1) lines) ≡ keys_typed (take n lines) ++ listed (key_given line))
    × (key_lines (take n lines) + keys_of_line line ≤ key_lines lines)
typed_next lines n line e =
    let next : n + 1 ≡ suc n = omega arith in
    subst (λ k. (keys_typed (take k lines) ≡ keys_typed (take n lines) ++ listed (key_given line))
    × (key_lines (take n lines) + keys_of_line line ≤ key_lines lines)) (sym next) (typed_suc lines n line e)

one-given : (line : ScheduleLine) (b : ℕ) → key_given line ≡ Some b → keys_of_line line ≡ 1
one-given (Given (directive.Key k)) b e = refl
one-given (Given (directive.Turn slot t)) b e = absurd (cc)
one-given (Given (directive.End slot)) b e = absurd (cc)
one-given (Steps n) b e = absurd (cc)
one-given Settle b e = absurd (cc)

line_at : (lines : List ScheduleLine) (n : ℕ) → n < length lines
    → (line : ScheduleLine) × (slice_get lines n ≡ Some line)
line_at [] n within = absurd (omega (arith, within))
line_at (x ∷ lines) zero within = (x, refl)
line_at (x ∷ lines) (suc n) within = line_at lines n (omega (arith, within))

-- with the key of a line, if it gives one, so many lines are typed
typed_more : (lines : List ScheduleLine) (n : ℕ) (o : Option ℕ) (keys : List ℕ) → n < length lines
    → IfSome (slice_get lines n) (λ line. o ≡ key_given line) → IsTypedTo lines n keys
    → IsTypedTo lines (n + 1) (keys ++ listed o)
typed_more lines n o keys within given typed =
    let line = line_at lines n within in
    let found : o ≡ key_given line.0 = subst (λ x. IfSome x (λ y. o ≡ key_given y)) line.1 given in
    ap (λ ks. ks ++ listed o) typed ∙ ap (λ k. keys_typed (take n lines) ++ listed k) found
    ∙ sym (typed_next lines n line.0 line.1).0

-- there is room for the key of a line, and then so many lines are typed
pub room_at : (lines : List ScheduleLine) (n b : ℕ) (o : Option ℕ) (keys : List ℕ) → n < length lines
    → IfSome (slice_get lines n) (λ line. o ≡ key_given line) → o ≡ Some b → IsTypedTo lines n keys
    → (length keys < key_lines lines) × IsTypedTo lines (n + 1) (keys ++ b ∷ [])
room_at lines n b o keys within given e typed =
    let line = line_at lines n within in
    let found : o ≡ key_given line.0 = subst (λ x. IfSome x (λ y. o ≡ key_given y)) line.1 given in
    let one = one-given line.0 b (sym found ∙ e) in
    let count : length keys ≡ key_lines (take n lines) = ap length typed ∙ typed_count (take n lines) in (
      omega (arith, (typed_next lines n line.0 line.1).1, one, count),
      subst (λ k. IsTypedTo lines (n + 1) (keys ++ listed k)) e (typed_more lines n o keys within given typed),
    )

-- a line without a key is typed at once
pub typed_at : (lines : List ScheduleLine) (n : ℕ) (o : Option ℕ) (keys : List ℕ) → n < length lines
    → IfSome (slice_get lines n) (λ line. o ≡ key_given line) → o ≡ None → IsTypedTo lines n keys
    → IsTypedTo lines (n + 1) keys
typed_at lines n o keys within given e typed =
    subst (λ ks. IsTypedTo lines (n + 1) ks) (append-nil keys)
    (subst (λ k. IsTypedTo lines (n + 1) (keys ++ listed k)) e (typed_more lines n o keys within given typed))
