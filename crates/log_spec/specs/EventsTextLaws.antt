-- The words of an event's line have no space, and the line no end within it: so a line is parted into its words again.
use Rattle.std.specs.Prelude.{◌≡◌, ℕ, suc, ◌+◌, ◌/◌, ◌%◌, ◌^◌, ◌<◌, ℤ, pos, negsuc, Bool, true, false, ◌&&◌, not}
use Rattle.std.specs.Prelude.{nat_eq, nat_le, nat_lt, List, [], ◌∷◌, ◌++◌, map, length, flat_map}
use Rattle.std.specs.List.{list_all, onto_first, slice_split}
use Rattle.std.specs.Fmt.{decimal, signed_decimal, digit_glyph}
use Rattle.std.proofs.Common.{refl, arith, ap, ◌∙◌}
use Rattle.std.proofs.lemmas.Bool.{leb-true, not-true}
use Rattle.std.proofs.lemmas.Bool.Decides.{nat_tests}
use Rattle.std.proofs.lemmas.Fmt.{decimal_by_steps}
use Rattle.std.proofs.lemmas.List.Folds.{list_all-append}
use Rattle.std.proofs.lemmas.List.Splits.{slice_split-cons_yes, slice_split-cons_no}
use Rattle.w32_base.specs.Name.{is_name, is_name_char, is_lower}
use Rattle.w32_base.specs.declared.event.Answer.TheVariants as answer
use Rattle.w32_base.specs.declared.event.Errno.{Errno}
use Rattle.w32_base.specs.declared.event.Errno.TheVariants as errno
use Rattle.w32_base.specs.declared.event.Field.TheVariants as field
use Rattle.w32_base.specs.declared.event.ForkCause.TheVariants as fork
use Rattle.w32_base.specs.declared.event.ExecCause.TheVariants as exec
use Rattle.w32_base.specs.declared.event.Delivery.TheVariants as delivery
use Rattle.w32_base.specs.declared.event.Death.TheVariants as death
use Rattle.w32_base.specs.declared.event.NewAction.TheVariants as action
use Rattle.w32_base.specs.declared.event.Event.{Event}
use Rattle.w32_base.specs.declared.event.Event.TheVariants as event
use Rattle.script_spec.specs.declared.script.Script.{Script}
use Rattle.log_spec.specs.Texts.{spaced, byte_text, bytes_text}
use Rattle.log_spec.specs.Words.{Word, Plain, Actor, Host, Numeral, ProgramName, ModuleName, KeyByte, Bytes, word_text}
use Rattle.log_spec.specs.Words.{is_actor, is_numeral, is_word_within}
use Rattle.log_spec.specs.Events.{errno_text, words_of, event_text, is_event_within}
use Rattle.log_spec.specs.EventsRead.{words_in}
use Rattle.log_spec.specs.EventsReadLaws.{parts, together}

-- a byte that is neither a space nor a line's end, and a text of such bytes
abbrev pub is_visible : ℕ → Bool
is_visible byte = nat_lt 32 byte

abbrev pub is_visible_text : List ℕ → Bool
is_visible_text text = list_all is_visible text

joined : (xs ys : List ℕ) → is_visible_text xs ≡ true → is_visible_text ys ≡ true → is_visible_text (xs ++ ys) ≡ true
joined xs ys h k = list_all-append is_visible xs ys ∙ together (is_visible_text xs) (is_visible_text ys) h k

decimal_is_visible : (n : ℕ) → n < 2 ^ 64 → is_visible_text (decimal n) ≡ true
decimal_is_visible n h =
    decimal_by_steps (λ _ text. is_visible_text text ≡ true)
    (λ d _. grind (arith, nat_tests))
    (λ d text _ before. joined text ((48 + d % 10) ∷ []) before (grind (arith, nat_tests)))
    n h

glyph_is_visible : (d : ℕ) → is_visible (digit_glyph false d) ≡ true
glyph_is_visible d = grind (arith, nat_tests)

pairs_are_visible : (bytes : List ℕ) → is_visible_text (flat_map byte_text bytes) ≡ true
pairs_are_visible [] = refl
pairs_are_visible (byte ∷ bytes) =
    together (is_visible (digit_glyph false (byte / 16))) _ (glyph_is_visible (byte / 16))
    (together (is_visible (digit_glyph false (byte % 16))) _ (glyph_is_visible (byte % 16)) (pairs_are_visible bytes))

bytes_are_visible : (bytes : List ℕ) → is_visible_text (bytes_text bytes) ≡ true
bytes_are_visible [] = refl
bytes_are_visible (byte ∷ bytes) = pairs_are_visible (byte ∷ bytes)

letter_is_visible : (c : ℕ) → is_name_char c ≡ true → is_visible c ≡ true
letter_is_visible c h = grind (arith, nat_tests)

lower_is_visible : (c : ℕ) → is_lower c ≡ true → is_visible c ≡ true
lower_is_visible c h = grind (arith, nat_tests)

letters_are_visible : (name : List ℕ) → list_all is_name_char name ≡ true → is_visible_text name ≡ true
letters_are_visible [] h = refl
letters_are_visible (c ∷ cs) h =
    let two = parts (is_name_char c) (list_all is_name_char cs) h in
    together (is_visible c) (is_visible_text cs) (letter_is_visible c two.0) (letters_are_visible cs two.1)

name_is_visible : (name : List ℕ) → is_name name ≡ true → is_visible_text name ≡ true
name_is_visible [] h = refl
name_is_visible (c ∷ cs) h =
    let two = parts (is_lower c && nat_le (length cs) 15) (list_all is_name_char cs) h in
    let lower = (parts (is_lower c) (nat_le (length cs) 15) two.0).0 in
    together (is_visible c) (is_visible_text cs) (lower_is_visible c lower) (letters_are_visible cs two.1)

actor_is_small : (p : ℕ) → is_actor p ≡ true → p < 2 ^ 64
actor_is_small p h = grind (arith, nat_tests)

host_is_small : (p : ℕ) → nat_eq p 0 ≡ true → p < 2 ^ 64
host_is_small p h = grind (arith, nat_tests)

numeral_is_visible : (z : ℤ) → is_numeral z ≡ true → is_visible_text (signed_decimal z) ≡ true
numeral_is_visible (pos n) h = decimal_is_visible n (omega (arith, leb-true n 4294967295 h))
numeral_is_visible (negsuc n) h = decimal_is_visible (suc n) (omega (arith, leb-true n 2147483647 h))

-- the table's own words are visible, and each event has words
abbrev pub is_plain_visible : Word → Bool
is_plain_visible (Plain text) = is_visible_text text
is_plain_visible _ = true

abbrev pub is_row : List Word → Bool
is_row [] = false
is_row (word ∷ words) = list_all is_plain_visible (word ∷ words)

errno_is_visible : (e : Errno) → is_visible_text (errno_text e) ≡ true
errno_is_visible errno.EPERM = refl
errno_is_visible e = refl

row_of_error : (e : Errno) → (is_visible_text (errno_text e) && true) ≡ true
row_of_error e = together (is_visible_text (errno_text e)) true (errno_is_visible e) refl

words_are_row : (e : Event) → is_row (words_of e) ≡ true
words_are_row (event.Get p field.Pid v) = refl
words_are_row (event.Get p f v) = refl
words_are_row (event.ForkFail p fork.Children) = refl
words_are_row (event.ForkFail p cause) = refl
words_are_row (event.ExecFail p exec.NoEntry) = refl
words_are_row (event.ExecFail p cause) = refl
words_are_row (event.Kill p q s answer.Zero) = refl
words_are_row (event.Kill p q s (answer.Error e)) = row_of_error e
words_are_row (event.GroupDone p g s answer.Zero) = refl
words_are_row (event.GroupDone p g s (answer.Error e)) = row_of_error e
words_are_row (event.Refuse p e) = row_of_error e
words_are_row (event.SetAction p s (action.Handler n true)) = refl
words_are_row (event.SetAction p s (action.Handler n false)) = refl
words_are_row (event.SetAction p s new) = refl
words_are_row (event.Deliver p s delivery.Plain) = refl
words_are_row (event.Deliver p s d) = refl
words_are_row (event.Die p v death.Exit) = refl
words_are_row (event.Die p v d) = refl
words_are_row e = refl

word_is_visible : (script : Script) (word : Word) → is_word_within script word ≡ true → is_plain_visible word ≡ true
    → is_visible_text (word_text word) ≡ true
word_is_visible script (Plain text) h k = k
word_is_visible script (Actor number) h k = decimal_is_visible number (actor_is_small number h)
word_is_visible script (Host number) h k = decimal_is_visible number (host_is_small number h)
word_is_visible script (Numeral number) h k = numeral_is_visible number h
word_is_visible script (ProgramName name) h k = name_is_visible name (parts (is_name name) _ h).0
word_is_visible script (ModuleName name) h k = name_is_visible name (parts (is_name name) _ h).0
word_is_visible script (KeyByte byte) h k =
    together (is_visible (digit_glyph false (byte / 16))) _ (glyph_is_visible (byte / 16))
    (together (is_visible (digit_glyph false (byte % 16))) _ (glyph_is_visible (byte % 16)) refl)
word_is_visible script (Bytes bytes) h k = bytes_are_visible bytes

row_is_visible : (script : Script) (words : List Word) → list_all (is_word_within script) words ≡ true
    → list_all is_plain_visible words ≡ true → list_all is_visible_text (map word_text words) ≡ true
row_is_visible script [] h k = refl
row_is_visible script (word ∷ words) h k =
    let within = parts (is_word_within script word) (list_all (is_word_within script) words) h in
    let plain = parts (is_plain_visible word) (list_all is_plain_visible words) k in
    together (is_visible_text (word_text word)) _ (word_is_visible script word within.0 plain.0)
    (row_is_visible script words within.1 plain.1)

-- a list with no separator in its first part is parted there
pub first_part : (c : ℕ) (text rest : List ℕ) → list_all (λ b. not (nat_eq b c)) text ≡ true
    → slice_split (λ b. nat_eq b c) (text ++ c ∷ rest) ≡ text ∷ slice_split (λ b. nat_eq b c) rest
first_part c [] rest h = slice_split-cons_yes (λ b. nat_eq b c) c rest (grind (arith, nat_tests))
first_part c (b ∷ text) rest h =
    let two = parts (not (nat_eq b c)) (list_all (λ x. not (nat_eq x c)) text) h in
    let other = not-true (nat_eq b c) two.0 in
    slice_split-cons_no (λ x. nat_eq x c) b (text ++ c ∷ rest) other ∙ ap (onto_first b) (first_part c text rest two.1)

-- and one with no separator is one part
pub only_part : (c : ℕ) (text : List ℕ) → list_all (λ b. not (nat_eq b c)) text ≡ true
    → slice_split (λ b. nat_eq b c) text ≡ text ∷ []
only_part c [] h = refl
only_part c (b ∷ text) h =
    let two = parts (not (nat_eq b c)) (list_all (λ x. not (nat_eq x c)) text) h in
    let other = not-true (nat_eq b c) two.0 in
    slice_split-cons_no (λ x. nat_eq x c) b text other ∙ ap (onto_first b) (only_part c text two.1)

not_32 : (b : ℕ) → is_visible b ≡ true → not (nat_eq b 32) ≡ true
not_32 b h = grind (arith, nat_tests)

not_10 : (b : ℕ) → is_visible b ≡ true → not (nat_eq b 10) ≡ true
not_10 b h = grind (arith, nat_tests)

-- a text of visible bytes has neither a space nor an end
no_space : (text : List ℕ) → is_visible_text text ≡ true → list_all (λ b. not (nat_eq b 32)) text ≡ true
no_space [] h = refl
no_space (b ∷ text) h =
    let two = parts (is_visible b) (is_visible_text text) h in
    together (not (nat_eq b 32)) _ (not_32 b two.0) (no_space text two.1)

no_end : (text : List ℕ) → is_visible_text text ≡ true → list_all (λ b. not (nat_eq b 10)) text ≡ true
no_end [] h = refl
no_end (b ∷ text) h =
    let two = parts (is_visible b) (is_visible_text text) h in
    together (not (nat_eq b 10)) _ (not_10 b two.0) (no_end text two.1)

-- words that are joined by spaces are parted again, and the line has no end within it
joined_are_parted : (words : List (List ℕ)) → 0 < length words → list_all is_visible_text words ≡ true
    → words_in (spaced words) ≡ words
joined_are_parted [] some h = absurd (omega arith)
joined_are_parted (word ∷ []) some h = only_part 32 word (no_space word (parts (is_visible_text word) true h).0)
joined_are_parted (word ∷ next ∷ words) some h =
    let two = parts (is_visible_text word) (list_all is_visible_text (next ∷ words)) h in
    first_part 32 word (spaced (next ∷ words)) (no_space word two.0)
    ∙ ap (λ (rest : List (List ℕ)). word ∷ rest) (joined_are_parted (next ∷ words) (omega arith) two.1)

joined_have_no_end : (words : List (List ℕ)) → list_all is_visible_text words ≡ true
    → list_all (λ b. not (nat_eq b 10)) (spaced words) ≡ true
joined_have_no_end [] h = refl
joined_have_no_end (word ∷ []) h = no_end word (parts (is_visible_text word) true h).0
joined_have_no_end (word ∷ next ∷ words) h =
    let two = parts (is_visible_text word) (list_all is_visible_text (next ∷ words)) h in
    list_all-append (λ b. not (nat_eq b 10)) word (32 ∷ spaced (next ∷ words))
    ∙ together (list_all (λ b. not (nat_eq b 10)) word) _ (no_end word two.0) (joined_have_no_end (next ∷ words) two.1)

row_has_words : (words : List Word) → is_row words ≡ true → 0 < length (map word_text words)
row_has_words [] h = absurd (grind arith)
row_has_words (word ∷ words) h = omega arith

row_is_plain : (words : List Word) → is_row words ≡ true → list_all is_plain_visible words ≡ true
row_is_plain [] h = refl
row_is_plain (word ∷ words) h = h

-- the words of an event's line are those of the event
pub event_words : (script : Script) (e : Event) → is_event_within script e ≡ true
    → words_in (event_text e) ≡ map word_text (words_of e)
event_words script e h =
    joined_are_parted (map word_text (words_of e)) (row_has_words (words_of e) (words_are_row e))
    (row_is_visible script (words_of e) h (row_is_plain (words_of e) (words_are_row e)))

-- and the line has no end within it
pub event_has_no_end : (script : Script) (e : Event) → is_event_within script e ≡ true
    → list_all (λ b. not (nat_eq b 10)) (event_text e) ≡ true
event_has_no_end script e h =
    joined_have_no_end (map word_text (words_of e))
    (row_is_visible script (words_of e) h (row_is_plain (words_of e) (words_are_row e)))
