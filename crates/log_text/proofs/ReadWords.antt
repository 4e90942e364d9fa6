-- What the words of an event's line say.
use Rattle.std.proofs.Common.{◌≡◌, ℕ, ◌+◌, ◌/◌, ◌%◌, ◌^◌, ◌<◌, ◌≤◌, ℤ, ◌≤ℤ◌, pos, negsuc, Bool, true, false, ◌&&◌}
use Rattle.std.proofs.Common.{nat_eq, nat_le, nat_lt, List, [], ◌∷◌, ◌++◌, length, Option, Some, None, refl, sym, ap}
use Rattle.std.proofs.Common.{◌∙◌}
use Rattle.std.proofs.Common.{arith, inl, inr, append_assoc, append-nil, length-append, ◌*◌, subst, w64}
use Rattle.std.proofs.Common.{get_or, drop, Result, Ok}
use Rattle.std.specs.Str.{IsUtf8}
use Rattle.std.specs.Str.Parse.{ParsesSigned}
use Rattle.std.proofs.lemmas.Str.{IsUtf8-from_ascii}
use Rattle.std.proofs.lemmas.Fmt.{IsAscii-signed, parse-signed_decimal}
use Rattle.std.specs.Prelude.{FitsSigned, flat_map, option_and_then, if◌then◌else◌}
use Rattle.std.specs.List.{list_all}
use Rattle.std.specs.Fmt.{decimal, signed_decimal, digit_glyph}
use Rattle.std.proofs.lemmas.Bool.{cases_Bool, cond-true, cond-false, and_right, le-leb, leb-true, lt-ltb, ltb-true}
use Rattle.std.proofs.lemmas.Bool.Decides.{nat_tests}
use Rattle.std.proofs.lemmas.Int.{ints, to_z-of_z, fits_signed_from_abs}
use lib.Signed.{mag}
use mir.Val.{to_z, of_z}
use Rattle.w32_base.specs.Name.{is_name}
use Rattle.w32_base.specs.Names.{is_same}
use Rattle.w32_base.specs.declared.event.Answer.{Answer}
use Rattle.w32_base.specs.declared.event.Answer.TheVariants as answer
use Rattle.w32_base.specs.declared.event.Errno.{Errno}
use Rattle.w32_base.specs.declared.event.Errno.TheVariants as errno
use Rattle.log_spec.specs.Texts.{byte_text, bytes_text}
use Rattle.log_spec.specs.Words.{is_actor, is_numeral, is_byte}
use Rattle.log_spec.specs.Events.{errno_text, answer_text}
use Rattle.log_spec.specs.EventsRead.{integer_in}
use Rattle.log_spec.specs.EventsReadLaws.{parts, together, numeral_is}
use Rattle.log_spec.specs.LineLaws.{same_is, same_self}
use Rattle.log_text.specs.ReadWords.{numeral_in, actor_of, name_in, errno_of, answer_of, hexadecimal_in, joined}
use Rattle.log_text.specs.ReadWords.{pair_in, key_in, pairs_in, shown_in}

-- a word that is a number's canonical form says it
pub numeral_some : (z : ℤ) (word : List ℕ) → is_numeral z ≡ true → word ≡ signed_decimal z → numeral_in word ≡ Some z
unfolding numeral_in
numeral_some z word h is =
    let value : integer_in word ≡ z = ap integer_in is ∙ numeral_is z h in
    let fits : is_numeral (integer_in word) ≡ true = ap is_numeral value ∙ h in
    let same : is_same word (signed_decimal (integer_in word)) ≡ true =
    ap (λ (n : ℤ). is_same word (signed_decimal n)) value
    ∙ (ap (λ (text : List ℕ). is_same text (signed_decimal z)) is ∙ same_self (signed_decimal z)) in
    cond-true (is_numeral (integer_in word) && is_same word (signed_decimal (integer_in word)))
    (Some (integer_in word)) None (together (is_numeral (integer_in word)) _ fits same)
    ∙ ap Some value

-- and another word says none
pub numeral_none : (word : List ℕ) → ((z : ℤ) → is_numeral z ≡ true → word ≡ signed_decimal z → ⊥)
    → numeral_in word ≡ None
unfolding numeral_in
numeral_none word none =
    elim (cases_Bool (is_numeral (integer_in word) && is_same word (signed_decimal (integer_in word)))) [
      | inl t ↦
          let two = parts (is_numeral (integer_in word)) (is_same word (signed_decimal (integer_in word))) t in
          absurd (none (integer_in word) two.0 (same_is word (signed_decimal (integer_in word)) two.1))
      | inr f ↦
          cond-false (is_numeral (integer_in word) && is_same word (signed_decimal (integer_in word)))
          (Some (integer_in word)) None f
    ]

-- a number's range, in both words
pub numeral_within : (z : ℤ) → negsuc 2147483647 ≤ℤ z → z ≤ℤ pos 4294967295 → is_numeral z ≡ true
numeral_within (pos n) low high = le-leb n 4294967295 (omega (arith, ints))
numeral_within (negsuc n) low high = le-leb n 2147483647 (omega (arith, ints))

pub numeral_low : (z : ℤ) → is_numeral z ≡ true → negsuc 2147483647 ≤ℤ z
numeral_low (pos n) h = omega (arith, ints)
numeral_low (negsuc n) h = let small : n ≤ 2147483647 = leb-true n 2147483647 h in omega (arith, ints)

pub numeral_high : (z : ℤ) → is_numeral z ≡ true → z ≤ℤ pos 4294967295
numeral_high (pos n) h = let small : n ≤ 4294967295 = leb-true n 4294967295 h in omega (arith, ints)
numeral_high (negsuc n) h = omega (arith, ints)

-- what is read of the words of an event that is in its range; each number stands behind other tests
pub actor_found : (b : Bool) (p : ℕ) → (is_actor p && b) ≡ true → actor_of (numeral_in (decimal p)) ≡ Some p
actor_found b p h =
    let actor : is_actor p ≡ true = (parts (is_actor p) b h).0 in
    let small : p ≤ 4294967295 = grind (arith, nat_tests) in
    ap actor_of (numeral_some (pos p) (decimal p) (le-leb p 4294967295 small) refl)
    ∙ cond-true (is_actor p) (Some p) None actor

pub host_found : (b : Bool) (p : ℕ) → (nat_eq p 0 && b) ≡ true → actor_of (numeral_in (decimal p)) ≡ Some p
host_found b p h =
    let host : nat_eq p 0 ≡ true = (parts (nat_eq p 0) b h).0 in
    let actor : (is_actor p && true) ≡ true = grind (arith, nat_tests) in
    actor_found true p actor

pub first_found : (a b : Bool) (n : ℤ) → (a && (is_numeral n && b)) ≡ true → numeral_in (signed_decimal n) ≡ Some n
first_found a b n h =
    numeral_some n (signed_decimal n) (parts (is_numeral n) b (parts a (is_numeral n && b) h).1).0 refl

pub second_found : (a b c : Bool) (n : ℤ) → (a && (b && (is_numeral n && c))) ≡ true
    → numeral_in (signed_decimal n) ≡ Some n
second_found a b c n h = first_found b c n (parts a (b && (is_numeral n && c)) h).1

pub third_found : (a b c d : Bool) (n : ℤ) → (a && (b && (c && (is_numeral n && d)))) ≡ true
    → numeral_in (signed_decimal n) ≡ Some n
third_found a b c d n h = second_found b c d n (parts a (b && (c && (is_numeral n && d))) h).1

pub name_found : (name : List ℕ) → is_name name ≡ true → name_in name ≡ Some name
name_found name h = cond-true (is_name name) (Some name) None h

pub errno_found : (e : Errno) → errno_of (errno_text e) ≡ Some e
errno_found errno.EPERM = refl
errno_found errno.ENOENT = refl
errno_found errno.ESRCH = refl
errno_found errno.EINTR = refl
errno_found errno.EIO = refl
errno_found errno.ECHILD = refl
errno_found errno.EAGAIN = refl
errno_found errno.EACCES = refl
errno_found errno.EINVAL = refl
errno_found errno.ENOTTY = refl

pub answer_found : (a : Answer) → answer_of (answer_text a) ≡ Some a
answer_found answer.Zero = refl
answer_found (answer.Error errno.EPERM) = refl
answer_found (answer.Error errno.ENOENT) = refl
answer_found (answer.Error errno.ESRCH) = refl
answer_found (answer.Error errno.EINTR) = refl
answer_found (answer.Error errno.EIO) = refl
answer_found (answer.Error errno.ECHILD) = refl
answer_found (answer.Error errno.EAGAIN) = refl
answer_found (answer.Error errno.EACCES) = refl
answer_found (answer.Error errno.EINVAL) = refl
answer_found (answer.Error errno.ENOTTY) = refl

-- bytes
digit_found : (d : ℕ) → d < 16 → hexadecimal_in (digit_glyph false d) ≡ Some d
digit_found d h = grind (arith, nat_tests)

both_found : (x y : Option ℕ) (high low byte : ℕ) → x ≡ Some high → y ≡ Some low → high * 16 + low ≡ byte
    → joined x y ≡ Some byte
both_found x y high low byte h k e =
    ap (λ (o : Option ℕ). joined o y) h ∙ (ap (λ (o : Option ℕ). joined (Some high) o) k ∙ ap Some e)

pub pair_found : (byte : ℕ) → byte < 256
    → pair_in (digit_glyph false (byte / 16)) (digit_glyph false (byte % 16)) ≡ Some byte
unfolding pair_in
pair_found byte h =
    both_found (hexadecimal_in (digit_glyph false (byte / 16))) (hexadecimal_in (digit_glyph false (byte % 16)))
    (byte / 16) (byte % 16) byte (digit_found (byte / 16) (omega arith)) (digit_found (byte % 16) (omega arith))
    (omega arith)

pub key_found : (a : Bool) (b : ℕ) → (a && (is_byte b && true)) ≡ true → key_in (byte_text b) ≡ Some b
key_found a b h = pair_found b (ltb-true b 256 (parts (is_byte b) true (parts a (is_byte b && true) h).1).0)

pairs_found : (done bytes : List ℕ) → list_all is_byte bytes ≡ true → length done + length bytes ≤ 64
    → pairs_in done (flat_map byte_text bytes) ≡ Some (done ++ bytes)
pairs_found done [] h few = ap Some (sym (append-nil done))
pairs_found done (byte ∷ bytes) h few =
    let two = parts (is_byte byte) (list_all is_byte bytes) h in
    let room : length done < 64 = omega arith in
    let rest : length (done ++ byte ∷ []) + length bytes ≤ 64 = omega (arith, length-append done (byte ∷ [])) in
    ap (option_and_then (λ (b : ℕ). if nat_lt (length done) 64 then pairs_in (done ++ b ∷ [])
    (flat_map byte_text bytes) else None)) (pair_found byte (ltb-true byte 256 two.0))
    ∙ (cond-true (nat_lt (length done) 64) (pairs_in (done ++ byte ∷ []) (flat_map byte_text bytes)) None
    (lt-ltb (length done) 64 room)
    ∙ (pairs_found (done ++ byte ∷ []) bytes two.1 rest ∙ ap Some (append_assoc done (byte ∷ []) bytes)))

pub bytes_found : (bytes : List ℕ) → (nat_le (length bytes) 64 && list_all is_byte bytes) ≡ true
    → shown_in (bytes_text bytes) ≡ Some bytes
unfolding shown_in
bytes_found [] h = refl
bytes_found (byte ∷ bytes) h =
    let two = parts (nat_le (length (byte ∷ bytes)) 64) (list_all is_byte (byte ∷ bytes)) h in
    let few : length (byte ∷ bytes) ≤ 64 = leb-true (length (byte ∷ bytes)) 64 two.0 in
    let all : 0 + length (byte ∷ bytes) ≤ 64 = omega arith in
    cond-false (nat_eq 45 (digit_glyph false (byte / 16)) && false) (Some [])
    (pairs_in [] (flat_map byte_text (byte ∷ bytes))) (and_right (nat_eq 45 (digit_glyph false (byte / 16))) false refl)
    ∙ pairs_found [] (byte ∷ bytes) two.1 all

pub shown_found : (a b : Bool) (bytes : List ℕ)
    → (a && (b && ((nat_le (length bytes) 64 && list_all is_byte bytes) && true))) ≡ true
    → shown_in (bytes_text bytes) ≡ Some bytes
shown_found a b bytes h =
    bytes_found bytes (parts _ true (parts b _ (parts a _ h).1).1).0

-- a number that is read fits 64 bits
wide : (z : ℤ) → is_numeral z ≡ true → FitsSigned w64 z
wide (pos n) h = let small : n ≤ 4294967295 = leb-true n 4294967295 h in fits_signed_from_abs w64 (pos n) (omega arith)
wide (negsuc n) h =
    let small : n ≤ 2147483647 = leb-true n 2147483647 h in fits_signed_from_abs w64 (negsuc n) (omega arith)

small : (z : ℤ) → is_numeral z ≡ true → mag z < 2 ^ 63
small (pos n) h = let few : n ≤ 4294967295 = leb-true n 4294967295 h in omega arith
small (negsuc n) h = let few : n ≤ 2147483647 = leb-true n 2147483647 h in omega arith

pub kept : (value z : ℤ) → value ≡ z → is_numeral z ≡ true → to_z w64 (of_z w64 value) ≡ z
kept value z is h = ap (λ (v : ℤ). to_z w64 (of_z w64 v)) is ∙ to_z-of_z w64 z (wide z h)

-- what is parsed of a number's canonical form
pub is_text : (z : ℤ) (word : List ℕ) → is_numeral z ≡ true → word ≡ signed_decimal z → IsUtf8 word
is_text z word h is = subst IsUtf8 (sym is) (IsUtf8-from_ascii (signed_decimal z) (IsAscii-signed z (small z h)))

pub is_parsed : {E : Type 0} (z : ℤ) (word : List ℕ) (r : Result ℤ E) → is_numeral z ≡ true → word ≡ signed_decimal z
    → ParsesSigned w64 10 word r → r ≡ Ok z
is_parsed z word r h is parses = parse-signed_decimal w64 z word r (wide z h) (small z h) is parses

-- one pair more
pub pairs_more : (done word : List ℕ) (byte : ℕ) → 2 ≤ length word
    → Some byte ≡ pair_in (get_or word 0 0) (get_or word 1 0) → length done < 64
    → pairs_in done word ≡ pairs_in (done ++ byte ∷ []) (drop 2 word)
pairs_more done [] byte some is room = absurd (omega arith)
pairs_more done (high ∷ []) byte some is room = absurd (omega arith)
pairs_more done (high ∷ low ∷ rest) byte some is room =
    ap (option_and_then (λ (b : ℕ). if nat_lt (length done) 64 then pairs_in (done ++ b ∷ []) rest else None)) (sym is)
    ∙ cond-true (nat_lt (length done) 64) (pairs_in (done ++ byte ∷ []) rest) None (lt-ltb (length done) 64 room)
