-- An event in its range is read back from its text.
use Rattle.std.specs.Prelude.{◌≡◌, ℕ, suc, ◌+◌, ◌*◌, ◌/◌, ◌%◌, ◌^◌, ◌<◌, ◌≤◌, ℤ, pos, negsuc, Bool, true, false, ◌&&◌}
use Rattle.std.specs.Prelude.{nat_eq, List, [], ◌∷◌, length, flat_map}
use Rattle.std.specs.List.{list_all}
use Rattle.std.specs.Fmt.{decimal, signed_decimal, digit_glyph}
use Rattle.std.specs.Str.Parse.{AllDigits}
use Rattle.std.proofs.Common.{refl, arith, ap, ◌∙◌}
use Rattle.std.proofs.lemmas.Bool.{leb-true, ltb-true}
use Rattle.std.proofs.lemmas.Bool.Decides.{nat_tests}
use Rattle.std.proofs.lemmas.Fmt.{decimal_is_IsNumeral}
use Rattle.std.proofs.lemmas.Str.Parse.{digit_from_value}
use Rattle.w32_base.specs.declared.event.Answer.{Answer}
use Rattle.w32_base.specs.declared.event.Answer.TheVariants as answer
use Rattle.w32_base.specs.declared.event.Errno.{Errno}
use Rattle.w32_base.specs.declared.event.Errno.TheVariants as errno
use Rattle.log_spec.specs.Texts.{byte_text, bytes_text}
use Rattle.log_spec.specs.Words.{is_actor, is_numeral, is_byte}
use Rattle.log_spec.specs.Events.{errno_text, answer_text}
use Rattle.log_spec.specs.EventsRead.{natural_in, integer_in, below_zero, nibble_in, bytes_in, byte_in, errno_in}
use Rattle.log_spec.specs.EventsRead.{answer_in}

-- two tests that hold together, apart
pub parts : (a b : Bool) → (a && b) ≡ true → (a ≡ true) × (b ≡ true)
parts true b h = (refl, h)
parts false b h = absurd (grind arith)

-- two tests that hold, together
pub together : (a b : Bool) → a ≡ true → b ≡ true → (a && b) ≡ true
together true b _ h = h
together false b h _ = h

-- what `decimal` writes is read back
pub natural_is : (n : ℕ) → n < 2 ^ 64 → natural_in (decimal n) ≡ n
natural_is n h = (decimal_is_IsNumeral n h).1

pub actor_is : (p : ℕ) → is_actor p ≡ true → natural_in (decimal p) ≡ p
actor_is p h = let small : p < 2 ^ 64 = grind (arith, nat_tests) in natural_is p small

not_minus : (c : ℕ) → (48 ≤ c) × (c ≤ 57) → nat_eq c 45 ≡ false
not_minus c h = grind (arith, nat_tests)

unsigned_is : (digits : List ℕ) → 0 < length digits → AllDigits 10 digits → integer_in digits ≡ pos (natural_in digits)
unsigned_is [] some all = absurd (omega arith)
unsigned_is (c ∷ cs) some all =
    let other : nat_eq c 45 ≡ false = not_minus c (digit_from_value c all.0) in rw other refl

pub numeral_is : (z : ℤ) → is_numeral z ≡ true → integer_in (signed_decimal z) ≡ z
numeral_is (pos n) h =
    let small : n < 2 ^ 64 = omega (arith, leb-true n 4294967295 h) in
    let numeral = decimal_is_IsNumeral n small in
    unsigned_is (decimal n) numeral.0.0 numeral.0.1 ∙ ap pos numeral.1
numeral_is (negsuc n) h =
    let small : suc n < 2 ^ 64 = omega (arith, leb-true n 2147483647 h) in ap below_zero (natural_is (suc n) small)

-- so are bytes
nibble_is : (d : ℕ) → d < 16 → nibble_in (digit_glyph false d) ≡ d
nibble_is d h = grind (arith, nat_tests)

pair_is : (byte : ℕ) → byte < 256
    → 16 * nibble_in (digit_glyph false (byte / 16)) + nibble_in (digit_glyph false (byte % 16)) ≡ byte
pair_is byte h = omega (arith, nibble_is (byte / 16) (omega arith), nibble_is (byte % 16) (omega arith))

pub key_byte_is : (byte : ℕ) → is_byte byte ≡ true → byte_in (byte_text byte) ≡ byte
key_byte_is byte h = pair_is byte (ltb-true byte 256 h)

pairs_are : (bytes : List ℕ) → list_all is_byte bytes ≡ true → bytes_in (flat_map byte_text bytes) ≡ bytes
pairs_are [] h = refl
pairs_are (byte ∷ bytes) h =
    let first = pair_is byte (ltb-true byte 256 (parts (is_byte byte) (list_all is_byte bytes) h).0) in
    let rest = pairs_are bytes (parts (is_byte byte) (list_all is_byte bytes) h).1 in
    cc (first, rest)

pub bytes_are : (bytes : List ℕ) → list_all is_byte bytes ≡ true → bytes_in (bytes_text bytes) ≡ bytes
bytes_are [] h = refl
bytes_are (byte ∷ bytes) h = pairs_are (byte ∷ bytes) h

-- and names of errors
pub errno_is : (e : Errno) → errno_in (errno_text e) ≡ e
errno_is errno.EPERM = refl
errno_is errno.ENOENT = refl
errno_is errno.ESRCH = refl
errno_is errno.EINTR = refl
errno_is errno.EIO = refl
errno_is errno.ECHILD = refl
errno_is errno.EAGAIN = refl
errno_is errno.EACCES = refl
errno_is errno.EINVAL = refl
errno_is errno.ENOTTY = refl

pub answer_is : (a : Answer) → answer_in (answer_text a) ≡ a
answer_is answer.Zero = refl
answer_is (answer.Error errno.EPERM) = refl
answer_is (answer.Error errno.ENOENT) = refl
answer_is (answer.Error errno.ESRCH) = refl
answer_is (answer.Error errno.EINTR) = refl
answer_is (answer.Error errno.EIO) = refl
answer_is (answer.Error errno.ECHILD) = refl
answer_is (answer.Error errno.EAGAIN) = refl
answer_is (answer.Error errno.EACCES) = refl
answer_is (answer.Error errno.EINVAL) = refl
answer_is (answer.Error errno.ENOTTY) = refl
