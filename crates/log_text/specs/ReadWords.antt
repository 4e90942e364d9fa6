-- The values that the words of an event's line say, each written in just one way.
use Rattle.std.specs.Prelude.{ℕ, ◌+◌, ◌-◌, ◌*◌, ℤ, pos, negsuc, ◌&&◌, nat_le, nat_lt, if◌then◌else◌, List, [], ◌∷◌}
use Rattle.std.specs.Prelude.{◌++◌, length, codes, Option, Some, None, option_map, option_and_then}
use Rattle.std.specs.Fmt.{signed_decimal}
use Rattle.w32_base.specs.Name.{is_name}
use Rattle.w32_base.specs.Names.{is_same}
use Rattle.w32_base.specs.declared.event.Answer.{Answer}
use Rattle.w32_base.specs.declared.event.Answer.TheVariants as answer
use Rattle.w32_base.specs.declared.event.Errno.{Errno}
use Rattle.w32_base.specs.declared.event.Errno.TheVariants as errno
use Rattle.w32_base.specs.declared.event.Field.{Field}
use Rattle.w32_base.specs.declared.event.Field.TheVariants as field
use Rattle.w32_base.specs.declared.event.Delivery.{Delivery}
use Rattle.w32_base.specs.declared.event.Delivery.TheVariants as delivery
use Rattle.script_spec.specs.FirstWords.{with_text}
use Rattle.log_spec.specs.Words.{is_actor, is_numeral}
use Rattle.log_spec.specs.Events.{errno_text, field_text, delivery_text}
use Rattle.log_spec.specs.EventsRead.{integer_in}

-- a number, where the word is its canonical form
unfoldable pub numeral_in : List ℕ → Option ℤ
numeral_in word =
    if is_numeral (integer_in word) && is_same word (signed_decimal (integer_in word)) then Some (integer_in word)
    else None

-- the process that acts, where the number is one's
abbrev pub actor_of : Option ℤ → Option ℕ
actor_of None = None
actor_of (Some (pos n)) = if is_actor n then Some n else None
actor_of (Some (negsuc n)) = None

abbrev pub name_in : List ℕ → Option (List ℕ)
name_in word = if is_name word then Some word else None

-- names of errors, how a call ended, what a `get` call asks for, and how a handler is begun
abbrev pub errnos : List Errno
errnos =
    errno.EPERM ∷ errno.ENOENT ∷ errno.ESRCH ∷ errno.EINTR ∷ errno.EIO ∷ errno.ECHILD ∷ errno.EAGAIN ∷ errno.EACCES
    ∷ errno.EINVAL ∷ errno.ENOTTY ∷ []

abbrev pub errno_of : List ℕ → Option Errno
errno_of word = with_text errno_text errnos word

abbrev pub answer_of : List ℕ → Option Answer
answer_of word = if is_same (codes "0") word then Some answer.Zero else option_map answer.Error (errno_of word)

abbrev pub field_of : List ℕ → Option Field
field_of word =
    with_text field_text (field.Pid ∷ field.Ppid ∷ field.Pgid ∷ field.Sid ∷ field.Foreground ∷ []) word

abbrev pub delivery_of : List ℕ → Option Delivery
delivery_of word = with_text delivery_text (delivery.Plain ∷ delivery.Interrupting ∷ []) word

-- a hexadecimal digit in lower case, a byte as two of them, and bytes as pairs of them
abbrev pub hexadecimal_in : ℕ → Option ℕ
hexadecimal_in digit =
    if nat_le 48 digit && nat_le digit 57 then Some (digit - 48)
    else if nat_le 97 digit && nat_le digit 102 then Some (digit - 87) else None

abbrev pub joined : Option ℕ → Option ℕ → Option ℕ
joined (Some high) (Some low) = Some (high * 16 + low)
joined (Some high) None = None
joined None low = None

unfoldable pub pair_in : (high low : ℕ) → Option ℕ
pair_in high low = joined (hexadecimal_in high) (hexadecimal_in low)

abbrev pub key_in : List ℕ → Option ℕ
key_in (high ∷ low ∷ []) = pair_in high low
key_in _ = None

-- the bytes that pairs add to at most 64
abbrev pub pairs_in : (done word : List ℕ) → Option (List ℕ)
pairs_in done [] = Some done
pairs_in done (high ∷ []) = None
pairs_in done (high ∷ low ∷ rest) =
    option_and_then (λ (byte : ℕ). if nat_lt (length done) 64 then pairs_in (done ++ byte ∷ []) rest else None)
    (pair_in high low)

unfoldable pub shown_in : List ℕ → Option (List ℕ)
shown_in word = if is_same (codes "-") word then Some [] else pairs_in [] word
