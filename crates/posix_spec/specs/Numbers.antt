-- The numbers of events and instructions, the errors' numbers, and a step that needs a natural number.
use Rattle.std.specs.Prelude.{ℕ, ◌-◌, ℤ, pos, negsuc, Bool, true, false, nat_eq, nat_le, if◌then◌else◌, Option, Some}
use Rattle.std.specs.Prelude.{None}
use Rattle.w32_base.specs.declared.event.Errno.{Errno}
use Rattle.w32_base.specs.declared.event.Errno.TheVariants as errno
use Rattle.w32_base.specs.declared.event.Answer.{Answer}
use Rattle.w32_base.specs.declared.event.Answer.TheVariants.{Zero, Error}

-- whether two numbers are the same
abbrev pub is_same_number : ℤ → ℤ → Bool
is_same_number (pos a) (pos b) = nat_eq a b
is_same_number (negsuc a) (negsuc b) = nat_eq a b
is_same_number (pos a) (negsuc b) = false
is_same_number (negsuc a) (pos b) = false

-- whether the number is this natural number
abbrev pub is_number : ℤ → ℕ → Bool
is_number (pos a) n = nat_eq a n
is_number (negsuc a) n = false

-- whether the number is this natural number, where there is one
abbrev pub is_optional_number : ℤ → Option ℕ → Bool
is_optional_number v None = false
is_optional_number v (Some n) = is_number v n

-- the number where it is natural
abbrev pub natural_of : ℤ → Option ℕ
natural_of (pos n) = Some n
natural_of (negsuc n) = None

-- the number where it is natural and no more than a bound
abbrev pub natural_within : ℕ → ℤ → Option ℕ
natural_within most (pos n) = if nat_le n most then Some n else None
natural_within most (negsuc n) = None

-- what a value gives, where there is one
abbrev pub for_value : {A B : Type 0} → Option A → (A → Option B) → Option B
for_value None next = None
for_value (Some x) next = next x

-- the errors' numbers
abbrev pub error_number : Errno → ℕ
error_number errno.EPERM = 1
error_number errno.ENOENT = 2
error_number errno.ESRCH = 3
error_number errno.EINTR = 4
error_number errno.EIO = 5
error_number errno.ECHILD = 10
error_number errno.EAGAIN = 11
error_number errno.EACCES = 13
error_number errno.EINVAL = 22
error_number errno.ENOTTY = 25

abbrev pub is_same_error : Errno → Errno → Bool
is_same_error a b = nat_eq (error_number a) (error_number b)

-- the result of a call that fails: minus the error's number
abbrev pub error_result : Errno → ℤ
error_result e = negsuc (error_number e - 1)

abbrev pub answer_result : Answer → ℤ
answer_result Zero = pos 0
answer_result (Error e) = error_result e

abbrev pub is_same_answer : Answer → Answer → Bool
is_same_answer Zero Zero = true
is_same_answer Zero (Error e) = false
is_same_answer (Error e) Zero = false
is_same_answer (Error e) (Error f) = is_same_error e f
