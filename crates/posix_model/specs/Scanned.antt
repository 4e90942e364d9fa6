-- What is asked of all processes.
use Rattle.std.specs.Prelude.{ℕ, Bool, false, List, length, Option, Some, None}
use Rattle.std.specs.List.{list_any}
use Rattle.posix_spec.specs.State.{Record}
use Rattle.posix_spec.specs.Records.{numbers_where}

-- whether a process passes, where there is one
abbrev pub is_passed_in : (ℕ → Record → Bool) → ℕ → Option Record → Bool
is_passed_in test n None = false
is_passed_in test n (Some r) = test n r

-- whether some process passes, and how many do
abbrev pub some_entry : (ℕ → Record → Bool) → List (ℕ × Record) → Bool
some_entry test entries = list_any (λ e. test e.0 e.1) entries

abbrev pub count_entries : (ℕ → Record → Bool) → List (ℕ × Record) → ℕ
count_entries test entries = length (numbers_where test entries)
