-- Signal sets (POSIX.1-2017, XSH 2.4): signal s from 1 to 31 is bit s - 1 of a number.
use Rattle.std.specs.Prelude.{ℕ, zero, suc, ◌+◌, ◌-◌, ◌^◌, Bool, ◌&&◌, ◌||◌, not, nat_eq, nat_le, if◌then◌else◌, Option}
use Rattle.std.specs.Prelude.{Some, None, List, [], ◌∷◌, bit_and, bit_or}

abbrev pub is_signal : ℕ → Bool
is_signal s = nat_le 1 s && nat_le s 31

-- the set of one signal; of another number the empty set
abbrev pub only : ℕ → ℕ
only s = if is_signal s then 2 ^ (s - 1) else 0

-- every signal
abbrev pub all_signals : ℕ
all_signals = 2 ^ 31 - 1

-- whether the signal is in the set
abbrev pub contains : ℕ → ℕ → Bool
contains set s = not (nat_eq (bit_and set (only s)) 0)

-- the signals of a set that aren't in another one
abbrev pub outside : ℕ → ℕ → ℕ
outside set other = bit_and set (all_signals - bit_and other all_signals)

-- the least of the next n signals from s on that is in the set
abbrev pub least_from : ℕ → ℕ → ℕ → Option ℕ
least_from zero s set = None
least_from (suc n) s set = if contains set s then Some s else least_from n (s + 1) set

-- the least signal of a set
unfoldable pub least : ℕ → Option ℕ
least set = least_from 31 1 set

-- the next n signals from s on
abbrev pub signals_from : ℕ → ℕ → List ℕ
signals_from zero s = []
signals_from (suc n) s = s ∷ signals_from n (s + 1)

-- the signals, rising
unfoldable pub signals : List ℕ
signals = signals_from 31 1

abbrev pub kill_signal : ℕ
kill_signal = 9

abbrev pub child_signal : ℕ
child_signal = 17

abbrev pub continue_signal : ℕ
continue_signal = 18

-- the signal of a background process that reads from its terminal
abbrev pub terminal_input_signal : ℕ
terminal_input_signal = 21

-- the signal of a background process that writes to its terminal or changes it
abbrev pub terminal_output_signal : ℕ
terminal_output_signal = 22

-- STOP, TSTP, TTIN and TTOU
abbrev pub is_stop_signal : ℕ → Bool
is_stop_signal s = nat_le 19 s && nat_le s 22

abbrev pub stop_signals : ℕ
stop_signals = only 19 + only 20 + only 21 + only 22

-- what generation of a signal takes away first: a stop signal takes CONT, and CONT takes the stop signals
abbrev pub taken_by : ℕ → ℕ
taken_by s = if is_stop_signal s then only continue_signal else if nat_eq s continue_signal then stop_signals else 0

-- the pending signals after this one is generated
abbrev pub generate : ℕ → ℕ → ℕ
generate pending s = bit_or (outside pending (taken_by s)) (only s)

-- the pending signals that generation of this one takes away
abbrev pub lost_by : ℕ → ℕ → ℕ
lost_by pending s = bit_and pending (taken_by s)

-- KILL and STOP are never in a mask, and always have their default action
abbrev pub is_never_masked : ℕ → Bool
is_never_masked s = nat_eq s kill_signal || nat_eq s 19

abbrev pub never_masked : ℕ
never_masked = only kill_signal + only 19

-- the mask that these bits name
abbrev pub clean_mask : ℕ → ℕ
clean_mask bits = outside bits never_masked

-- what a signal does by default
pub data ByDefault : Type 0 where
  End : ByDefault
  Ignore : ByDefault
  StopByDefault : ByDefault
  Continue : ByDefault

-- CHLD, URG and WINCH
abbrev pub is_ignored_signal : ℕ → Bool
is_ignored_signal s = nat_eq s child_signal || (nat_eq s 23 || nat_eq s 28)

abbrev pub default_of : ℕ → ByDefault
default_of s =
    if is_stop_signal s then StopByDefault
    else if is_ignored_signal s then Ignore
    else if nat_eq s continue_signal then Continue
    else End
