-- The words of a row of the section: three records, and each word as the sum of its fields times powers of two. Row r
-- belongs to process number r + 1.
--   main word: pending signals, or in a zombie the status (from bit 0), image (31), kind (50), report (53), execd (55),
--     stop signal (56)
--   group word: raw parent (0), group (12), session (24), terminal (36)
--   exit word: status (0), image (9), fault (28)
use Rattle.std.specs.Prelude.{◌≡◌, ℕ, ◌+◌, ◌-◌, ◌*◌, ◌^◌, Bool, true, false, ◌&&◌, ◌||◌, not, nat_eq, nat_lt}
use Rattle.std.specs.Prelude.{if◌then◌else◌, Option, Some, None}
use Rattle.posix_spec.specs.Signals.{is_stop_signal}

-- the places of a row's words in the section; at place 0 stands the number of claimed rows
abbrev pub main_place : ℕ → ℕ
main_place row = 3 * row - 2

abbrev pub group_place : ℕ → ℕ
group_place row = 3 * row - 1

abbrev pub exit_place : ℕ → ℕ
exit_place row = 3 * row

-- What a row is: not claimed, claimed for a child to come, a process that runs, is stopped or is a zombie, or never
-- used again. Only the third to the fifth are processes.
pub data RowKind : Type 0 where
  Free : RowKind
  Held : RowKind
  Running : RowKind
  Stopped : RowKind
  Zombie : RowKind
  Gone : RowKind

abbrev pub kind_number : RowKind → ℕ
kind_number Free = 0
kind_number Held = 1
kind_number Running = 2
kind_number Stopped = 3
kind_number Zombie = 4
kind_number Gone = 5

-- the kind with this number, if there is one
abbrev pub kind_from : ℕ → Option RowKind
kind_from n =
    if nat_eq n 0 then Some Free
    else if nat_eq n 1 then Some Held
    else if nat_eq n 2 then Some Running
    else if nat_eq n 3 then Some Stopped
    else if nat_eq n 4 then Some Zombie
    else if nat_eq n 5 then Some Gone
    else None

-- whether a row of this kind is a process
abbrev pub is_process_kind : RowKind → Bool
is_process_kind Free = false
is_process_kind Held = false
is_process_kind Running = true
is_process_kind Stopped = true
is_process_kind Zombie = true
is_process_kind Gone = false

-- whether it is one that isn't a zombie
abbrev pub is_live_kind : RowKind → Bool
is_live_kind Free = false
is_live_kind Held = false
is_live_kind Running = true
is_live_kind Stopped = true
is_live_kind Zombie = false
is_live_kind Gone = false

-- `report` is 0, 1 for a stop or 2 for a continue that the parent wasn't told; `image` is the Win32 number of the
-- process in which the row's process runs; `pending` is a set of signals.
pub record MainWord : Type 0 where
  pub kind : RowKind
  pub stop : ℕ
  pub report : ℕ
  pub execd : Bool
  pub image : ℕ
  pub pending : ℕ
  pub status : ℕ

pub record GroupWord : Type 0 where
  pub parent : ℕ
  pub group : ℕ
  pub session : ℕ
  pub terminal : Bool

-- with which status an image has exited, and whether by an image fault
pub record ExitWord : Type 0 where
  pub status : ℕ
  pub image : ℕ
  pub fault : Bool

abbrev pub bit_of : Bool → ℕ
bit_of true = 1
bit_of false = 0

-- the low 31 bits of a main word: the status of a zombie, the pending signals of every other row
abbrev pub low_bits : RowKind → MainWord → ℕ
low_bits Free m = m.pending
low_bits Held m = m.pending
low_bits Running m = m.pending
low_bits Stopped m = m.pending
low_bits Zombie m = m.status
low_bits Gone m = m.pending

abbrev pub main_word_of : MainWord → ℕ
main_word_of m =
    low_bits m.kind m + m.image * 2 ^ 31 + kind_number m.kind * 2 ^ 50 + m.report * 2 ^ 53 + bit_of m.execd * 2 ^ 55
    + m.stop * 2 ^ 56

abbrev pub group_word_of : GroupWord → ℕ
group_word_of g = g.parent + g.group * 2 ^ 12 + g.session * 2 ^ 24 + bit_of g.terminal * 2 ^ 36

abbrev pub exit_word_of : ExitWord → ℕ
exit_word_of e = e.status + e.image * 2 ^ 9 + bit_of e.fault * 2 ^ 28

-- whether all fields but the kind are 0
abbrev pub is_blank : MainWord → Bool
is_blank m =
    nat_eq m.stop 0 && nat_eq m.report 0 && not m.execd && nat_eq m.image 0 && nat_eq m.pending 0 && nat_eq m.status 0

-- the fields that a row of each kind may have
abbrev pub fits_kind : RowKind → MainWord → Bool
fits_kind Free m = is_blank m
fits_kind Held m = is_blank m
fits_kind Running m =
    nat_eq m.stop 0 && (nat_eq m.report 0 || nat_eq m.report 2) && nat_lt m.image (2 ^ 19)
    && nat_lt m.pending (2 ^ 31) && nat_eq m.status 0
fits_kind Stopped m =
    is_stop_signal m.stop && (nat_eq m.report 0 || nat_eq m.report 1) && nat_lt m.image (2 ^ 19)
    && nat_lt m.pending (2 ^ 31) && nat_eq m.status 0
fits_kind Zombie m =
    nat_eq m.stop 0 && nat_eq m.report 0 && nat_lt m.image (2 ^ 19) && nat_eq m.pending 0 && nat_lt m.status (2 ^ 9)
fits_kind Gone m = is_blank m

-- whether the records are ones that a word may have
abbrev pub is_main : MainWord → Bool
is_main m = fits_kind m.kind m

abbrev pub is_group : GroupWord → Bool
is_group g = nat_lt g.parent (2 ^ 12) && nat_lt g.group (2 ^ 12) && nat_lt g.session (2 ^ 12)

abbrev pub is_exit : ExitWord → Bool
is_exit e = nat_lt e.status (2 ^ 9) && nat_lt e.image (2 ^ 19) && (not e.fault || nat_eq e.status 267)

abbrev pub IsMain : MainWord → Type 0
IsMain m = is_main m ≡ true

abbrev pub IsGroup : GroupWord → Type 0
IsGroup g = is_group g ≡ true

abbrev pub IsExit : ExitWord → Type 0
IsExit e = is_exit e ≡ true
