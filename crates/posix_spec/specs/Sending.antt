-- Signals that are sent, and what a parent is owed for it (POSIX.1-2017, XSH 2.4).
use Rattle.std.specs.Prelude.{ℕ, ◌+◌, ◌&&◌, nat_eq, if◌then◌else◌, Option, Some, None, bit_or}
use Rattle.posix_spec.specs.Signals.{generate, lost_by, continue_signal}
use Rattle.posix_spec.specs.State.{Life, Running, Stopped, Zombie, Record, PosixState, record_of}
use Rattle.posix_spec.specs.Pending.{is_stopped, is_live}
use Rattle.posix_spec.specs.Records.{change_record}

-- a process for which a signal was generated, whatever its life
abbrev pub with_generated : ℕ → Record → Record
with_generated signal r =
    record r { pending = generate r.pending signal; lost = bit_or r.lost (lost_by r.pending signal) }

-- a stopped process that CONT continues, which its parent is to be told
abbrev pub continued : Record → Record
continued r = record r { life = Running; report = 2 }

-- generation by the life of a process: CONT continues a stopped one, a zombie takes none
abbrev pub generated_by_life : Life → ℕ → Record → Record
generated_by_life Running signal r = with_generated signal r
generated_by_life (Stopped t) signal r =
    if nat_eq signal continue_signal then continued (with_generated signal r) else with_generated signal r
generated_by_life (Zombie v) signal r = r

-- signal 0 is none
abbrev pub generated : ℕ → Record → Record
generated signal r = if nat_eq signal 0 then r else generated_by_life r.life signal r

-- a live parent is owed one CHLD more
abbrev pub owed_more : Record → Record
owed_more r = if is_live r.life then record r { owed = r.owed + 1 } else r

-- the parent of a stopped process that this signal continues is owed one
abbrev pub owed_for : ℕ → Option Record → PosixState → PosixState
owed_for signal None s = s
owed_for signal (Some r) s =
    if nat_eq signal continue_signal && is_stopped r.life then change_record s r.parent owed_more else s

-- the state after a signal for process q
abbrev pub sent : PosixState → ℕ → ℕ → PosixState
sent s q signal = owed_for signal (record_of s q) (change_record s q (generated signal))
