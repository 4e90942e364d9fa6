-- A process at its terminal (POSIX.1-2017, XBD 11.1, XSH read, write, tcsetpgrp and tcsetattr).
use Rattle.std.specs.Prelude.{ℕ, ◌+◌, ℤ, pos, Bool, ◌&&◌, nat_eq, if◌then◌else◌, List, [], ◌++◌, length, take, drop}
use Rattle.std.specs.Prelude.{Option, Some, None}
use Rattle.w32_base.specs.Names.{is_same}
use Rattle.w32_base.specs.declared.instr.Instr.{Instr}
use Rattle.w32_base.specs.declared.instr.Instr.TheVariants as instr
use Rattle.vm_spec.specs.Image.{Image, value_of}
use Rattle.vm_spec.specs.Step.{address_of}
use Rattle.tty_spec.specs.Terminal.{Terminal}
use Rattle.tty_spec.specs.Discipline.{Taken, after_take}
use Rattle.posix_spec.specs.Numbers.{for_value, is_number}
use Rattle.posix_spec.specs.State.{GroupCall, Record, PosixState}
use Rattle.posix_spec.specs.Records.{change_record}
use Rattle.posix_spec.specs.Checks.{is_allowed, sent_first, count_of, foreground_check, flags_check, read_check}
use Rattle.posix_spec.specs.Checks.{write_check}
use Rattle.posix_spec.specs.Conditions.{with_results, call_ended, answered}
use Rattle.posix_spec.specs.GroupCalls.{begun, background_call, is_complete}
use Rattle.posix_spec.specs.KillSteps.{in_call_for}
use Rattle.posix_spec.specs.Refusals.{check_of}

-- tcset P G: G is the foreground group

abbrev pub with_foreground : PosixState → ℕ → PosixState
with_foreground s g = record s { terminal = record s.terminal { foreground = g } }

abbrev pub tcset_step : PosixState → ℕ → ℕ → Record → Instr → Option PosixState
tcset_step s p g r (instr.TcSet v) =
    if is_number (value_of r.image v) g && is_allowed (foreground_check s r (value_of r.image v))
    then Some (answered (with_foreground s g) p (pos 0))
    else None
tcset_step s p g r _ = None

-- flags P N: the terminal's flags are N

abbrev pub with_flags : PosixState → ℕ → PosixState
with_flags s n = record s { terminal = record s.terminal { flags = n } }

abbrev pub flags_step : PosixState → ℕ → ℕ → Record → Instr → Option PosixState
flags_step s p n r (instr.TtyFlags v) =
    if is_number (value_of r.image v) n && is_allowed (flags_check s r (value_of r.image v))
    then Some (answered (with_flags s n) p (pos 0))
    else None
flags_step s p n r _ = None

-- line P N BYTES: N bytes of the first done line stand in the heap; a read of count 0 takes nothing

-- the bytes from a place on are these
abbrev pub with_bytes : List ℕ → ℕ → List ℕ → List ℕ
with_bytes bytes place new = take place bytes ++ new ++ drop (place + length new) bytes

abbrev pub with_heap_bytes : ℕ → List ℕ → Image → Image
with_heap_bytes place bytes image = record image { heap = with_bytes image.heap place bytes }

-- the process whose read took these bytes
abbrev pub with_read : ℕ → List ℕ → Record → Record
with_read place bytes r =
    with_results (pos (length bytes)) None (record r { image = with_heap_bytes place bytes r.image })

-- what a read of this count takes
abbrev pub read_from : Terminal → ℕ → Option Taken
read_from terminal count =
    if nat_eq count 0 then Some (record { terminal = terminal; bytes = [] }) else after_take terminal count

abbrev pub after_read : PosixState → ℕ → ℕ → Taken → PosixState
after_read s p place taken = change_record (record s { terminal = taken.terminal }) p (with_read place taken.bytes)

abbrev pub line_by : PosixState → ℕ → ℤ → List ℕ → ℕ → Taken → Option PosixState
line_by s p n bytes place taken =
    if is_number n (length taken.bytes) && is_same bytes taken.bytes then Some (after_read s p place taken) else None

abbrev pub line_step : PosixState → ℕ → ℤ → List ℕ → Record → Instr → Option PosixState
line_step s p n bytes r (instr.Read address count) =
    if is_allowed (read_check s r)
    then for_value
    (read_from s.terminal (count_of (value_of r.image count)))
    (line_by s p n bytes (address_of (value_of r.image address)))
    else None
line_step s p n bytes r _ = None

-- write P N BYTES: N bytes of the heap are put out

abbrev pub bytes_at : List ℕ → ℕ → ℕ → List ℕ
bytes_at bytes place count = take count (drop place bytes)

abbrev pub with_output : PosixState → List ℕ → PosixState
with_output s bytes = record s { output = s.output ++ bytes }

abbrev pub is_written : Image → ℤ → ℤ → ℤ → List ℕ → Bool
is_written image address count n bytes =
    is_number n (count_of count) && is_same bytes (bytes_at image.heap (address_of address) (count_of count))

abbrev pub write_step : PosixState → ℕ → ℤ → List ℕ → Record → Instr → Option PosixState
write_step s p n bytes r (instr.Write address count) =
    if is_allowed (write_check s r) && is_written r.image (value_of r.image address) (value_of r.image count) n bytes
    then Some (answered (with_output s bytes) p n)
    else None
write_step s p n bytes r _ = None

-- background P S: the rule for the background sends S to P's group, which begins a call for the group

abbrev pub background_by : PosixState → ℕ → ℕ → ℕ → ℕ → Option PosixState
background_by s p g signal first =
    if nat_eq signal first then Some (change_record s p (in_call_for (begun g signal))) else None

abbrev pub background_step : PosixState → ℕ → ℕ → Record → Instr → Option PosixState
background_step s p signal r i = for_value (sent_first (check_of s p r i)) (background_by s p r.group signal)

-- bgdone P: each member now has had its step; the call begins anew

abbrev pub background_done_by : PosixState → ℕ → GroupCall → Option PosixState
background_done_by s p call = if is_complete s call then Some (change_record s p call_ended) else None

abbrev pub background_done_step : PosixState → ℕ → Record → Instr → Option PosixState
background_done_step s p r i = for_value (background_call r i) (background_done_by s p)
