-- The console, which takes keys and sends their signals to the foreground group (POSIX.1-2017, XBD 11.1.9).
use Rattle.std.specs.Prelude.{ℕ, ◌&&◌, nat_eq, if◌then◌else◌, is_none, ◌++◌, Option, Some, None}
use Rattle.w32_base.specs.declared.event.Answer.{Answer}
use Rattle.tty_spec.specs.Discipline.{KeyTaken, after_key}
use Rattle.posix_spec.specs.Numbers.{for_value}
use Rattle.posix_spec.specs.State.{GroupCall, PosixState}
use Rattle.posix_spec.specs.Sending.{sent}
use Rattle.posix_spec.specs.GroupCalls.{begun, is_next_member, with_step, ends_with}

-- key 0 B: the terminal takes the key, and what it echoes is put out. A signal begins a call for the foreground group;
-- there is no other key before that has ended.

-- the call for group g that a signal begins
abbrev pub call_for : ℕ → Option ℕ → Option GroupCall
call_for g None = None
call_for g (Some signal) = Some (begun g signal)

abbrev pub with_key : PosixState → KeyTaken → PosixState
with_key s taken = record s {
  terminal = taken.terminal;
  output = s.output ++ taken.echo;
  console = call_for s.terminal.foreground taken.signal;
}

abbrev pub key_step : PosixState → ℕ → ℕ → Option PosixState
key_step s p b = if nat_eq p 0 && is_none s.console then Some (with_key s (after_key s.terminal b)) else None

-- member 0 Q S: member Q has its step in the console's call

abbrev pub with_console : PosixState → Option GroupCall → PosixState
with_console s call = record s { console = call }

abbrev pub console_member_by : PosixState → ℕ → ℕ → GroupCall → Option PosixState
console_member_by s q signal call =
    if is_next_member s call q signal then Some (with_console (sent s q signal) (Some (with_step call q))) else None

abbrev pub console_member_step : PosixState → ℕ → ℕ → Option PosixState
console_member_step s q signal = for_value s.console (console_member_by s q signal)

-- groupdone 0 G S REPLY: each member now has had its step in the console's call

abbrev pub console_done_by : PosixState → ℕ → ℕ → Answer → GroupCall → Option PosixState
console_done_by s g signal answer call =
    if ends_with s call g signal answer then Some (with_console s None) else None

abbrev pub console_done_step : PosixState → ℕ → ℕ → Answer → Option PosixState
console_done_step s g signal answer = for_value s.console (console_done_by s g signal answer)
