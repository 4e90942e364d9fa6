-- What a well-formed state of the POSIX machine is: it holds at the opening and after every step.
use Rattle.std.specs.Prelude.{◌≡◌, ◌≢◌, ◌⊎◌, ℕ, ◌+◌, ◌^◌, ◌<◌, ◌≤◌, Bool, true, false, ◌||◌, nat_eq, List, length}
use Rattle.std.specs.Prelude.{Option, Some, None, slice_get, IsTrue, IsSome, IsSomeAnd}
use Rattle.std.specs.FinSet as set
use Rattle.w32_base.specs.declared.instr.Action.{Action}
use Rattle.w32_base.specs.declared.instr.Action.TheVariants.{Default}
use Rattle.w32_base.specs.declared.instr.Instr.TheVariants as instr
use Rattle.w32_base.specs.declared.setup.Program.{Program}
use Rattle.script_spec.specs.declared.script.Script.{Script}
use Rattle.vm_spec.specs.Image.{Image, program_of, in_use}
use Rattle.vm_spec.specs.Step.{Upcoming, CallInstruction}
use Rattle.tty_spec.specs.Terminal.{terminal_session}
use Rattle.tty_spec.specs.TerminalLaws.{IsTerminal}
use Rattle.posix_spec.specs.Signals.{contains, is_stop_signal}
use Rattle.posix_spec.specs.State.{Life, Running, Stopped, Zombie, Numbers, GroupCall, CallInProgress, NoCall, WaitCall}
use Rattle.posix_spec.specs.State.{ForGroup, Record, PosixState, record_of}
use Rattle.posix_spec.specs.Pending.{is_live, has_deliverable, action_in}
use Rattle.posix_spec.specs.Records.{children}
use Rattle.posix_spec.specs.Waits.{death_to_report}
use Rattle.posix_spec.specs.Conditions.{next_of}
use Rattle.posix_spec.specs.ForkSteps.{most_children}
use Rattle.posix_spec.specs.DeathSteps.{is_zombie}

-- a set of signals 1 to 31
abbrev pub IsSignalSet : ℕ → Type 0
IsSignalSet set = set < 2 ^ 31

-- a set of them without KILL and STOP
pub record IsMask (mask : ℕ) : Type 0 where
  pub signals : IsSignalSet mask
  pub without_kill : contains mask 9 ≡ false
  pub without_stop : contains mask 19 ≡ false

-- the signal sets of a process, and its actions: KILL and STOP have their default one
pub record HasSignals (pending lost mask : ℕ) (saved : Option ℕ) (actions : List Action) : Type 0 where
  pub pending_signals : IsSignalSet pending
  pub lost_signals : IsSignalSet lost
  pub is_mask : IsMask mask
  pub saved_mask : (m : ℕ) → saved ≡ Some m → IsMask m
  pub action_count : length actions ≡ 31
  pub kill_action : action_in actions 9 ≡ Default
  pub stop_action : action_in actions 19 ≡ Default

-- the report that a process with this life may have: a stop while it is stopped, a continue while it runs
abbrev pub is_report : Life → ℕ → Bool
is_report Running report = nat_eq report 0 || nat_eq report 2
is_report (Stopped s) report = nat_eq report 0 || nat_eq report 1
is_report (Zombie v) report = nat_eq report 0

-- the life of a process, with what stopped it or its status, and its report
pub record HasLife (life : Life) (report : ℕ) : Type 0 where
  pub stop : (signal : ℕ) → life ≡ Stopped signal → IsTrue (is_stop_signal signal)
  pub status : (status : ℕ) → life ≡ Zombie status → status < 512
  pub has_report : IsTrue (is_report life report)

-- no call is in progress, and nothing is owed
pub record HasNoNotes (call : CallInProgress) (blocked due : Bool) (lost owed : ℕ) : Type 0 where
  pub no_call : call ≡ NoCall
  pub not_blocked : blocked ≡ false
  pub not_due : due ≡ false
  pub none_lost : lost ≡ 0
  pub none_owed : owed ≡ 0

-- the regions are as large as the program says
pub record FitsProgram (image : Image) (program : Program) : Type 0 where
  pub heap : length image.heap ≡ program.heap
  pub stack : length image.stack ≡ program.stack

-- an image of a program of the script, with no more bytes of stack in use than there are
pub record IsImage (script : Script) (image : Image) : Type 0 where
  pub dat : length image.dat ≡ 64
  pub program : IsSomeAnd (slice_get script.setup.programs (program_of image)) (FitsProgram image)
  pub used : in_use image ≤ length image.stack

abbrev pub is_wait_next : Upcoming → Bool
is_wait_next (CallInstruction (instr.Wait selector flags)) = true
is_wait_next _ = false

abbrev pub is_suspend_next : Upcoming → Bool
is_suspend_next (CallInstruction (instr.Suspend v)) = true
is_suspend_next _ = false

-- the calls that block
abbrev pub is_blocking_next : Upcoming → Bool
is_blocking_next (CallInstruction (instr.Wait selector flags)) = true
is_blocking_next (CallInstruction (instr.Read address count)) = true
is_blocking_next (CallInstruction (instr.Suspend v)) = true
is_blocking_next (CallInstruction instr.Pause) = true
is_blocking_next _ = false

-- the calls that go through the members of a group: kill, and those that the rule for the background holds up
abbrev pub is_group_next : Upcoming → Bool
is_group_next (CallInstruction (instr.Kill target signal)) = true
is_group_next (CallInstruction (instr.TcSet v)) = true
is_group_next (CallInstruction (instr.TtyFlags v)) = true
is_group_next (CallInstruction (instr.Read address count)) = true
is_group_next (CallInstruction (instr.Write address count)) = true
is_group_next _ = false

-- whether a number was used for a process
abbrev pub IsUsed : Numbers → ℕ → Type 0
IsUsed used n = IsTrue (set.contains used n)

-- all numbers of one set are in the other
abbrev pub AreUsed : Numbers → Numbers → Type 0
AreUsed used numbers = (n : ℕ) → IsTrue (set.contains numbers n) → IsUsed used n

pub record IsGroupCall (used : Numbers) (call : GroupCall) : Type 0 where
  pub group : IsUsed used call.group
  pub signal : call.signal ≤ 31
  pub members : AreUsed used call.members

-- the wait in progress
pub record IsWaitCall (next : Upcoming) (used numbers : Numbers) : Type 0 where
  pub is_next : IsTrue (is_wait_next next)
  pub looked_at : AreUsed used numbers

-- the call for a group in progress; no signal goes first
pub record IsGroupCallOf (next : Upcoming) (used : Numbers) (due : Bool) (call : GroupCall) : Type 0 where
  pub is_next : IsTrue (is_group_next next)
  pub not_due : due ≡ false
  pub steps : IsGroupCall used call

-- in a suspend
pub record IsSuspended (next : Upcoming) (blocked : Bool) : Type 0 where
  pub is_blocked : IsTrue blocked
  pub is_next : IsTrue (is_suspend_next next)

-- The call of a process, by what is next: only a call that blocks is blocked, and only in a suspend there is a mask to
-- come back.
pub record HasCall (next : Upcoming) (used : Numbers) (live : Bool) (saved : Option ℕ) (call : CallInProgress)
    (blocked due : Bool) : Type 0 where
  pub may_block : IsTrue blocked → IsTrue (is_blocking_next next)
  pub suspended : (m : ℕ) → saved ≡ Some m → IsTrue live → IsSuspended next blocked
  pub wait_call : (numbers : Numbers) → call ≡ WaitCall numbers → IsWaitCall next used numbers
  pub group_call : (c : GroupCall) → call ≡ ForGroup c → IsGroupCallOf next used due c

-- The numbers of a process: its own, its parent's (1 for that of the first process), its group's and its session's. Who
-- leads a session leads its group; the first process leads session 2, which alone has the terminal.
pub record HasNumbers (used : Numbers) (p parent group session : ℕ) (terminal : Bool) : Type 0 where
  pub number : IsUsed used p
  pub parent_number : (parent ≡ 1) ⊎ IsUsed used parent
  pub not_own_parent : parent ≢ p
  pub group_number : IsUsed used group
  pub session_number : IsUsed used session
  pub leader : session ≡ p → group ≡ p
  pub first : p ≡ 2 → session ≡ 2
  pub has_terminal : terminal ≡ nat_eq session terminal_session

pub record IsWellFormedRecord (script : Script) (used : Numbers) (p : ℕ) (r : Record) : Type 0 where
  pub numbers : HasNumbers used p r.parent r.group r.session r.terminal
  pub lives : HasLife r.life r.report
  pub notes : IsTrue (is_zombie r.life) → HasNoNotes r.call r.blocked r.due r.lost r.owed
  pub signals : HasSignals r.pending r.lost r.mask r.saved r.actions
  pub goes_first : IsTrue r.due → IsTrue (has_deliverable r)
  pub runs : IsImage script r.image
  pub calls : HasCall (next_of script r) used (is_live r.life) r.saved r.call r.blocked r.due

-- members of one group are in one session, that of the process that the group is named after
pub record HasSessions (s : PosixState) : Type 0 where
  pub same : (p q : ℕ) (a b : Record) → record_of s p ≡ Some a → record_of s q ≡ Some b → a.group ≡ b.group →
      a.session ≡ b.session
  pub leader : (p : ℕ) (a b : Record) → record_of s p ≡ Some a → record_of s a.group ≡ Some b → a.session ≡ b.session

-- the status that is kept for the host: that of the first process, which is a zombie or has gone
abbrev pub IsFirstStatus : Option Record → Option ℕ → Type 0
IsFirstStatus None status = IsSome status
IsFirstStatus (Some r) status = death_to_report r.life ≡ status

pub record IsWellFormed (script : Script) (s : PosixState) : Type 0 where
  pub each : (p : ℕ) (r : Record) → record_of s p ≡ Some r → IsWellFormedRecord script s.used p r
  pub numbers : (n : ℕ) → IsUsed s.used n → (2 ≤ n) × (n ≤ script.setup.limits.rows + 1)
  pub first_number : IsUsed s.used 2
  pub sessions : HasSessions s
  pub few_children : (p : ℕ) → length (children s p) ≤ most_children
  pub is_terminal : IsTerminal s.terminal
  pub foreground : IsUsed s.used s.terminal.foreground
  pub console_call : (call : GroupCall) → s.console ≡ Some call → IsGroupCall s.used call
  pub first : IsFirstStatus (record_of s 2) s.first_status
