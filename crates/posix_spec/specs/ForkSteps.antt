-- New processes and new programs (POSIX.1-2017, XSH fork and exec).
use Rattle.std.specs.Prelude.{ℕ, suc, ◌+◌, ℤ, pos, Bool, true, false, ◌&&◌, not, nat_eq, nat_le, nat_lt, if◌then◌else◌}
use Rattle.std.specs.Prelude.{List, [], ◌∷◌, length, map, Option, Some, None, is_some}
use Rattle.std.specs.FinSet as set
use Rattle.w32_base.specs.Names.{is_same}
use Rattle.w32_base.specs.declared.event.Errno.TheVariants as errno
use Rattle.w32_base.specs.declared.event.ForkCause.{ForkCause}
use Rattle.w32_base.specs.declared.event.ForkCause.TheVariants as fork_cause
use Rattle.w32_base.specs.declared.event.ExecCause.{ExecCause}
use Rattle.w32_base.specs.declared.event.ExecCause.TheVariants as exec_cause
use Rattle.w32_base.specs.declared.instr.Action.{Action}
use Rattle.w32_base.specs.declared.instr.Action.TheVariants as action
use Rattle.w32_base.specs.declared.instr.Instr.{Instr}
use Rattle.w32_base.specs.declared.instr.Instr.TheVariants as instr
use Rattle.w32_base.specs.declared.setup.Program.{Program}
use Rattle.script_spec.specs.declared.script.Script.{Script}
use Rattle.vm_spec.specs.Image.{Image, with_result}
use Rattle.vm_spec.specs.NewImage.{new_image}
use Rattle.posix_spec.specs.Numbers.{error_result}
use Rattle.posix_spec.specs.State.{Running, NoCall, Record, PosixState}
use Rattle.posix_spec.specs.Records.{with_record, change_record, children}
use Rattle.posix_spec.specs.Conditions.{call_ended, answered}

-- how many children a process may have
abbrev pub most_children : ℕ
most_children = 32

-- fork P C: C is a number that was never used, and P's new child

abbrev pub is_fresh : Script → PosixState → ℕ → Bool
is_fresh script s c =
    nat_le 2 c && (nat_le c (script.setup.limits.rows + 1) && not (set.contains s.used c))

-- The child of process p: its group, session, terminal, mask and actions, and its image, with result 0. No signal is
-- pending, and it has no notes.
abbrev pub child_of : ℕ → Record → Record
child_of p r = record r {
  parent = p;
  execd = false;
  life = Running;
  report = 0;
  pending = 0;
  saved = None;
  image = with_result r.image (pos 0) None;
  call = NoCall;
  blocked = false;
  due = false;
  lost = 0;
  owed = 0;
}

abbrev pub with_used : PosixState → ℕ → PosixState
with_used s c = record s { used = set.insert s.used c }

abbrev pub fork_step : Script → PosixState → ℕ → ℕ → Record → Instr → Option PosixState
fork_step script s p c r instr.Fork =
    if nat_lt (length (children s p)) most_children && is_fresh script s c
    then Some (answered (with_used (with_record s c (child_of p r)) c) p (pos c))
    else None
fork_step script s p c r _ = None

-- forkfail P CAUSE: EAGAIN. `children` stands exactly where P has 32 of them; this state shows no other cause.

abbrev pub is_fork_cause : PosixState → ℕ → ForkCause → Bool
is_fork_cause s p fork_cause.Children = nat_eq (length (children s p)) most_children
is_fork_cause s p fork_cause.Rows = true
is_fork_cause s p fork_cause.Slot = true
is_fork_cause s p (fork_cause.Placed name found wanted) = true
is_fork_cause s p (fork_cause.Ended w) = true

abbrev pub fork_fail_step : PosixState → ℕ → ForkCause → Record → Instr → Option PosixState
fork_fail_step s p cause r instr.Fork =
    if is_fork_cause s p cause then Some (answered s p (error_result errno.EAGAIN)) else None
fork_fail_step s p cause r _ = None

-- exec P NAME: P runs the program of this name from its beginning

-- a program and its number
pub record NumberedProgram : Type 0 where
  pub number : ℕ
  pub program : Program

-- the program of this name, where the first of these has this number
abbrev pub program_from : ℕ → List Program → List ℕ → Option NumberedProgram
program_from number [] name = None
program_from number (program ∷ rest) name =
    if is_same program.name name
    then Some (record { number = number; program = program })
    else program_from (suc number) rest name

abbrev pub program_named : Script → List ℕ → Option NumberedProgram
program_named script name = program_from 0 script.setup.programs name

-- a handled signal is set to its default; one that is ignored stays so
abbrev pub action_after_exec : Action → Action
action_after_exec action.Default = action.Default
action_after_exec action.Ignore = action.Ignore
action_after_exec (action.Handler target restart) = action.Default

-- the process in a new image: number, parent, group, session, terminal, mask and pending signals stay
abbrev pub replaced : Image → Record → Record
replaced image r = call_ended (record r { image = image; execd = true; actions = map action_after_exec r.actions })

abbrev pub exec_to : PosixState → ℕ → Option NumberedProgram → Option PosixState
exec_to s p None = None
exec_to s p (Some found) = Some (change_record s p (replaced (new_image found.number found.program)))

abbrev pub exec_step : Script → PosixState → ℕ → List ℕ → Record → Instr → Option PosixState
exec_step script s p name r (instr.Exec wanted) =
    if is_same wanted name then exec_to s p (program_named script name) else None
exec_step script s p name r _ = None

-- execfail P CAUSE: ENOENT exactly where no program has the name, else EAGAIN

abbrev pub is_exec_cause : Bool → ExecCause → Bool
is_exec_cause has_program exec_cause.NoEntry = not has_program
is_exec_cause has_program exec_cause.Slot = has_program
is_exec_cause has_program (exec_cause.Ended w) = has_program

abbrev pub exec_result : ExecCause → ℤ
exec_result exec_cause.NoEntry = error_result errno.ENOENT
exec_result exec_cause.Slot = error_result errno.EAGAIN
exec_result (exec_cause.Ended w) = error_result errno.EAGAIN

abbrev pub exec_fail_step : Script → PosixState → ℕ → ExecCause → Record → Instr → Option PosixState
exec_fail_step script s p cause r (instr.Exec name) =
    if is_exec_cause (is_some (program_named script name)) cause
    then Some (answered s p (exec_result cause))
    else None
exec_fail_step script s p cause r _ = None
