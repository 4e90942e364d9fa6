-- Lemmas of new processes and programs.
use Rattle.std.proofs.Common.{◌≡◌, ℕ, pos, cond, List, drop, Option, Some, None, refl}
use Rattle.w32_base.specs.declared.setup.Program.{Program}
use Rattle.w32_base.specs.declared.event.Errno.TheVariants as errno
use Rattle.w32_base.specs.declared.event.ForkCause.{ForkCause}
use Rattle.w32_base.specs.declared.event.ExecCause.{ExecCause}
use Rattle.w32_base.specs.declared.instr.Instr.{Instr}
use Rattle.w32_base.specs.declared.instr.Instr.TheVariants as instr
use Rattle.script_spec.specs.declared.script.Script.{Script}
use Rattle.posix_spec.specs.Conditions.{answered}
use Rattle.posix_spec.specs.ForkSteps.{child_of, with_used, fork_step, fork_fail_step}
use Rattle.posix_spec.specs.ForkSteps.{NumberedProgram, program_from, program_named, exec_to, exec_step}
use Rattle.posix_spec.specs.ForkSteps.{exec_result, exec_fail_step}
use Rattle.posix_spec.specs.Numbers.{error_result}
use Rattle.posix_spec.specs.Records.{with_record}
use Rattle.posix_spec.specs.State.{Record, PosixState}
use Rattle.posix_model.specs.Forked.{fork_fails, forks}
use Rattle.posix_model.specs.Executed.{exec_fails, is_exec}

pub fork_fail_step-is : (s : PosixState) (p : ℕ) (cause : ForkCause) (r : Record) (i : Instr) →
    fork_fail_step s p cause r i ≡ cond (fork_fails s p cause i) (Some (answered s p (error_result errno.EAGAIN))) None
fork_fail_step-is s p cause r instr.Fork = refl
fork_fail_step-is s p cause r _ = refl

pub fork_step-is : (script : Script) (s : PosixState) (p c : ℕ) (r : Record) (i : Instr) →
    fork_step script s p c r i ≡ cond (forks script s p c i) (Some (answered (with_used (with_record s c (child_of p
    r)) c) p (pos c))) None
fork_step-is script s p c r instr.Fork = refl
fork_step-is script s p c r _ = refl

pub exec_fail_step-is : (script : Script) (s : PosixState) (p : ℕ) (cause : ExecCause) (r : Record) (i : Instr) →
    exec_fail_step script s p cause r i ≡ cond (exec_fails script cause i) (Some (answered s p (exec_result cause)))
    None
exec_fail_step-is script s p cause r (instr.Exec name) = refl
exec_fail_step-is script s p cause r _ = refl

pub exec_step-is : (script : Script) (s : PosixState) (p : ℕ) (name : List ℕ) (r : Record) (i : Instr) →
    exec_step script s p name r i ≡ cond (is_exec i name) (exec_to s p (program_named script name)) None
exec_step-is script s p name r (instr.Exec wanted) = refl
exec_step-is script s p name r _ = refl

-- ---- programs by their names

module _ (programs : List Program) (name : List ℕ) where
  -- the program of this name from place i on
  abbrev pub found_from : ℕ → Option NumberedProgram
  found_from i = program_from i (drop i programs) name
