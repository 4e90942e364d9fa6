-- The programs that an exec finds.
use Rattle.std.specs.Prelude.{ℕ, Bool, false, List, is_some}
use Rattle.w32_base.specs.Names.{is_same}
use Rattle.w32_base.specs.declared.event.ExecCause.{ExecCause}
use Rattle.w32_base.specs.declared.instr.Instr.{Instr}
use Rattle.w32_base.specs.declared.instr.Instr.TheVariants as instr
use Rattle.script_spec.specs.declared.script.Script.{Script}
use Rattle.posix_spec.specs.ForkSteps.{NumberedProgram, program_named, is_exec_cause}
use Rattle.posix_model.specs.declared.execs.Found.{Found}

abbrev pub found_shown : Found → NumberedProgram
found_shown found = record { number = found.number; program = found.program.now }

-- the call is an exec that fails for this cause
abbrev pub exec_fails : Script → ExecCause → Instr → Bool
exec_fails script cause (instr.Exec name) = is_exec_cause (is_some (program_named script name)) cause
exec_fails script cause _ = false

-- the call is an exec of this name
abbrev pub is_exec : Instr → List ℕ → Bool
is_exec (instr.Exec wanted) name = is_same wanted name
is_exec _ name = false
