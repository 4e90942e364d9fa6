-- The scripts for which the parts of all threads are built.
use Rattle.std.specs.Prelude.{ℤ, pos, negsuc, Bool, true, false, ◌&&◌, ◌||◌, nat_lt}
use Rattle.std.specs.List.{list_all}
use Rattle.w32_base.specs.declared.entry.Directive.TheVariants as directive
use Rattle.w32_base.specs.declared.instr.Instr.{Instr}
use Rattle.w32_base.specs.declared.instr.Instr.TheVariants as instr
use Rattle.w32_base.specs.declared.instr.Operand.{Operand}
use Rattle.w32_base.specs.declared.instr.Operand.TheVariants as operand
use Rattle.w32_base.specs.declared.setup.Program.{Program}
use Rattle.script_spec.specs.declared.script.ScheduleLine.{ScheduleLine}
use Rattle.script_spec.specs.declared.script.ScheduleLine.TheVariants as line
use Rattle.script_spec.specs.declared.script.Script.{Script}
use Rattle.vm_spec.specs.Step.{is_local, is_zero}

abbrev pub is_above_zero : ℤ → Bool
is_above_zero (pos n) = nat_lt 0 n
is_above_zero (negsuc n) = false

-- the target is a number above 0 and the signal the number 0, neither from a register
abbrev pub is_built_kill : Operand → Operand → Bool
is_built_kill (operand.Number target) (operand.Number signal) = is_above_zero target && is_zero signal
is_built_kill _ _ = false

-- the calls that are built: those that tell a number, `exit`, and such a `kill`
abbrev pub is_built_call : Instr → Bool
is_built_call instr.GetPid = true
is_built_call instr.GetPpid = true
is_built_call instr.GetPgid = true
is_built_call instr.GetSid = true
is_built_call (instr.Exit v) = true
is_built_call (instr.Kill target signal) = is_built_kill target signal
is_built_call _ = false

abbrev pub is_built_instr : Instr → Bool
is_built_instr i = is_local i || is_built_call i

abbrev pub is_built_program : Program → Bool
is_built_program p = list_all is_built_instr p.code

-- every line of a schedule but one that gives a key
abbrev pub is_built_line : ScheduleLine → Bool
is_built_line (line.Given (directive.Key b)) = false
is_built_line _ = true

-- each instruction of each program is local or a call that is built, and no line of the schedule gives a key
abbrev pub is_built : Script → Bool
is_built s = list_all is_built_program s.setup.programs && list_all is_built_line s.directives
