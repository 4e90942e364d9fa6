-- The ranges of a script, which its own type keeps, as far as the POSIX machine needs them.
use Rattle.std.specs.Prelude.{◌≤◌, List, length, IsTrue}
use Rattle.std.specs.List.{All}
use Rattle.w32_base.specs.declared.instr.Instr.{Instr}
use Rattle.w32_base.specs.declared.setup.Program.{Program}
use Rattle.script_spec.specs.declared.script.Script.{Script}
use Rattle.vm_spec.specs.SizeLaws.{writes_register}

-- the registers that these instructions write are among the eight
abbrev pub WritesRegisters : List Instr → Type 0
WritesRegisters code = All (λ i. IsTrue (writes_register i)) code

-- and so they are in each program of the script
abbrev pub HasRegisters : Script → Type 0
HasRegisters script = All (λ (program : Program). WritesRegisters program.code) script.setup.programs

pub record HasRanges (script : Script) : Type 0 where
  pub some_program : 1 ≤ length script.setup.programs
  pub few_programs : length script.setup.programs ≤ 32
  pub some_row : 1 ≤ script.setup.limits.rows
  pub registers : HasRegisters script
