-- The ranges and names that a script keeps.
use Rattle.std.specs.Prelude.{◌≡◌, ◌≤◌, ℕ, ◌+◌, pos, negsuc, ℤ, Bool, true, ◌&&◌, nat_le, nat_lt, length}
use Rattle.std.specs.List.{list_all}
use Rattle.w32_base.specs.Name.{is_name}
use Rattle.w32_base.specs.Names.{are_distinct}
use Rattle.w32_base.specs.Setup.{module_names, program_names}
use Rattle.w32_base.specs.Targets.{are_targets_below}
use Rattle.w32_base.specs.declared.entry.Directive.{Directive}
use Rattle.w32_base.specs.declared.entry.Directive.TheVariants as directive
use Rattle.w32_base.specs.declared.instr.Instr.{Instr}
use Rattle.w32_base.specs.declared.instr.Instr.TheVariants as instr
use Rattle.w32_base.specs.declared.instr.Operand.{Operand}
use Rattle.w32_base.specs.declared.instr.Operand.TheVariants as operand
use Rattle.w32_base.specs.declared.setup.Limits.{Limits}
use Rattle.w32_base.specs.declared.setup.Module.{Module}
use Rattle.w32_base.specs.declared.setup.Program.{Program}
use Rattle.script_spec.specs.declared.script.OccupiedPage.{OccupiedPage}
use Rattle.script_spec.specs.declared.script.ScheduleLine.{ScheduleLine}
use Rattle.script_spec.specs.declared.script.ScheduleLine.TheVariants as line
use Rattle.script_spec.specs.declared.script.Script.{Script}
use Rattle.script_spec.specs.Ranges.{is_line_within}

abbrev pub is_within : ℕ → ℕ → ℕ → Bool
is_within low high n = nat_le low n && nat_le n high

abbrev pub is_32_bits : ℤ → Bool
is_32_bits (pos n) = nat_le n 2147483647
is_32_bits (negsuc n) = nat_le n 2147483647

abbrev pub is_valid_operand : Operand → Bool
is_valid_operand (operand.Register r) = nat_lt r 8
is_valid_operand (operand.Number n) = is_32_bits n

abbrev pub is_valid_instr : Instr → Bool
is_valid_instr (instr.Set r v) = nat_lt r 8 && is_valid_operand v
is_valid_instr (instr.Add r v) = nat_lt r 8 && is_valid_operand v
is_valid_instr (instr.Load r v) = nat_lt r 8 && is_valid_operand v
is_valid_instr (instr.Store u v) = is_valid_operand u && is_valid_operand v
is_valid_instr (instr.Push v) = is_valid_operand v
is_valid_instr (instr.Pop r) = nat_lt r 8
is_valid_instr (instr.Jump place) = true
is_valid_instr (instr.JumpZero v place) = is_valid_operand v
is_valid_instr (instr.JumpNegative v place) = is_valid_operand v
is_valid_instr (instr.Exec name) = is_name name
is_valid_instr (instr.Exit v) = is_valid_operand v
is_valid_instr (instr.Wait u v) = is_valid_operand u && is_valid_operand v
is_valid_instr (instr.Kill u v) = is_valid_operand u && is_valid_operand v
is_valid_instr (instr.Action v a) = is_valid_operand v
is_valid_instr (instr.Mask c v) = is_valid_operand v
is_valid_instr (instr.Suspend v) = is_valid_operand v
is_valid_instr (instr.SetPgid u v) = is_valid_operand u && is_valid_operand v
is_valid_instr (instr.TcSet v) = is_valid_operand v
is_valid_instr (instr.TtyFlags v) = is_valid_operand v
is_valid_instr (instr.Read u v) = is_valid_operand u && is_valid_operand v
is_valid_instr (instr.Write u v) = is_valid_operand u && is_valid_operand v
is_valid_instr instr.GetPid = true
is_valid_instr instr.GetPpid = true
is_valid_instr instr.GetPgid = true
is_valid_instr instr.GetSid = true
is_valid_instr instr.Fork = true
is_valid_instr instr.Pause = true
is_valid_instr instr.Return = true
is_valid_instr instr.SetSid = true
is_valid_instr instr.TcGet = true

abbrev pub are_valid_limits : Limits → Bool
are_valid_limits l = is_within 1 64 l.slots && is_within 1 4000 l.rows && is_within 1 500000 l.budget

abbrev pub is_valid_module : Module → Bool
is_valid_module m = is_name m.name && is_within 1 8 m.size && nat_le (m.base + m.size) 1024

abbrev pub is_valid_page : OccupiedPage → Bool
is_valid_page o = is_within 1 500000 o.creation && nat_lt o.page 1024

abbrev pub is_valid_program : Program → Bool
is_valid_program p =
    is_name p.name && nat_le p.heap 32768 && is_within 64 32768 p.stack && is_within 1 4000 (length p.code)
    && list_all is_valid_instr p.code && are_targets_below (length p.code) p.code

-- and a thread is 0 to 2, a key a byte
abbrev pub is_valid_directive : Directive → Bool
is_valid_directive (directive.Turn slot thread) = nat_le thread 2
is_valid_directive (directive.End slot) = true
is_valid_directive (directive.Key b) = nat_le b 255

abbrev pub is_valid_line : ℕ → ScheduleLine → Bool
is_valid_line slots (line.Given d) = is_line_within slots (line.Given d) && is_valid_directive d
is_valid_line slots (line.Steps turns) = is_line_within slots (line.Steps turns)
is_valid_line slots line.Settle = true

-- each number is in its range, each name is one, and the names of modules differ as those of programs do
pub record IsValid (s : Script) : Type 0 where
  pub limits : are_valid_limits s.setup.limits ≡ true
  pub few_modules : length s.setup.modules ≤ 8
  pub modules : list_all is_valid_module s.setup.modules ≡ true
  pub module_names : are_distinct (module_names s.setup.modules) ≡ true
  pub few_pages : length s.occupied ≤ 64
  pub pages : list_all is_valid_page s.occupied ≡ true
  pub number_of_programs : is_within 1 32 (length s.setup.programs) ≡ true
  pub programs : list_all is_valid_program s.setup.programs ≡ true
  pub program_names : are_distinct (program_names s.setup.programs) ≡ true
  pub number_of_lines : is_within 1 10000 (length s.directives) ≡ true
  pub lines : list_all (is_valid_line s.setup.limits.slots) s.directives ≡ true
