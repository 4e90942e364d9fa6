-- What the parts of a state are in the definitions.
use Rattle.std.specs.Prelude.{ℕ, List, [], Option, Some, None, option_map, refl}
use Rattle.w32_base.specs.declared.instr.Instr.{Instr}
use Rattle.w32_base.specs.declared.setup.Limits.{Limits}
use Rattle.w32_base.specs.declared.setup.Program.{Program}
use Rattle.script_spec.specs.declared.script.Script.{Script}
use Rattle.posix_spec.specs.State.{Record, PosixState, record_of}
use Rattle.posix_spec.specs.Conditions.{own_call, group_step_call}
use Rattle.posix_model.specs.declared.machine.Machine.{Machine}
use Rattle.posix_model.specs.MarkedNumbers.{numbers_of}
use Rattle.posix_model.specs.Shown.{group_call_of}
use Rattle.posix_model.specs.Table.{records_of}

-- a script with these limits and programs, and nothing else that the machine looks at
abbrev pub script_with : Limits → List Program → Script
script_with limits programs = record {
  setup = record { limits = limits; modules = []; programs = programs };
  occupied = [];
  directives = [];
  lines_in_range = refl;
}

abbrev pub script_of : Machine → Script
script_of m = script_with m.limits m.programs

abbrev pub state_of : Machine → PosixState
state_of m = record {
  records = records_of m.table;
  terminal = m.tty;
  output = m.output.items;
  console = option_map (λ call. group_call_of call (numbers_of m.console_marks)) m.console;
  used = numbers_of m.used;
  first_status = m.first_status;
  host_came = m.host_came;
}

-- what the machine keeps of the script, and its state
pub record PosixMachine : Type 0 where
  pub limits : Limits
  pub programs : List Program
  pub state : PosixState

abbrev pub machine_of : Machine → PosixMachine
machine_of m = record { limits = m.limits; programs = m.programs; state = state_of m }

-- a process with the call that it is at
abbrev pub with_call : Record → Option Instr → Option (Record × Instr)
with_call r None = None
with_call r (Some i) = Some (r, i)

abbrev pub called_by : Script → Option Record → Option (Record × Instr)
called_by script None = None
called_by script (Some r) = with_call r (own_call script r)

-- process p, with the call that its own events belong to, outside a call for a group
abbrev pub called : Script → PosixState → ℕ → Option (Record × Instr)
called script s p = called_by script (record_of s p)

abbrev pub group_called_by : Script → Option Record → Option (Record × Instr)
group_called_by script None = None
group_called_by script (Some r) = with_call r (group_step_call script r)

-- the same where it may be in a call for a group
abbrev pub group_called : Script → PosixState → ℕ → Option (Record × Instr)
group_called script s p = group_called_by script (record_of s p)
