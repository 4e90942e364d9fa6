-- What a State shows, and what it shows where a run of a script begins.
use Rattle.script_spec.specs.declared.script.Script.{Script}
use Rattle.posix_spec.specs.Opening.{opening_of}
use Rattle.posix_model.specs.declared.state.State.{State}
use Rattle.posix_model.specs.Machine.{PosixMachine, machine_of}

-- the limits and programs that it keeps, and the state of the machine
abbrev pub posix_machine : State → PosixMachine
posix_machine s = machine_of s.machine

-- the script's limits and programs, and the opening state
abbrev pub opened_by : Script → PosixMachine
opened_by script =
    record { limits = script.setup.limits; programs = script.setup.programs; state = opening_of script }
