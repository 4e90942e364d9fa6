-- What a step leaves, where it was carried out or not.
use Rattle.std.specs.Prelude.{◌≡◌, Bool, true, false, Option, Some, None, Result, Ok, Err}
use Rattle.posix_spec.specs.State.{PosixState}
use Rattle.posix_model.specs.declared.machine.Machine.{Machine}
use Rattle.posix_model.specs.Machine.{script_of, state_of, machine_of}

-- the step's state with the same script where it was carried out; nothing changes where it is none
abbrev pub Gives : Option PosixState → Bool → Machine → Machine → Type 0
Gives step true old new = (step ≡ Some (state_of new)) × (script_of new ≡ script_of old)
Gives step false old new = (step ≡ None) × (machine_of new ≡ machine_of old)

-- the same where memory may be wanting: nothing changes then
abbrev pub GivesOrFails : {E : Type 0} → Option PosixState → Result Bool E → Machine → Machine → Type 0
GivesOrFails step (Ok done) old new = Gives step done old new
GivesOrFails step (Err e) old new = machine_of new ≡ machine_of old
