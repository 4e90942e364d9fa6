-- Runs of the POSIX machine.
use Rattle.std.specs.Prelude.{◌≡◌, List, [], ◌∷◌, Some}
use Rattle.w32_base.specs.declared.event.Event.{Event}
use Rattle.script_spec.specs.declared.script.Script.{Script}
use Rattle.posix_spec.specs.State.{PosixState}
use Rattle.posix_spec.specs.Step.{posix_step}

-- the event is a step from one state to another
abbrev pub PosixStep : Script → PosixState → Event → PosixState → Type 0
PosixStep script s e new = posix_step script s e ≡ Some new

-- the events lead from one state to another
abbrev pub PosixRun : Script → PosixState → List Event → PosixState → Type 0
PosixRun script s [] new = new ≡ s
PosixRun script s (e ∷ es) new = (mid : PosixState) × PosixStep script s e mid × PosixRun script mid es new
