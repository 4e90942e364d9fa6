use Rattle.std.proofs.Common.{◌≡◌, drop}
use Rattle.win32_spec.specs.Named.{handles_by, has_absent}
use Rattle.w32_machine.proofs.machine.Machine.has_absent.Given as goal

abbrev pub invariant-loop-place : goal.invariant-loop-place
invariant-loop-place l =
    has_absent (handles_by l.self.win32 l.by.process) l.list ≡
    has_absent (handles_by l.self.win32 l.by.process) (drop l.place l.list)
