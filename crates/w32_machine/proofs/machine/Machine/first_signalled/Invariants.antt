use Rattle.std.proofs.Common.{◌≡◌, drop}
use Rattle.win32_spec.specs.HandleCalls.{first_signalled}
use Rattle.win32_spec.specs.Named.{handles_by}
use Rattle.w32_machine.proofs.machine.Machine.first_signalled.Given as goal

abbrev pub invariant-loop-place : goal.invariant-loop-place
invariant-loop-place l =
    first_signalled l.self.win32 l.by.process l.by.thread (handles_by l.self.win32 l.by.process) l.list 0 ≡
    first_signalled l.self.win32 l.by.process l.by.thread (handles_by l.self.win32 l.by.process)
    (drop l.place l.list) l.place
