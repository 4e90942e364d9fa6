use Rattle.std.proofs.Common.{◌≡◌, drop}
use Rattle.win32_spec.specs.Named.{handles_by}
use Rattle.win32_spec.specs.Ready.{is_some_signalled}
use Rattle.w32_machine.proofs.machine.Machine.is_some_signalled.Given as goal

abbrev pub invariant-loop-place : goal.invariant-loop-place
invariant-loop-place l =
    is_some_signalled l.self.win32 l.by.process l.by.thread (handles_by l.self.win32 l.by.process) l.list ≡
    is_some_signalled l.self.win32 l.by.process l.by.thread (handles_by l.self.win32 l.by.process)
    (drop l.place l.list)
