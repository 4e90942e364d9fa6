use Rattle.std.proofs.Common.{◌≡◌}
use Rattle.w32_process.specs.StateClosing.{IsClosing}
use Rattle.w32_machine.proofs.machine.Machine.close_all.Given as goal

abbrev pub invariant-loop-number : goal.invariant-loop-number
invariant-loop-number l = record {
  closing : IsClosing l.fn.self.win32 l.self.win32 l.by.process l.number;
  script : l.self.script ≡ l.fn.self.script;
}
