use Rattle.std.proofs.Common.{◌≡◌, []}
use Rattle.machine_stage.specs.Typing.{IsTypedTo}
use Rattle.machine_stage.proofs.stage.Stage.type_keys.Given as goal

abbrev pub invariant-loop-place : goal.invariant-loop-place
invariant-loop-place l = record {
  script : l.self.machine.script ≡ l.fn.self.machine.script;
  rest : (record (l.self.machine.win32) { keys = [] }) ≡ (record (l.fn.self.machine.win32) { keys = [] });
  typed : IsTypedTo l.fn.lines l.place l.self.machine.win32.keys;
  turns : l.self.turns ≡ l.fn.self.turns;
}
