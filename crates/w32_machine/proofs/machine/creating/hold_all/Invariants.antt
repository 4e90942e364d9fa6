use Rattle.std.proofs.Common.{◌≡◌}
use Rattle.w32_machine.proofs.Holding.{HoldsBelow}
use Rattle.w32_machine.proofs.machine.creating.hold_all.Given as goal

abbrev pub invariant-loop-number : goal.invariant-loop-number
invariant-loop-number l = record {
  holds : HoldsBelow l.handles l.number l.fn.objects l.objects;
  spare : l.objects.spare ≡ l.fn.objects.spare;
}
