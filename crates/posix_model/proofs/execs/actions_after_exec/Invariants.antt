use Rattle.std.proofs.Common.{◌≡◌, ◌++◌, map, take, drop, length}
use Rattle.posix_spec.specs.ForkSteps.{action_after_exec}
use Rattle.posix_model.proofs.execs.actions_after_exec.Given as goal

abbrev pub invariant-loop-i : goal.invariant-loop-i
invariant-loop-i l =
    (l.after ≡ map action_after_exec (take l.i l.fn.actions) ++ drop l.i l.fn.actions) × (length l.after ≡ 31)
