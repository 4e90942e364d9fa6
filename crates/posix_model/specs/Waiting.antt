-- What a wait is in the definitions.
use Rattle.posix_spec.specs.Waits as spec
use Rattle.posix_model.specs.declared.waits.Wait.{Wait}

abbrev pub wait_shown : Wait → spec.Wait
wait_shown wait = record {
  parent = wait.parent;
  group = wait.group;
  selector = wait.selector;
  flags = wait.flags;
}
