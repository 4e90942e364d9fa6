use Rattle.std.proofs.Common.{◌≡◌, ◌-◌}
use Rattle.layer_spec.specs.Heap.{IsHeapBytes}
use Rattle.cygheap_image.specs.Fields.{fields_in}
use Rattle.cygheap_image.proofs.Dropped.{some_dropped}
use Rattle.cygheap_image.proofs.copies.drop_handlers.Given as goal

abbrev pub invariant-loop-s : goal.invariant-loop-s
invariant-loop-s l =
    IsHeapBytes l.bytes × (fields_in l.bytes ≡ some_dropped (fields_in l.initial.bytes) (l.s - 1))
