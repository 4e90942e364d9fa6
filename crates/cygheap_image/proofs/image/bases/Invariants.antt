use Rattle.std.proofs.Common.{◌≡◌}
use Rattle.layer_spec.specs.HeapReads.{base_in}
use Rattle.cygheap_image.proofs.Filled.{filled}
use Rattle.cygheap_image.proofs.image.bases.Given as goal

abbrev pub invariant-loop-k : goal.invariant-loop-k
invariant-loop-k l = l.bases ≡ filled (base_in l.bytes) 0 8 l.k
