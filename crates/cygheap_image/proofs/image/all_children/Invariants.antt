use Rattle.std.proofs.Common.{◌≡◌, false}
use Rattle.layer_spec.specs.HeapReads.{child_in}
use Rattle.cygheap_image.specs.Shown.{pair_of}
use Rattle.cygheap_image.proofs.Filled.{filled}
use Rattle.cygheap_image.proofs.image.all_children.Given as goal

abbrev pub invariant-loop-i : goal.invariant-loop-i
invariant-loop-i l = l.all ≡ filled (λ i. pair_of (child_in l.bytes i)) (0, false) 32 l.i
