use Rattle.std.proofs.Common.{◌≡◌, ◌-◌, length, Some, arith}
use Rattle.std.specs.Prelude.{slice_get}
use Rattle.proc_vm.proofs.KeptLemmas.{IsPutBack-more}
use Rattle.proc_vm.proofs.kept.undo_block.Goals as goal

pub loop-i-preserved : goal.loop-i-preserved
loop-i-preserved c =
    let u = c.args.u.now in
    let at : slice_get u.changes (length u.changes - 1 - c.loop-i.i) ≡ Some c.change.result =
    rw (← c.len-count.ensures) c.change.ensures in
    IsPutBack-more u c.args.own.now c.loop-i.own c.restore.new.own c.change.result c.loop-i.i c.loop-i.invariant
    (omega (arith, c.len-count.ensures, c.loop-i-test.true)) at c.restore.ensures.dat c.restore.ensures.sizes
