use Rattle.std.proofs.Common.{◌+◌, sym, subst, arith}
use Rattle.w32_machine.proofs.Leavings.{LeftBelow, absent_at, next_at, left-all}
use Rattle.w32_machine.proofs.machine.ending.abandon.Goals as goal
use Rattle.w32_machine.proofs.machine.ending.abandon.Goals.{then-contains, else-contains}

pub loop-place-preserved : goal.loop-place-preserved
loop-place-preserved c =
    elim c.if-contains.branch [
      | then-contains w ↦
          next_at c.args.objects.now c.args.w c.loop-place.place c.loop-place.objects c.loop-place.invariant
          c.new-o.result c.new-o.ensures w.get_mut.result.now w.left_by.new.self w.get_mut.ensures.value
          w.left_by.ensures c.if-contains.objects w.objects-is
      | else-contains w ↦
          subst (LeftBelow c.args.objects.now c.args.w (c.loop-place.place + 1)) (sym w.objects-is)
          (absent_at c.args.objects.now c.args.w c.loop-place.place c.loop-place.objects c.loop-place.invariant
          c.contains.result c.new-o.result c.new-o.ensures c.contains.ensures.1 w.if-contains.false)
    ]

pub returns-clause-left : goal.returns-clause-left
returns-clause-left c =
    left-all c.args.objects.now c.args.w c.loop-place.place c.loop-place.objects c.loop-place.invariant
    (λ o l. c.places-place-end.ensures.all o (omega (arith, l, c.loop-place-test.false)))
