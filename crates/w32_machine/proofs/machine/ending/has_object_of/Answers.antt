use Rattle.std.proofs.Common.{sym, arith}
use borrow.Author.Count.{below_more}
use Rattle.w32_machine.proofs.Leavings.{IsNotOf, found-at, none-of, absent_here, other_here}
use Rattle.w32_machine.proofs.machine.ending.has_object_of.Goals as goal
use Rattle.w32_machine.proofs.machine.ending.has_object_of.Goals.{else-contains-via-then-contains+else-is_of}
use Rattle.w32_machine.proofs.machine.ending.has_object_of.Goals.{else-contains-via-else-contains}

pub returns-then-is_of : goal.returns-then-is_of
returns-then-is_of c =
    found-at c.args.objects.now c.args.w c.loop-place.place c.new-o.result c.new-o.ensures c.get.result.now
    c.get.ensures.value c.is_of.result c.is_of.ensures c.if-is_of.true

pub loop-place-preserved : goal.loop-place-preserved
loop-place-preserved c =
    below_more (IsNotOf c.args.objects.now c.args.w) c.loop-place.place c.loop-place.invariant
    (elim c.else-contains.branch [
      | else-contains-via-then-contains+else-is_of w ↦
          other_here c.args.objects.now c.args.w c.loop-place.place c.new-o.result c.new-o.ensures w.get.result.now
          w.get.ensures.value w.is_of.result w.is_of.ensures w.if-is_of.false
      | else-contains-via-else-contains w ↦
          absent_here c.args.objects.now c.args.w c.loop-place.place c.new-o.result c.new-o.ensures c.contains.result
          c.contains.ensures.1 w.if-contains.false
    ])

pub returns : goal.returns
returns c =
    sym (none-of c.args.objects.now c.args.w c.loop-place.place
    (λ o l. c.places-place-end.ensures.all o (omega (arith, l, c.loop-place-test.false))) c.loop-place.invariant)
