use Rattle.std.proofs.Common.{◌≡◌, ◌≤◌, ap, subst, arith}
use borrow.Author.Count.{below_more}
use Rattle.win32_spec.specs.Lookup.{IsOccupied}
use Rattle.w32_machine.specs.Running.{Running}
use Rattle.w32_machine.proofs.FreeSlot.{is_free, is_taken}
use Rattle.w32_machine.proofs.machine.Machine.free_slot.Goals as goal

pub loop-number-init : goal.loop-number-init
loop-number-init c = λ k l m. absurd (omega arith)

pub returns-then-is_none : goal.returns-then-is_none
returns-then-is_none c =
    let slots : c.self.inside.script.setup.limits.slots ≡ c.args.self.now.script.setup.limits.slots =
    ap (λ (r : Running). r.script.setup.limits.slots) c.self.view_is in
    record {
      from_one = omega (arith, c.new-slot.ensures);
      most = omega (arith, c.new-slot.ensures, slots, c.loop-number-test.true);
      free = is_free c.args.self.now.win32.processes c.new-slot.result c.in_slot.result c.is_none.result
          c.in_slot.ensures c.is_none.ensures c.if-is_none.true;
      lower = λ k l m. c.loop-number.invariant k l (omega (arith, c.new-slot.ensures));
    }

pub loop-number-preserved : goal.loop-number-preserved
loop-number-preserved c =
    λ k l m. below_more (λ j. 1 ≤ j → IsOccupied c.args.self.now.win32.processes j) c.loop-number.number
    (λ j below from. c.loop-number.invariant j from below)
    (λ from. subst (IsOccupied c.args.self.now.win32.processes) c.new-slot.ensures
    (is_taken c.args.self.now.win32.processes c.new-slot.result c.in_slot.result c.is_none.result c.in_slot.ensures
    c.is_none.ensures c.if-is_none.false)) k m l

pub returns : goal.returns
returns c =
    let slots : c.self.inside.script.setup.limits.slots ≡ c.args.self.now.script.setup.limits.slots =
    ap (λ (r : Running). r.script.setup.limits.slots) c.self.view_is in
    λ k l m. c.loop-number.invariant k l (omega (arith, slots, c.loop-number-test.false))
