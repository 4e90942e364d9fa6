use Rattle.std.proofs.Common.{◌≡◌, ◌∙◌, Some, sym, ap, arith, true≢false}
use borrow.Author.Count.{below_more}
use Rattle.w32_process.specs.Table.{number_at}
use Rattle.w32_process.specs.SoundLaws.{within_slots}
use Rattle.w32_machine.proofs.machine.finding.slot_of.Goals as goal

pub loop-place-init : goal.loop-place-init
loop-place-init c = record {
  before = λ k l e. absurd (omega arith);
  sound = λ l. absurd (omega arith);
}

pub loop-place-preserved : goal.loop-place-preserved
loop-place-preserved c = record {
  before = below_more (λ k. number_at c.args.processes.now.slots k ≡ Some c.args.w → ⊥) c.loop-place.place
      c.loop-place.invariant.before
      (λ e. true≢false (sym (c.is_in.ensures.value.1 (ap (number_at c.args.processes.now.slots) c.new-slot.ensures ∙ e))
      ∙ c.if-is_in.false));
  sound = λ l. c.is_in.ensures.sound;
}

pub returns : goal.returns
returns c = λ k e.
    let sound = c.loop-place.invariant.sound (omega (arith, c.loop-place-test.false)) in
    c.loop-place.invariant.before k
    (omega (
      arith,
      sound.few,
      within_slots c.args.processes.now.slots k c.args.w e,
      c.loop-place-test.false,
    )) e
