use Rattle.std.proofs.Common.{◌+◌, ◌≡◌, sym, subst, arith}
use Rattle.w32_driven.proofs.FirstParts.{OpensBelow, opens-none, opens-next, opens-all}
use Rattle.w32_driven.proofs.driven.parts.first_parts.Goals as goal

pub loop-place-init : goal.loop-place-init
loop-place-init g c = record {
  opened = subst (OpensBelow g.P.Part.posted_of g.P.Part.goes g.P.Whole.opening g.P.Whole.slot_of g.P.Whole.thread_of
      c.args.machine.now.win32 0) (sym c.in_ok-parts.ensures.items)
      (opens-none g.P.Part.posted_of g.P.Part.goes g.P.Whole.opening g.P.Whole.slot_of g.P.Whole.thread_of
      c.args.machine.now.win32);
  few = λ l. absurd (omega (arith, l));
}

pub loop-place-preserved : goal.loop-place-preserved
loop-place-preserved g c = record {
  opened = subst (OpensBelow g.P.Part.posted_of g.P.Part.goes g.P.Whole.opening g.P.Whole.slot_of g.P.Whole.thread_of
      c.args.machine.now.win32 (c.loop-place.place + 1)) (sym c.in_ok-push.ensures.items)
      (opens-next g.P.Part.posted_of g.P.Part.goes g.P.Whole.opening g.P.Whole.slot_of g.P.Whole.thread_of
      c.args.machine.now.win32 c.loop-place.place c.new-slot.result c.new-thread.result c.loop-place.parts.items
      c.part_of.result c.loop-place.invariant.opened c.new-slot.ensures c.new-thread.ensures c.part_of.ensures.opened);
  few = λ l. c.part_of.ensures.few;
}

pub returns-clause-opened : goal.returns-clause-opened
returns-clause-opened g c =
    let all : c.loop-place.place ≡ 195 = omega arith in
    opens-all g.P.Part.posted_of g.P.Part.goes g.P.Whole.opening g.P.Whole.slot_of g.P.Whole.thread_of
    c.args.machine.now.win32 c.loop-place.parts.items (c.loop-place.invariant.few (omega (arith, all)))
    (subst (λ n. OpensBelow g.P.Part.posted_of g.P.Part.goes g.P.Whole.opening g.P.Whole.slot_of g.P.Whole.thread_of
    c.args.machine.now.win32 n c.loop-place.parts.items) all c.loop-place.invariant.opened)

pub returns-clause-places : goal.returns-clause-places
returns-clause-places g c =
    let all : c.loop-place.place ≡ 195 = omega arith in omega (arith, all, c.loop-place.invariant.opened.places)
