use Rattle.std.proofs.Common.{◌+◌, ◌-◌, ◌∙◌, arith}
use Rattle.layer_world.specs.LineLaws.{ready-busy, steps-pass, steps-end, steps-spent, steps-give}
use Rattle.layer_world.proofs.world.World.take_steps.Goals as goal

pub returns-in_default-clause-lines : goal.returns-in_default-clause-lines
returns-in_default-clause-lines g c = λ lines h.
    steps-pass g.P.Part.posted_of g.P.Part.goes g.P.Whole.opening g.P.Whole.slot_of g.P.Whole.thread_of
    g.P.RelyGuarantee.clause c.loop.self lines c.loop.last.0 c.loop.last.1 (c.args.turns - c.loop.counter)
    c.in_default.ensures (c.loop.invariant.1 lines h)

pub returns-then-spare-eq0-clause-lines : goal.returns-then-spare-eq0-clause-lines
returns-then-spare-eq0-clause-lines g c = λ lines h.
    steps-spent g.P.Part.posted_of g.P.Part.goes g.P.Whole.opening g.P.Whole.slot_of g.P.Whole.thread_of
    g.P.RelyGuarantee.clause c.loop.self lines c.loop.last.0 c.loop.last.1 (c.args.turns - c.loop.counter)
    (c.args.turns - (c.loop.counter + 1)) (omega (arith, c.loop-test.true))
    (omega (arith, c.spare.ensures, c.if-spare-eq0.true))
    (ready-busy c.loop.self.state.win32 c.loop.last.0 c.loop.last.1 c.in-Some.next.0 c.in-Some.next.1 c.in-Some.ensures)
    (c.loop.invariant.1 lines h)

pub loop-preserved : goal.loop-preserved
loop-preserved g c = (
  c.give_turn.ensures.script ∙ c.loop.invariant.0,
  λ lines h. steps-give g.P.Part.posted_of g.P.Part.goes g.P.Whole.opening g.P.Whole.slot_of g.P.Whole.thread_of
      g.P.RelyGuarantee.clause c.loop.self lines c.loop.last.0 c.loop.last.1 c.give_turn.new.self c.give_turn.result
      c.in-Some.next.0 c.in-Some.next.1 c.in-Some.ensures c.give_turn.ensures (c.args.turns - c.loop.counter)
      (c.args.turns - (c.loop.counter + 1)) (omega (arith, c.loop-test.true)) (c.loop.invariant.1 lines h),
)

pub returns-clause-lines : goal.returns-clause-lines
returns-clause-lines g c = λ lines h.
    steps-end g.P.Part.posted_of g.P.Part.goes g.P.Whole.opening g.P.Whole.slot_of g.P.Whole.thread_of
    g.P.RelyGuarantee.clause c.loop.self lines c.loop.last.0 c.loop.last.1 (c.args.turns - c.loop.counter)
    (omega (arith, c.loop-test.false)) (c.loop.invariant.1 lines h)
