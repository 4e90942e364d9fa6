use Rattle.std.proofs.Common.{◌∷◌, [], ◌∙◌, sym, ap, length, true≢false, arith}
use Rattle.w32_base.specs.declared.entry.Directive.TheVariants as directive
use Rattle.std.proofs.lemmas.List.{length-append}
use Rattle.layer_world.specs.World.{entry_to}
use Rattle.layer_world.specs.LineLaws.{settle-passes, settle-spent, settle-gives}
use Rattle.layer_world.proofs.world.World.settle.Goals as goal

pub returns-in_default-clause-lines : goal.returns-in_default-clause-lines
returns-in_default-clause-lines g c = λ lines h.
    settle-passes g.P.Part.posted_of g.P.Part.goes g.P.Whole.opening g.P.Whole.slot_of g.P.Whole.thread_of
    g.P.RelyGuarantee.clause c.loop.self lines c.loop.last.0 c.loop.last.1 c.in_default.ensures
    (c.loop.invariant.2 lines h)

pub loop-preserved : goal.loop-preserved
loop-preserved g c = (
  c.give_turn.ensures.script ∙ c.loop.invariant.0,
  omega (
    arith,
    c.loop.invariant.1,
    ap length c.give_turn.ensures.entries,
    ap (λ s. s.setup.limits.budget)
        c.give_turn.ensures.script,
    length-append c.loop.self.entries (entry_to (directive.Turn c.in-Some.next.0 c.in-Some.next.1)
        c.give_turn.ensures.called c.give_turn.result c.give_turn.new.self.state ∷ []),
  ),
  λ lines h. settle-gives g.P.Part.posted_of g.P.Part.goes g.P.Whole.opening g.P.Whole.slot_of g.P.Whole.thread_of
      g.P.RelyGuarantee.clause c.loop.self lines c.loop.last.0 c.loop.last.1 c.give_turn.new.self c.give_turn.result
      c.in-Some.next.0 c.in-Some.next.1 c.in-Some.ensures c.give_turn.ensures (c.loop.invariant.2 lines h),
)

pub returns-then-quiet-clause-lines : goal.returns-then-quiet-clause-lines
returns-then-quiet-clause-lines g c = λ lines h.
    settle-passes g.P.Part.posted_of g.P.Part.goes g.P.Whole.opening g.P.Whole.slot_of g.P.Whole.thread_of
    g.P.RelyGuarantee.clause c.loop.self lines c.loop.last.0 c.loop.last.1 (c.quiet.ensures.0 c.if-quiet.true)
    (c.loop.invariant.2 lines h)

pub returns-else-quiet-clause-lines : goal.returns-else-quiet-clause-lines
returns-else-quiet-clause-lines g c = λ lines h.
    settle-spent g.P.Part.posted_of g.P.Part.goes g.P.Whole.opening g.P.Whole.slot_of g.P.Whole.thread_of
    g.P.RelyGuarantee.clause c.loop.self lines c.loop.last.0 c.loop.last.1
    (omega (arith, c.loop.invariant.1, c.loop.auto.counter-end, c.loop-test.false))
    (λ quiet. true≢false (sym (c.quiet.ensures.1 quiet) ∙ c.if-quiet.false))
    (c.loop.invariant.2 lines h)
