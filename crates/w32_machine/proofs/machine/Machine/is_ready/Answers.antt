use Rattle.std.proofs.Common.{◌∙◌, sym}
use Rattle.w32_machine.proofs.Readiness.{suspended-ready, running-thread, running-few, running-ready, not-zero, is-zero}
use Rattle.w32_machine.proofs.machine.Machine.is_ready.Goals as goal

pub returns-then-ne : goal.returns-then-ne
returns-then-ne c =
    suspended-ready c.self.inside c.self.invariant c.args.self.now c.self.view_is c.args.by.now.slot
    c.args.by.now.process c.args.by.now.thread c.requires
    (not-zero c.count.result _ c.count.ensures (sym c.ne.ensures ∙ c.if-ne.true))

pub posted-requires : goal.posted-requires
posted-requires c =
    running-thread c.self.inside c.self.invariant c.args.self.now c.self.view_is c.args.by.now.slot
    c.args.by.now.process c.args.by.now.thread c.requires
    (is-zero c.count.result _ c.count.ensures (sym c.ne.ensures ∙ c.if-ne.false))

pub may_go-requires : goal.may_go-requires
may_go-requires c = record {
  process = c.requires;
  thread =
      running-few c.self.inside c.self.invariant c.args.self.now c.self.view_is c.args.by.now.slot
      c.args.by.now.process c.args.by.now.thread c.requires
      (is-zero c.count.result _ c.count.ensures (sym c.ne.ensures ∙ c.if-ne.false));
}

pub returns : goal.returns
returns c =
    running-ready c.self.inside c.self.invariant c.args.self.now c.self.view_is c.args.by.now.slot
    c.args.by.now.process c.args.by.now.thread c.requires
    (is-zero c.count.result _ c.count.ensures (sym c.ne.ensures ∙ c.if-ne.false)) c.posted.result.now
    c.posted.ensures c.may_go.result c.may_go.ensures
