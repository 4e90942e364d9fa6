use Rattle.std.proofs.Common.{IsSome, ◌∙◌, sym, subst}
use Rattle.win32_spec.specs.Lookup.{thread_at}
use Rattle.win32_spec.specs.WellFormed.{IsWellFormed}
use Rattle.w32_machine.specs.Running.{Running}
use Rattle.w32_machine.proofs.Keeping.{few}
use Rattle.w32_machine.proofs.NextCall.{ready-thread, next-call}
use Rattle.w32_machine.proofs.Readiness.{empty-ready, here, nowhere}
use Rattle.w32_machine.proofs.machine.Machine.next_call.Goals as goal

pub returns-in_default : goal.returns-in_default
returns-in_default c = record {
  formed = subst (λ (r : Running). IsWellFormed r.script r.win32) c.self.view_is c.self.invariant.state;
  idle = sym (empty-ready c.args.self.now.win32 c.args.slot c.args.thread
      (nowhere c.self.inside c.self.invariant c.args.self.now c.self.view_is c.args.slot c.in_slot.result
      c.in_slot.ensures.value c.in_default.is));
}

pub is_ready-requires : goal.is_ready-requires
is_ready-requires c =
    here c.self.inside c.self.invariant c.args.self.now c.self.view_is c.args.slot _ c.in_slot.result
    c.in_slot.ensures.value c.in-Some.is

pub posted-requires : goal.posted-requires
posted-requires c =
    ready-thread c.args.self.now.script c.args.self.now.win32
    (subst (λ (r : Running). IsWellFormed r.script r.win32) c.self.view_is c.self.invariant.state).formed
    c.args.slot c.args.thread (sym c.is_ready.ensures ∙ c.if-not-is_ready.false)

pub returns : goal.returns
returns c =
    let formed = subst (λ (r : Running). IsWellFormed r.script r.win32) c.self.view_is c.self.invariant.state in
    let ready = sym c.is_ready.ensures ∙ c.if-not-is_ready.false in
    let some = subst (λ (r : Running). IsSome (thread_at r.win32 c.args.slot c.args.thread)) (sym c.self.view_is)
    (ready-thread c.args.self.now.script c.args.self.now.win32 formed.formed c.args.slot c.args.thread ready) in
    next-call c.args.self.now formed c.args.slot c.args.thread c.in-Some.process c.posted.result.now ready
    (here c.self.inside c.self.invariant c.args.self.now c.self.view_is c.args.slot _ c.in_slot.result
    c.in_slot.ensures.value c.in-Some.is)
    (few c.self.inside c.self.invariant c.args.slot c.args.thread some) c.posted.ensures
