use Rattle.std.proofs.Common.{◌+◌, arith, subst}
use Rattle.posix_model.specs.declared.state.ApplyError.{ApplyError}
use Rattle.posix_model.specs.declared.state.ApplyError.TheVariants.{NotAllowed}
use Rattle.posix_model.specs.Machine.{PosixMachine}
use Rattle.posix_model.specs.Opened.{posix_machine}
use Rattle.posix_model.specs.Applied.{IsRefused}
use Rattle.run_check.specs.Judged.{IsRunOf, IsStoppedAt}
use Rattle.run_check.proofs.RunLemmas.{HasCome-open, HasCome-next, stopped_at, run_of}
use Rattle.run_check.proofs.verdict.check.Goals as goal

pub loop-place-init : goal.loop-place-init
loop-place-init c = HasCome-open c.args.script.now (posix_machine c.in_ok-state.state) c.in_ok-state.ensures

pub loop-place-preserved : goal.loop-place-preserved
loop-place-preserved c =
    HasCome-next c.args.script.now c.deref-event-items.result.now c.loop-place.place (posix_machine c.loop-place.state)
    (posix_machine c.apply.new.self) c.event-item.result (omega arith) c.event-item.is c.loop-place.invariant
    c.in-Ok.ensures

pub returns-in-Err-NotAllowed : goal.returns-in-Err-NotAllowed
returns-in-Err-NotAllowed c =
    let old : PosixMachine = posix_machine c.loop-place.state in
    let new : PosixMachine = posix_machine c.apply.new.self in
    let refused : IsRefused old c.event-item.result new (NotAllowed c.in-Err-NotAllowed.rule) =
    subst (λ (x : ApplyError). IsRefused old c.event-item.result new x) c.in-Err-NotAllowed.field-0-is
    c.in-Err-NotAllowed.ensures in
    let stopped : IsStoppedAt c.args.script.now c.deref-event-items.result.now (c.loop-place.place + 2)
    c.in-Err-NotAllowed.rule =
    stopped_at c.args.script.now c.deref-event-items.result.now c.loop-place.place old new c.event-item.result
    c.in-Err-NotAllowed.rule (omega arith) c.event-item.is c.loop-place.invariant refused in
    rw c.in-Err-NotAllowed.rule-is
    (subst (λ es. IsStoppedAt c.args.script.now es (c.loop-place.place + 2) c.in-Err-NotAllowed.rule)
    c.deref-event-items.ensures.value stopped)

pub returns : goal.returns
returns c =
    subst (IsRunOf c.args.script.now) c.deref-event-items.ensures.value
    (run_of c.args.script.now c.deref-event-items.result.now c.loop-place.place (posix_machine c.loop-place.state)
    (omega arith) c.loop-place.invariant)
