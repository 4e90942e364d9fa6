use Rattle.std.proofs.Common.{◌≡◌, sym, ◌∙◌, ap, subst}
use Rattle.posix_spec.specs.Records.{change_record}
use Rattle.posix_spec.specs.SignalCalls.{returned}
use Rattle.posix_spec.specs.State.{record_of as record_at}
use Rattle.posix_model.specs.Handled.{HasFrame}
use Rattle.posix_model.specs.Machine.{state_of}
use Rattle.posix_model.specs.Shown.{record_of}
use Rattle.posix_model.specs.declared.process.Process.{Process}
use Rattle.posix_model.proofs.ChangeLaws.{changed_by}
use Rattle.posix_model.proofs.machine.Machine.leave_handler.Goals as goal

pub leave_handler-requires : goal.leave_handler-requires
leave_handler-requires c =
    let s = state_of c.args.self.now in
    let here : c.from-number.result ≡ c.args.p = c.from-number.ensures ∙ c.get.ensures.value in
    subst (λ (x : Process). HasFrame (record_of x)) (sym c.deref_mut.ensures.value)
    (c.requires (record_of c.take-process.result.value) (ap (record_at s) (sym here) ∙ c.take-process.ensures.process))

pub returns-clause-state : goal.returns-clause-state
returns-clause-state c =
    let s = state_of c.args.self.now in
    let here : c.from-number.result ≡ c.args.p = c.from-number.ensures ∙ c.get.ensures.value in
    changed_by s c.from-number.result returned (record_of c.take-process.result.value) (record_of
    c.leave_handler.new.self) _ _
    c.take-process.ensures.process c.take-process.ensures.rest
    (c.leave_handler.ensures ∙ ap (λ (x : Process). returned (record_of x)) c.deref_mut.ensures.value)
    c.put.ensures
    ∙ ap (λ n. change_record s n returned) here
