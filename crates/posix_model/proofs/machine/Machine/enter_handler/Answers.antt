use Rattle.std.proofs.Common.{◌≡◌, true, sym, ◌∙◌, ap, subst}
use Rattle.vm_spec.specs.Frames.{has_frame_room}
use Rattle.posix_spec.specs.Records.{change_record}
use Rattle.posix_spec.specs.SignalActs.{in_handler}
use Rattle.posix_spec.specs.State.{Record, record_of as record_at}
use Rattle.posix_model.specs.Machine.{state_of}
use Rattle.posix_model.specs.Shown.{record_of}
use Rattle.posix_model.specs.declared.process.Process.{Process}
use Rattle.posix_model.proofs.ChangeLaws.{changed_by}
use Rattle.posix_model.proofs.machine.Machine.enter_handler.Goals as goal

pub enter_handler-requires : goal.enter_handler-requires
enter_handler-requires c =
    let s = state_of c.args.self.now in
    let here : c.from-number.result ≡ c.args.p = c.from-number.ensures ∙ c.get.ensures.value in
    subst (λ (x : Process). has_frame_room (record_of x).image ≡ true) (sym c.deref_mut.ensures.value)
    (c.requires (record_of c.take-process.result.value) (ap (record_at s) (sym here) ∙ c.take-process.ensures.process))

pub returns-clause-state : goal.returns-clause-state
returns-clause-state c =
    let s = state_of c.args.self.now in
    let h = c.args.handling in
    let f : Record → Record = in_handler h.interrupted h.signal.number h.target in
    let here : c.from-number.result ≡ c.args.p = c.from-number.ensures ∙ c.get.ensures.value in
    changed_by s c.from-number.result f (record_of c.take-process.result.value) (record_of
    c.enter_handler.new.self) _ _
    c.take-process.ensures.process c.take-process.ensures.rest
    (c.enter_handler.ensures ∙ ap (λ (x : Process). f (record_of x)) c.deref_mut.ensures.value)
    c.put.ensures
    ∙ ap (λ n. change_record s n f) here
