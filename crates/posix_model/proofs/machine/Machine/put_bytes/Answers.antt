use Rattle.std.proofs.Common.{◌≡◌, sym, ◌∙◌, ap, subst}
use Rattle.posix_spec.specs.Records.{change_record}
use Rattle.posix_spec.specs.State.{Record, record_of as record_at}
use Rattle.posix_spec.specs.TerminalSteps.{with_read}
use Rattle.posix_model.specs.Machine.{state_of}
use Rattle.posix_model.specs.Reads.{HasRoom}
use Rattle.posix_model.specs.Shown.{record_of}
use Rattle.posix_model.specs.declared.process.Process.{Process}
use Rattle.posix_model.proofs.ChangeLaws.{changed_by}
use Rattle.posix_model.proofs.machine.Machine.put_bytes.Goals as goal

pub read-requires-clause-room : goal.read-requires-clause-room
read-requires-clause-room c =
    let s = state_of c.args.self.now in
    let here : c.from-number.result ≡ c.args.p = c.from-number.ensures ∙ c.get.ensures.value in
    subst (λ (x : Process). HasRoom c.args.place c.args.bytes.now (record_of x)) (sym c.deref_mut.ensures.value)
    (c.requires.room (record_of c.take-process.result.value) (ap (record_at s) (sym here) ∙
    c.take-process.ensures.process))

pub returns-clause-state : goal.returns-clause-state
returns-clause-state c =
    let s = state_of c.args.self.now in
    let f : Record → Record = with_read c.args.place c.args.bytes.now in
    let here : c.from-number.result ≡ c.args.p = c.from-number.ensures ∙ c.get.ensures.value in
    changed_by s c.from-number.result f (record_of c.take-process.result.value) (record_of c.read.new.self) _ _
    c.take-process.ensures.process c.take-process.ensures.rest
    (c.read.ensures ∙ ap (λ (x : Process). f (record_of x)) c.deref_mut.ensures.value)
    c.put.ensures
    ∙ ap (λ n. change_record s n f) here
