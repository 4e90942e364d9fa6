use Rattle.std.proofs.Common.{◌∙◌, ap}
use Rattle.posix_spec.specs.State.{Record}
use Rattle.posix_spec.specs.Sending.{owed_more}
use Rattle.posix_model.specs.Machine.{state_of}
use Rattle.posix_model.specs.Shown.{record_of}
use Rattle.posix_model.specs.declared.process.Process.{Process}
use Rattle.posix_model.proofs.ChangeLaws.{changed_by}
use Rattle.posix_model.proofs.machine.Machine.owe_more.Goals as goal

pub returns-clause-state : goal.returns-clause-state
returns-clause-state c =
    let f : Record → Record = owed_more in
    changed_by (state_of c.args.self.now) c.args.number f (record_of c.take-process.result.value) (record_of
    c.owe_more.new.self) _ _
    c.take-process.ensures.process c.take-process.ensures.rest
    (c.owe_more.ensures ∙ ap (λ (p : Process). f (record_of p)) c.deref_mut.ensures.value)
    c.put.ensures
